use Rattle.std.proofs.Common.{◌≡◌, ◌∙◌, ap, ◌<◌, List, [], ◌∷◌, ℕ, zero, suc, length, take, map, set, get_or, arith, rules}
use Rattle.table_slices.specs.Writes.{over}
use Rattle.table.specs.Spelled.{Row}
use Rattle.lent_entries.specs.Lent.{entry_of}
use Rattle.lent_entries.specs.declared.Entry.{Entry}
use Rattle.lent_entries.proofs.Copying.{copied, copied_next, copied_last, put_rows}
use Rattle.lent_entries.proofs.put_back.Goals as goal
use borrow.Kind.Array.{e_arr, e_int}
use denote.Array.{each}
use denote.Shadow.{shadow}
use mir.Syntax.{w32}
use mir.Val.{Val}

-- each row is an array of five numbers
five : (rows : List Row) (us : List Val) → shadow (each (e_arr (e_int w32) 5).ty.Denot (e_arr (e_int w32) 5).ty.own_val rows us) → (k : ℕ) → k < length rows →
    length (get_or rows k []) ≡ 5
five [] us h k l = absurd (omega arith)
five (r ∷ rows) [] h k l = absurd h
five (r ∷ rows) (u ∷ us) h zero l = h.0.1.0.1
five (r ∷ rows) (u ∷ us) h (suc k) l = five rows us h.1 k (omega arith)

pub loop-k-preserved : goal.loop-k-preserved
loop-k-preserved c =
    let k = c.loop-k.k in
    let items = take c.args.n c.args.rows in
    ap (λ (r : List Entry). set r k c.from.result) c.loop-k.invariant
    ∙ ap (set (copied entry_of items c.args.entries.now k) k) c.from.ensures
    ∙ copied_next entry_of items c.args.entries.now k _ (omega arith) (search rules)

pub returns : goal.returns
returns c =
    let rows : List Row = c.args.rows in
    let n = c.args.n in
    let e : c.loop-k.entries ≡ over c.args.entries.now (map entry_of (take n rows)) =
    c.loop-k.invariant ∙ copied_last entry_of (take n rows) c.args.entries.now c.loop-k.k (omega arith) in
    (e, put_rows n rows (λ k u v. five rows _ c.well_formed.1.1.0.1.1 k v) c.args.entries.now c.loop-k.entries e)
