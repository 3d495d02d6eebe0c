-- What a working table leaves is a state, and the one that the table spells: so what is stored back after an accepted frame is what the paper says.
-- Of the entries, those held are the table's rows, where no clause is gone; what stands behind them does not count.
use mathlib.Core.Path.{◌≡◌, refl, sym, ap, ◌∙◌}
use mathlib.Core.Bool.{Bool, true, false}
use mathlib.Core.List.{List, ◌++◌}
use mathlib.Core.Option.{some}
use Prim.Native.Nat.{ℕ}
use native.Mathlib.Omega.{arith}
use lib.IntN.{ℤ}
use lib.ListN.{length, take, length-append}
use borrow.Author.Tests.{lt-ltb, le-leb, eq-eqb}
use lib.Seq.{length-take-le, take-append-le}
use Rattle.rules.specs.Lists.{all_pass}
use Rattle.rules.specs.Terms.{State}
use Rattle.rules.proofs.Lists.{and_both, true-false}
use Rattle.table.specs.Facts.{total}
use Rattle.table.specs.Spelled as working
use Rattle.table.specs.Spelled.{Row, place_of, size, held, clauses, Fit}
use Rattle.table.specs.declared.Table.{Table}
use Rattle.table.proofs.Facts.{all_both}
use Rattle.table.proofs.Clauses.{clauses_rising}
use Rattle.lent.specs.State.{lawful, lists, numbers_are, counts_are, rows_are, is_state, state_of, state_carried}
use Rattle.lent.specs.Stored.{carried_of, PutsBack}
use Rattle.lent.specs.declared.Carried.{Carried}
use Rattle.lent.proofs.Tests.{all_test, two_test}
use Rattle.lent.proofs.Judged.{others_test, known_test, lawful_test, none_gone, inside_test, clear_test}
use Rattle.lent.proofs.Listing.{settled_rising, lists_test, listed_length}

-- two tables of one length that hold the same rows spell the same
pub spelled_held : (c : Carried) (rows lent : List Row) (pool : List ℤ) → take c.count rows ≡ take c.count lent → length rows ≡ length lent →
    state_carried c rows pool ≡ state_carried c lent pool
unfolding is_state state_of
spelled_held c rows lent pool e n = rw (e, n)

-- ---- from a working table

module _ {t : Table} {rows : List Row} {pool : List ℤ} {stack : List ℕ} (f : Fit t rows pool stack)
    (stay : t.gone ≡ 0)
    (lent : List Row) (same : take t.count lent ≡ take t.count rows) (long : length lent ≡ t.entries) where
  abbrev c : Carried
  c = carried_of t stack

  abbrev rs : List Row
  rs = take t.count rows

  numbers : numbers_are c lent pool ≡ true
  numbers = and_both (and_both (lt-ltb 0 t.vars f.vars_fit.0) (le-leb t.vars 2048 f.vars_fit.1)) (le-leb t.highest 2147483647 f.highest_fit)

  -- the stack is as deep as there are stacked clauses
  deep : t.depth ≡ length (clauses 2 pool rs)
  deep = sym (length-take-le t.depth stack f.stack_fit) ∙ listed_length (take t.depth stack) (clauses 2 pool rs) f.core.listed

  counts : counts_are c lent pool ≡ true
  counts =
      let n = f.held_fit in
      rw same (and_both (le-leb t.count (length lent) (omega arith))
      (and_both (eq-eqb t.words (total size rs) f.core.counted) (eq-eqb t.depth _ deep)))

  laws : all_pass (λ r. lawful t.vars (place_of r) (held pool r)) rs ≡ true
  laws =
      all_test (λ r l. l) (all_both (λ r n l. lawful_test t.vars (held pool r) (place_of r) n l) (none_gone rs (sym f.gone_fit ∙ stay)) f.core.lawful)

  judged : rows_are c lent pool ≡ true
  judged =
      let k = f.core in
      rw same (and_both (others_test rs k.rising)
      (and_both (all_test (λ r h. known_test t.highest r h) k.known)
      (and_both laws
      (and_both (all_test (λ r h. inside_test t.top (length pool) r f.pool_fit h) k.inside)
      (two_test (λ r x h. clear_test r x h) k.apart)))))

  listing : lists (take t.depth stack) (clauses 2 pool (take t.count lent)) ≡ true
  listing = rw same (lists_test (take t.depth stack) (clauses 2 pool rs) f.core.listed)

  pub stored_is_state : is_state c lent pool ≡ true
  unfolding is_state
  stored_is_state = and_both numbers (and_both counts (and_both judged listing))

  pub stored_spells : state_of c lent pool ≡ working.spelled t rows pool stack
  unfolding state_of
  stored_spells =
      let a = settled_rising (clauses 0 pool rs) (clauses_rising 0 pool f.core.rising) in
      let b = settled_rising (clauses 1 pool rs) (clauses_rising 1 pool f.core.rising) in
      rw (same, long, a, b)

-- ---- what goes back over a table of n entries

-- after an accepted change the rows of a working table for so many entries
pub stored_back : {t : Table} {rows : List Row} {pool : List ℤ} {stack : List ℕ} → Fit t rows pool stack → t.gone ≡ 0 →
    {altered : Bool} {n : ℕ} {s s' : State} {c : Carried} {pool₀ : List ℤ} → altered ≡ true → t.entries ≡ n → working.spelled t rows pool stack ≡ s' →
    PutsBack altered n c pool₀ s t.count (carried_of t stack) rows pool s'
stored_back f stay a sized spells = record {
  bounded = (omega (arith, f.held_fit), f.rows_fit);
  stores = λ _ back long front.
      let n = long ∙ sym sized in
      let good = stored_is_state f stay back front n in
      rw good (ap some (stored_spells f stay back front n ∙ spells));
  leaves = λ u. true-false a u;
}

-- else nothing
pub nothing_back : {altered : Bool} {n : ℕ} {s s' : State} {c : Carried} {pool pool' : List ℤ} {rows : List Row} → altered ≡ false → pool' ≡ pool → s' ≡ s →
    PutsBack altered n c pool s 0 c rows pool' s'
nothing_back u p e = record { bounded = (omega arith, omega arith); stores = λ a. true-false a u; leaves = λ _. (refl, p, refl, e) }

-- what stands behind the rows that go back does not count
pub back_longer : {altered : Bool} {n : ℕ} {s s' : State} {c c' : Carried} {pool pool' : List ℤ} {k : ℕ} {rows : List Row} (more : List Row) →
    PutsBack altered n c pool s k c' rows pool' s' → PutsBack altered n c pool s k c' (rows ++ more) pool' s'
back_longer {k = k} {rows = rows} more b = record {
  bounded = (b.bounded.0, omega (arith, b.bounded.1, length-append rows more));
  stores = λ a back long front. b.stores a back long (front ∙ take-append-le k rows more b.bounded.1);
  leaves = b.leaves;
}
