use Rattle.std.proofs.Common.{◌≡◌, ◌∙◌, ap, List, length, min, take, map, set, arith, rules}
use Rattle.std.proofs.lemmas.List.{take_min}
use Rattle.table_slices.specs.Writes.{over}
use Rattle.table.specs.Spelled.{Row}
use Rattle.lent_entries.specs.Lent.{row_of, vacant_rows}
use Rattle.lent_entries.specs.declared.Entry.{Entry}
use Rattle.lent_entries.proofs.Copying.{copied, copied_next, copied_last}
use Rattle.lent_entries.proofs.take_in.Goals as goal

pub loop-i-preserved : goal.loop-i-preserved
loop-i-preserved c = let i = c.loop-i.i in
    let long : length vacant_rows ≡ 1280 = search rules in
    ap (λ (r : List Row). set r i c.from.result) c.loop-i.invariant
    ∙ ap (set (copied row_of (take c.min-n.result c.args.entries.now) vacant_rows i) i) c.from.ensures
    ∙ copied_next row_of (take c.min-n.result c.args.entries.now) vacant_rows i _ (omega arith) (search rules)

pub returns : goal.returns
returns c =
    let entries = c.args.entries.now in
    let few : min c.args.count 1024 ≡ min 1024 c.args.count = omega arith in
    let held : take c.min-n.result entries ≡ take (min 1024 c.args.count) entries =
    ap (λ n. take n entries) (c.min-n.ensures ∙ ap (λ n. min n (length entries)) (c.min.ensures ∙ few)) ∙ take_min (min 1024 c.args.count) entries in
    c.loop-i.invariant ∙ copied_last row_of (take c.min-n.result entries) vacant_rows c.loop-i.i (omega arith)
    ∙ ap (λ (x : List Entry). over vacant_rows (map row_of x)) held
