use Rattle.std.proofs.Common.{◌≡◌, ◌+◌, [], arith, rules}
use Rattle.rules.proofs.Lists.{all_index}
use Rattle.table.specs.Spelled.{row_at, start_of, size}
use Rattle.lent.specs.State.{inside}
use Rattle.lent.proofs.Judged.{inside_filled}
use Rattle.lent.proofs.Parts.{takes_row, parted_start, parted_end, parted_overlap, parted_next}
use Rattle.lent.proofs.are_apart.Goals as goal

pub loop-row-init : goal.loop-row-init
loop-row-init c = parted_start _

pub mark_part-requires : goal.mark_part-requires
mark_part-requires c =
    let row = row_at c.args.rows.now c.loop-row.row-index in
    let e : c.wide-start.result + c.size_of.result ≡ start_of row + size row = omega (arith, c.wide-start.ensures.0, c.size_of.ensures) in
    (omega arith, λ h. omega (arith, c.loop-row.invariant.room, inside_filled _ row (all_index (inside c.args.words) c.args.rows.now _ [] c.loop-row-test.true c.requires.0) (omega arith)))

pub returns-then-not-mark_part : goal.returns-then-not-mark_part
returns-then-not-mark_part c =
    parted_overlap _ c.loop-row.invariant c.loop-row-test.true c.mark_part.new.marks
    (takes_row (row_at c.args.rows.now c.loop-row.row-index) _ _ c.wide-start.ensures.0 c.size_of.ensures.0 c.if-not-mark_part.true c.mark_part.ensures)

pub loop-row-preserved : goal.loop-row-preserved
loop-row-preserved c =
    parted_next _ c.loop-row.invariant c.loop-row-test.true
    (takes_row (row_at c.args.rows.now c.loop-row.row-index) _ _ c.wide-start.ensures.0 c.size_of.ensures.0 c.if-not-mark_part.false c.mark_part.ensures)

pub returns : goal.returns
returns c = parted_end _ c.loop-row.invariant (search rules)
