use Rattle.std.proofs.Common.{sym, ◌∙◌, arith, rules}
use Rattle.table.proofs.Finding.{nowhere}
use Rattle.lent.proofs.Ticking.{ticked_start, ticked_end, unstacked, misplaced, repeated, ticked_next}
use Rattle.lent.proofs.lists_each_once.Goals as goal

pub loop-id-init : goal.loop-id-init
loop-id-init c = ticked_start _ _ c.requires.1

pub returns-in_default : goal.returns-in_default
returns-in_default c = unstacked _ _ c.loop-id.invariant c.loop-id-test.true (λ pool. nowhere pool _ _ c.in_default.ensures 2)

pub returns-then-place_at-ne2 : goal.returns-then-place_at-ne2
returns-then-place_at-ne2 c = misplaced _ _ c.loop-id.invariant c.loop-id-test.true c.requires.0 c.in-Some.k c.in-Some.ensures (λ e. c.if-place_at-ne2.true (c.place_at.ensures ∙ e))

pub returns-then-marks-k : goal.returns-then-marks-k
returns-then-marks-k c = repeated _ _ c.loop-id.invariant c.loop-id-test.true c.requires.0 c.in-Some.k c.in-Some.ensures c.if-marks-k.true

pub loop-id-preserved : goal.loop-id-preserved
loop-id-preserved c =
    ticked_next _ _ c.loop-id.invariant c.loop-id-test.true c.requires.0 c.in-Some.k c.in-Some.ensures (sym c.place_at.ensures ∙ c.if-place_at-ne2.false) c.if-marks-k.false

pub returns : goal.returns
returns c = ticked_end _ _ c.loop-id.invariant (search rules) (omega (arith, c.count_stacked.ensures))
