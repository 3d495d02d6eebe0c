use Rattle.table.proofs.Readers.{readable}
use Rattle.judge_checks.proofs.Order.{handed_on}
use Rattle.judge_checks.proofs.Stack.{stacked}
use Rattle.step_answers.proofs.Mending.{sat_refused, sat_accepted}
use Rattle.step_answers.proofs.sat.Goals as goal

pub returns-in_err-offered : goal.returns-in_err-offered
returns-in_err-offered c = rw (handed_on _ _ c.from_residual.ensures.1) (sat_refused _ c.in_err-offered.ensures)

pub mend-mended-requires : goal.mend-mended-requires
mend-mended-requires c = let f = c.requires.0 in (readable f, stacked f)

pub returns : goal.returns
returns c =
    sat_accepted c.requires.0 c.args.assumed.now c.args.vs.now c.in_ok-offered.ensures.0 _
    c.in_ok-offered.offered c.mend-mended.result c.changed-changed.result c.in_ok-offered.ensures.1 c.mend-mended.ensures c.changed-changed.ensures
