use Rattle.rules.specs.Frames.{PROMOTE}
use Rattle.judge_checks.specs.Located.{RowOf}
use Rattle.judge_checks.proofs.Order.{handed_on}
use Rattle.step_changes.proofs.Passing.{unmoved, of_row}
use Rattle.step_changes.proofs.promote.Goals as goal

pub returns-in_err-row : goal.returns-in_err-row
returns-in_err-row c = rw (handed_on _ _ c.from_residual.ensures.1) (c.in_err-row.ensures.1, unmoved)

pub returns : goal.returns
returns c =
    let row : RowOf c.args.t c.args.rows.now 1 c.args.id c.in_ok-row.row = c.in_ok-row.ensures.1.1 in
    (c.in_ok-row.ensures.1.0, of_row (λ p i. PROMOTE i) row c.promote.ensures)
