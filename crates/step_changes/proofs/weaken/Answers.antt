use Rattle.rules.specs.Frames.{WEAKEN}
use Rattle.weaken_write.specs.Records.{Weakenable}
use Rattle.judge_checks.specs.Located.{RowOf}
use Rattle.judge_checks.proofs.Order.{handed_on}
use Rattle.step_changes.proofs.Passing.{unmoved, of_row, weakenable}
use Rattle.step_changes.proofs.weaken.Goals as goal

pub returns-in_err-row : goal.returns-in_err-row
returns-in_err-row c = rw (handed_on _ _ c.from_residual.ensures.1) (c.in_err-row.ensures, unmoved)

pub weaken-requires : goal.weaken-requires
weaken-requires c =
    let row : RowOf c.args.t c.args.rows.now 0 c.args.id c.in_ok-row.row = c.in_ok-row.ensures.1 in
    let weak : Weakenable c.args.t c.args.rows.now c.args.pool.now c.in_ok-row.row c.args.witness.now = weakenable c.requires.0 _ _ c.requires.1 row c.in_ok-row.ensures.0 in
    (c.requires.0, weak)

pub returns : goal.returns
returns c =
    let row : RowOf c.args.t c.args.rows.now 0 c.args.id c.in_ok-row.row = c.in_ok-row.ensures.1 in
    (c.in_ok-row.ensures.0, of_row (λ p i. WEAKEN i c.args.witness.now c.args.groups.now) row (c.weaken.ensures _))
