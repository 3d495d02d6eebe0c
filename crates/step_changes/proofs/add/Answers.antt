use mathlib.Core.List.{[]}
use native.Mathlib.Omega.{arith}
use Rattle.table_write.specs.Moved.{NewClause}
use Rattle.judge_checks.proofs.Order.{handed_on}
use Rattle.step_changes.proofs.Passing.{unmoved, add_passed}
use Rattle.step_changes.proofs.add.Goals as goal

pub returns-in_err-judge_add : goal.returns-in_err-judge_add
returns-in_err-judge_add c = rw (handed_on _ _ c.from_residual.ensures.1) (c.in_err-judge_add.ensures, unmoved)

pub append-requires : goal.append-requires
append-requires c =
    let new : NewClause c.args.t c.args.pool.now c.args.id c.args.c.now = add_passed c.requires.0 _ _ c.requires.1 c.requires.2 c.in_ok-judge_add.ensures.0 in
    (c.requires.0, new, omega arith)

pub returns : goal.returns
returns c = (c.in_ok-judge_add.ensures.0, c.append.ensures [])
