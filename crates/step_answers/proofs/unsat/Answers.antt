use mathlib.Core.Path.{sym, ◌∙◌, ap}
use Rattle.judge_checks.proofs.Order.{handed_on}
use Rattle.step_outcome.specs.Told.{answer_of}
use Rattle.step_answers.proofs.unsat.Goals as goal

pub returns-in_err-judge_unsat : goal.returns-in_err-judge_unsat
returns-in_err-judge_unsat c = handed_on _ _ c.from_residual.ensures.1 ∙ sym (ap answer_of c.in_err-judge_unsat.ensures)

pub returns : goal.returns
returns c = sym (ap answer_of c.in_ok-judge_unsat.ensures.0)
