-- Each return cites the checks before it.
use mathlib.Core.Path.{◌≡◌, sym, ◌∙◌}
use Rattle.table.proofs.Readers.{readable}
use Rattle.judge_checks.proofs.Order.{goes_on, stops, handed_on}
use Rattle.judge_checks.proofs.Stack.{stacked}
use Rattle.judge_answers.proofs.judge_offered.Goals as goal

pub returns-in_err-assumed_true : goal.returns-in_err-assumed_true
returns-in_err-assumed_true c =
    handed_on _ _ c.from_residual.ensures.1 ∙ sym (stops (sym c.assumed_true.ensures ∙ c.in_err-assumed_true.was) _)

pub cleanly-requires : goal.cleanly-requires
cleanly-requires c = (readable c.requires.0, stacked c.requires.0, c.requires.2)

pub returns-in_err-cleanly : goal.returns-in_err-cleanly
returns-in_err-cleanly c =
    let hold = goes_on (sym c.assumed_true.ensures ∙ c.in_ok-assumed_true.was) _ in
    handed_on _ _ c.from_residual-in_err-cleanly.ensures.1 ∙ sym (hold ∙ stops (sym c.cleanly.ensures ∙ c.in_err-cleanly.was) _)

pub satisfied-requires : goal.satisfied-requires
satisfied-requires c = readable c.requires.0

pub returns : goal.returns
returns c =
    let hold = goes_on (sym c.assumed_true.ensures ∙ c.in_ok-assumed_true.was) _ in
    c.satisfied.ensures ∙ sym (hold ∙ goes_on (sym c.cleanly.ensures ∙ c.in_ok-cleanly.was) _)
