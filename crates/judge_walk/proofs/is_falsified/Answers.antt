use mathlib.Core.Path.{sym, ◌∙◌, ap}
use mathlib.Core.Bool.{not}
use Rattle.rules.specs.Terms.{sat}
use Rattle.lit_sets.specs.Words.{assigned}
use Rattle.judge_walk.proofs.Walks.{elsewhere, irredundant_row}
use Rattle.judge_walk.proofs.is_falsified.Goals as goal

pub returns-then-place_at-eq0 : goal.returns-then-place_at-eq0
returns-then-place_at-eq0 c =
    ap not (c.satisfied.ensures ∙ ap (sat (assigned _)) c.clause_of.ensures)
    ∙ sym (irredundant_row _ _ _ (sym c.place_at.ensures ∙ c.if-place_at-eq0.true))

pub returns : goal.returns
returns c = sym (elsewhere _ _ _ (λ q. c.if-place_at-eq0.false (c.place_at.ensures ∙ q)))
