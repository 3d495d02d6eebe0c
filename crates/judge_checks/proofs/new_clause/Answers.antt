use mathlib.Core.Path.{◌≡◌, sym, ◌∙◌}
use borrow.Author.Tests.{lt-ltb, le-ltb}
use Rattle.std.specs.Prelude.{Ok}
use Rattle.rules.specs.Answers.{flaw, unseen}
use Rattle.judge_checks.proofs.Order.{goes_on, stops, met, unmet, handed_on}
use Rattle.judge_checks.proofs.new_clause.Goals as goal

pub returns-in_err-flaw : goal.returns-in_err-flaw
returns-in_err-flaw c =
    handed_on _ _ c.from_residual.ensures.1 ∙ sym (stops (sym c.flaw.ensures ∙ c.in_err-flaw.was) _)

pub returns-then-id-t : goal.returns-then-id-t
returns-then-id-t c =
    let unflawed : let a = c.args in flaw a.t.vars unseen a.at a.c.now ≡ Ok tt = sym c.flaw.ensures ∙ c.in_ok-flaw.was in
    sym (goes_on unflawed _ ∙ unmet (le-ltb _ _ c.if-id-t.true) _)

pub returns : goal.returns
returns c =
    let unflawed : let a = c.args in flaw a.t.vars unseen a.at a.c.now ≡ Ok tt = sym c.flaw.ensures ∙ c.in_ok-flaw.was in
    sym (goes_on unflawed _ ∙ met (lt-ltb _ _ c.if-id-t.false) _)
