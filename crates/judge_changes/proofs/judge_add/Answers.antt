-- Each return cites the checks before it.
use mathlib.Core.Path.{◌≡◌, refl, sym, ◌∙◌}
use lib.Dec.{ltb}
use Rattle.std.specs.Prelude.{Ok}
use Rattle.rules.specs.Answers.{◌then◌, need, flaw, unseen, check}
use Rattle.rules.specs.declared.Fault.TheVariants.{Id}
use Rattle.rules.proofs.Checks.{then_left}
use Rattle.lit_clause.proofs.Faults.{flaw_in}
use Rattle.table.proofs.Readers.{readable}
use Rattle.judge_checks.proofs.Order.{goes_on, stops, in_two, handed_on}
use Rattle.judge_checks.proofs.Stack.{stacked}
use Rattle.judge_changes.proofs.judge_add.Goals as goal

pub returns-in_err-new_clause : goal.returns-in_err-new_clause
unfolding check
returns-in_err-new_clause c =
    rw (handed_on _ _ c.from_residual.ensures.1)
    (in_two _ _ _ ∙ stops (sym c.new_clause.ensures ∙ c.in_err-new_clause.was) _)

pub cleanly-requires : goal.cleanly-requires
cleanly-requires c =
    let sound : (flaw c.args.t.vars unseen 2 c.args.c.now then need (ltb c.args.t.highest c.args.id) (Id c.args.id)) ≡ Ok tt = sym c.new_clause.ensures ∙ c.in_ok-new_clause.was in
    let f = c.requires.0 in
    (readable f, stacked f, flaw_in _ _ _ f.vars_fit.1 (then_left _ _ sound))

pub returns-in_err-cleanly : goal.returns-in_err-cleanly
unfolding check
returns-in_err-cleanly c =
    let sound = goes_on (sym c.new_clause.ensures ∙ c.in_ok-new_clause.was) _ in
    rw (handed_on _ _ c.from_residual-in_err-cleanly.ensures.1)
    (in_two _ _ _ ∙ sound ∙ stops (sym c.cleanly.ensures ∙ c.in_err-cleanly.was) _)

pub returns-in_err-free : goal.returns-in_err-free
unfolding check
returns-in_err-free c =
    let sound = goes_on (sym c.new_clause.ensures ∙ c.in_ok-new_clause.was) _ in
    let clean = goes_on (sym c.cleanly.ensures ∙ c.in_ok-cleanly.was) _ in
    rw (handed_on _ _ c.from_residual-in_err-free.ensures.1)
    (in_two _ _ _ ∙ sound ∙ clean ∙ sym c.free.ensures ∙ c.in_err-free.was)

pub returns : goal.returns
unfolding check
returns c =
    let sound = goes_on (sym c.new_clause.ensures ∙ c.in_ok-new_clause.was) _ in
    let clean = goes_on (sym c.cleanly.ensures ∙ c.in_ok-cleanly.was) _ in
    (in_two _ _ _ ∙ sound ∙ clean ∙ sym c.free.ensures ∙ c.in_ok-free.was, refl)
