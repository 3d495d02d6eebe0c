-- Each return cites the checks before it.
use mathlib.Core.Path.{◌≡◌, refl, sym, ◌∙◌, ap}
use Prim.Native.Nat.{◌+◌}
use lib.Dec.{ltb}
use lib.ListN.{length}
use borrow.Author.Rules.{rules}
use Rattle.std.specs.Prelude.{Ok}
use Rattle.rules.specs.Propagation.{proves}
use Rattle.rules.specs.Answers.{◌then◌, need, flaw, unseen, decided, check}
use Rattle.rules.specs.declared.Fault.TheVariants.{Id}
use Rattle.rules.proofs.Checks.{then_left}
use Rattle.lit_clause.proofs.Faults.{flaw_in}
use Rattle.table.proofs.Readers.{readable}
use Rattle.judge_propagate.proofs.Scopes.{allows_all}
use Rattle.judge_checks.proofs.Order.{goes_on, stops, in_two, handed_on}
use Rattle.judge_checks.proofs.Verdicts.{stopped_within}
use Rattle.judge_changes.proofs.judge_learn.Goals as goal

pub returns-in_err-new_clause : goal.returns-in_err-new_clause
unfolding check
returns-in_err-new_clause c =
    rw (handed_on _ _ c.from_residual.ensures.1)
    (in_two _ _ _ ∙ stops (sym c.new_clause.ensures ∙ c.in_err-new_clause.was) _)

pub returns-in_err-free : goal.returns-in_err-free
unfolding check
returns-in_err-free c =
    let sound = goes_on (sym c.new_clause.ensures ∙ c.in_ok-new_clause.was) _ in
    rw (handed_on _ _ c.from_residual-in_err-free.ensures.1)
    (in_two _ _ _ ∙ sound ∙ in_two _ _ _ ∙ stops (sym c.free.ensures ∙ c.in_err-free.was) _)

pub proves-verdict-requires : goal.proves-verdict-requires
proves-verdict-requires c =
    let sound : (flaw c.args.t.vars unseen 3 c.args.c.now then need (ltb c.args.t.highest c.args.id) (Id c.args.id)) ≡ Ok tt = sym c.new_clause.ensures ∙ c.in_ok-new_clause.was in
    let f = c.requires.0 in
    (readable f, flaw_in _ _ _ f.vars_fit.1 (then_left _ _ sound))

pub decided-requires : goal.decided-requires
decided-requires c = (search rules, stopped_within _ _ _ _ c.requires.2 c.proves-verdict.ensures)

pub returns-in_err-decided : goal.returns-in_err-decided
unfolding check
returns-in_err-decided c =
    let sound = goes_on (sym c.new_clause.ensures ∙ c.in_ok-new_clause.was) _ in
    let spare = goes_on (sym c.free.ensures ∙ c.in_ok-free.was) _ in
    let i = c.args in
    rw (handed_on _ _ c.from_residual-in_err-decided.ensures.1)
    (in_two _ _ _ ∙ sound ∙ in_two _ _ _ ∙ spare
    ∙ sym (c.decided.ensures ∙ ap (decided (3 + length i.c.now) 0) (c.proves-verdict.ensures
    ∙ ap (λ A. proves A i.c.now i.hints.now) (allows_all (search rules) (readable c.requires.0) c.requires.0.core.listed)))
    ∙ c.in_err-decided.was)

pub returns : goal.returns
unfolding check
returns c =
    let sound = goes_on (sym c.new_clause.ensures ∙ c.in_ok-new_clause.was) _ in
    let spare = goes_on (sym c.free.ensures ∙ c.in_ok-free.was) _ in
    let i = c.args in (
      in_two _ _ _ ∙ sound ∙ in_two _ _ _ ∙ spare
          ∙ sym (c.decided.ensures ∙ ap (decided (3 + length i.c.now) 0) (c.proves-verdict.ensures
          ∙ ap (λ A. proves A i.c.now i.hints.now) (allows_all (search rules) (readable c.requires.0) c.requires.0.core.listed)))
          ∙ c.in_ok-decided.was,
      refl,
    )
