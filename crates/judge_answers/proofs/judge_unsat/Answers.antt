-- Each return cites the checks before it.
use mathlib.Core.Path.{◌≡◌, refl, sym, ◌∙◌, ap}
use mathlib.Core.List.{map}
use Prim.Native.Nat.{◌+◌}
use lib.IntN.{neg_ℤ}
use lib.ListN.{length}
use borrow.Author.Rules.{rules}
use Rattle.std.specs.Prelude.{Ok}
use Rattle.rules.specs.Propagation.{proves}
use Rattle.rules.specs.Answers.{ranged, decided, check}
use Rattle.lit_clause.proofs.Faults.{ranged_in}
use Rattle.table.proofs.Readers.{readable}
use Rattle.judge_propagate.proofs.Scopes.{allows_all}
use Rattle.judge_checks.proofs.Order.{goes_on, stops, handed_on}
use Rattle.judge_checks.proofs.Verdicts.{stopped_within}
use Rattle.judge_answers.proofs.judge_unsat.Goals as goal

pub returns-in_err-ranged : goal.returns-in_err-ranged
unfolding check
returns-in_err-ranged c =
    rw (handed_on _ _ c.from_residual.ensures.1) (stops (sym c.ranged.ensures ∙ c.in_err-ranged.was) _)

pub refutes-verdict-requires : goal.refutes-verdict-requires
refutes-verdict-requires c =
    let in_reach : ranged c.args.t.vars 2 c.args.assumed.now ≡ Ok tt = sym c.ranged.ensures ∙ c.in_ok-ranged.was in
    (readable c.requires.0, ranged_in _ _ _ c.requires.0.vars_fit.1 in_reach)

pub decided-requires : goal.decided-requires
decided-requires c = (search rules, stopped_within _ _ _ _ c.requires.2 c.refutes-verdict.ensures)

pub returns-in_err-decided : goal.returns-in_err-decided
unfolding check
returns-in_err-decided c =
    let a = c.args in
    let in_reach = goes_on (sym c.ranged.ensures ∙ c.in_ok-ranged.was) _ in
    rw (handed_on _ _ c.from_residual-in_err-decided.ensures.1)
    (in_reach
    ∙ sym (c.decided.ensures ∙ ap (decided (2 + length a.assumed.now) 0) (c.refutes-verdict.ensures
    ∙ ap (λ A. proves A (map neg_ℤ a.assumed.now) a.hints.now)
    (allows_all (search rules) (readable c.requires.0) c.requires.0.core.listed)))
    ∙ c.in_err-decided.was)

pub returns : goal.returns
unfolding check
returns c =
    let a = c.args in
    let in_reach = goes_on (sym c.ranged.ensures ∙ c.in_ok-ranged.was) _ in (
      in_reach
          ∙ sym (c.decided.ensures ∙ ap (decided (2 + length a.assumed.now) 0) (c.refutes-verdict.ensures
          ∙ ap (λ A. proves A (map neg_ℤ a.assumed.now) a.hints.now)
          (allows_all (search rules) (readable c.requires.0) c.requires.0.core.listed)))
          ∙ c.in_ok-decided.was,
      refl,
    )
