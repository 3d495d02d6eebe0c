-- Each return cites the checks before it.
use mathlib.Core.Path.{◌≡◌, sym, ◌∙◌, ap}
use Prim.Native.Nat.{◌+◌}
use lib.ListN.{length}
use Rattle.std.specs.Prelude.{Ok}
use Rattle.rules.specs.Answers.{ranged, ascending, check}
use Rattle.lit_clause.proofs.Faults.{ranged_in}
use Rattle.lit_sets.proofs.Made.{ascending_offers}
use Rattle.table.specs.Spelled.{spelled}
use Rattle.judge_answers.specs.Offered.{check_offered}
use Rattle.judge_checks.proofs.Order.{goes_on, stops, handed_on}
use Rattle.judge_answers.proofs.judge_sat.Goals as goal

pub returns-in_err-ranged : goal.returns-in_err-ranged
unfolding check
returns-in_err-ranged c =
    rw (handed_on _ _ c.from_residual.ensures.1) (stops (sym c.ranged.ensures ∙ c.in_err-ranged.was) _)

pub returns-in_err-ascending : goal.returns-in_err-ascending
unfolding check
returns-in_err-ascending c =
    let in_reach = goes_on (sym c.ranged.ensures ∙ c.in_ok-ranged.was) _ in
    rw (handed_on _ _ c.from_residual-in_err-ascending.ensures.1) (in_reach ∙ stops (sym c.ascending.ensures ∙ c.in_err-ascending.was) _)

pub offer-offered-requires : goal.offer-offered-requires
offer-offered-requires c =
    let rising : ascending c.args.t.vars 0 (2 + length c.args.assumed.now) c.args.vs.now ≡ Ok tt = sym c.ascending.ensures ∙ c.in_ok-ascending.was in
    ascending_offers _ _ _ _ c.requires.0.vars_fit.1 rising

pub judge_offered-requires : goal.judge_offered-requires
judge_offered-requires c =
    let in_reach : ranged c.args.t.vars 2 c.args.assumed.now ≡ Ok tt = sym c.ranged.ensures ∙ c.in_ok-ranged.was in
    (c.requires.0, c.requires.1, ranged_in _ _ _ c.requires.0.vars_fit.1 in_reach)

pub returns-in_err-judge_offered : goal.returns-in_err-judge_offered
unfolding check
returns-in_err-judge_offered c =
    let a = c.args in
    let in_reach = goes_on (sym c.ranged.ensures ∙ c.in_ok-ranged.was) _ in
    let rising = goes_on (sym c.ascending.ensures ∙ c.in_ok-ascending.was) _ in
    let offered_is = ap (λ α. check_offered (spelled a.t a.rows.now a.pool.now a.stack.now) α a.assumed.now) c.offer-offered.ensures in
    rw (handed_on _ _ c.from_residual-in_err-judge_offered.ensures.1)
    (in_reach ∙ rising ∙ sym (c.judge_offered.ensures ∙ offered_is) ∙ c.in_err-judge_offered.was)

pub returns : goal.returns
unfolding check
returns c =
    let a = c.args in
    let in_reach = goes_on (sym c.ranged.ensures ∙ c.in_ok-ranged.was) _ in
    let rising = goes_on (sym c.ascending.ensures ∙ c.in_ok-ascending.was) _ in
    let offered_is = ap (λ α. check_offered (spelled a.t a.rows.now a.pool.now a.stack.now) α a.assumed.now) c.offer-offered.ensures in
    (in_reach ∙ rising ∙ sym (c.judge_offered.ensures ∙ offered_is) ∙ c.in_ok-judge_offered.was, c.offer-offered.ensures)
