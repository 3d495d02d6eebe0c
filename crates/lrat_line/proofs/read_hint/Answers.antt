-- What the hint names, by the row of its id; the clause is read as in `judge_propagate`.
use mathlib.Core.Path.{refl, sym, ◌∙◌, ap, subst}
use Rattle.rules.specs.Terms.{Literals}
use Rattle.rules.specs.Propagation.{clause, judge}
use Rattle.lit_sets.specs.Words.{literals}
use Rattle.judge_propagate.specs.Look.{HintRead}
use Rattle.lrat_line.proofs.Hints.{names_nobody, names_gone, names_clause}
use Rattle.lrat_line.proofs.read_hint.Goals as goal

pub returns-in_default : goal.returns-in_default
returns-in_default c =
    let F : Literals = literals c.args.falses.now in
    (ap (judge F) (names_nobody c.requires _ (rw c.in_default.is at c.find_row.ensures)), refl)

pub returns-then-place_at-gt2 : goal.returns-then-place_at-gt2
returns-then-place_at-gt2 c =
    let F : Literals = literals c.args.falses.now in
    (ap (judge F) (names_gone c.requires _ c.in-Some.k c.in-Some.ensures c.place_at.ensures c.if-place_at-gt2.true), refl)

pub look-requires : goal.look-requires
look-requires c = rw c.clause_of.ensures (c.requires.ranged _ c.in-Some.ensures.0)

pub returns : goal.returns
returns c =
    let F : Literals = literals c.args.falses.now in
    let names = names_clause c.requires _ c.in-Some.k c.in-Some.ensures c.place_at.ensures c.if-place_at-gt2.false ∙ ap clause (sym c.clause_of.ensures) in
    subst (λ q. HintRead q F c.look.result (literals c.look.new.falses)) (sym (ap (judge F) names)) c.look.ensures
