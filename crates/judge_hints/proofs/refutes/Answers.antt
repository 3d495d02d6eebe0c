-- The same, with the set of the opposites.
use mathlib.Core.Path.{◌≡◌, refl, ◌∙◌, ap}
use Rattle.rules.specs.Terms.{opposes}
use Rattle.lit_sets.specs.Words.{literals}
use Rattle.lit_sets.proofs.Sets.{changed_over}
use Rattle.judge_hints.specs.Target.{falses}
use Rattle.judge_hints.proofs.Target.{swapped, refuted}
use Rattle.judge_hints.proofs.refutes.Goals as goal

pub returns-in_default : goal.returns-in_default
returns-in_default c = refuted 2048 _ _ _ c.requires.1 (ap swapped c.in_default.ensures) refl

pub returns : goal.returns
returns c =
    let m = c.in-Some.same in
    let turned : literals c.opposites.result ≡ opposes (literals m) = rw (c.opposites.ensures.0, c.opposites.ensures.1) (changed_over m.plus m.minus) in
    refuted 2048 _ _ _ c.requires.1 (ap falses turned ∙ ap swapped c.in-Some.ensures) c.judge.ensures
