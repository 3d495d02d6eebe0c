-- Before each literal, what is left to be made false comes to the whole.
use mathlib.Core.Bool.{Bool, not}
use lib.IntN.{ℤ}
use Rattle.rules.specs.Lists.{only}
use Rattle.rules.specs.Terms.{opposes}
use Rattle.lit_sets.specs.Words.{literals}
use Rattle.judge_hints.specs.Target.{falses, make_false}
use Rattle.judge_hints.proofs.Target.{Making}
use Rattle.judge_hints.proofs.make_false.Given as goal

abbrev pub invariant-loop-l : goal.invariant-loop-l
invariant-loop-l l =
    let p : ℤ → Bool = λ z. not (opposes (literals l.witness) z) in
    Making p l.c (make_false (falses (literals l.initial.falses)) (only p l.c)) (falses (literals l.falses)) l.l-index
