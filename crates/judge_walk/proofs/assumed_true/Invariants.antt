-- Invariant: the whole check is the check of the assumptions left.
use mathlib.Core.Path.{◌≡◌}
use Prim.Native.Nat.{◌+◌}
use lib.ListN.{drop}
use Rattle.rules.specs.Answers.{assumed_true}
use Rattle.lit_sets.specs.Words.{assigned}
use Rattle.judge_walk.proofs.assumed_true.Given as goal

abbrev pub invariant-loop-i : goal.invariant-loop-i
invariant-loop-i l = assumed_true (assigned l.words) l.at l.c ≡ assumed_true (assigned l.words) (l.at + l.i) (drop l.i l.c)
