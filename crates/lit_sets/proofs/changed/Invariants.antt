-- Invariant: so many variables of the words passed differ.
use mathlib.Core.Path.{◌≡◌}
use Prim.Native.Nat.{◌*◌}
use Rattle.rules.specs.Answers.{differing}
use Rattle.lit_sets.specs.Words.{assigned}
use Rattle.lit_sets.proofs.changed.Given as goal

abbrev pub invariant-loop-i : goal.invariant-loop-i
invariant-loop-i l = l.n ≡ differing (assigned l.a) (assigned l.b) (64 * l.i)
