-- Invariant: the whole check is the check of the words left.
use mathlib.Core.Path.{◌≡◌}
use Prim.Native.Nat.{◌+◌}
use lib.ListN.{drop}
use Rattle.rules.specs.Answers.{ranged}
use Rattle.lit_clause.proofs.ranged.Given as goal

abbrev pub invariant-loop-i : goal.invariant-loop-i
invariant-loop-i l = ranged l.vars l.at l.c ≡ ranged l.vars (l.at + l.i) (drop l.i l.c)
