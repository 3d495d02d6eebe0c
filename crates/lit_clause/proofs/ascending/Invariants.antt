-- Invariant: the whole check is the check of the words left, above the last variable.
use mathlib.Core.Path.{◌≡◌}
use Prim.Native.Nat.{◌+◌}
use lib.ListN.{drop}
use Rattle.rules.specs.Answers.{ascending}
use Rattle.lit_clause.proofs.ascending.Given as goal

abbrev pub invariant-loop-i : goal.invariant-loop-i
invariant-loop-i l = ascending l.vars 0 l.at l.vs ≡ ascending l.vars l.last (l.at + l.i) (drop l.i l.vs)
