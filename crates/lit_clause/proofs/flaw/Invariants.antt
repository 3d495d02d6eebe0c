-- Invariant: the whole check is the check of the words left, with the variables seen so far.
use mathlib.Core.Path.{◌≡◌}
use Prim.Native.Nat.{◌+◌}
use lib.ListN.{drop}
use Rattle.rules.specs.Answers.{flaw, unseen}
use Rattle.lit_sets.specs.Words.{assigned}
use Rattle.lit_clause.proofs.flaw.Given as goal

abbrev pub invariant-loop-i : goal.invariant-loop-i
invariant-loop-i l = flaw l.vars unseen l.at l.c ≡ flaw l.vars (assigned l.seen) (l.at + l.i) (drop l.i l.c)
