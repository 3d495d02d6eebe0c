-- Invariant: the literals of the list are those in the set and those left.
use mathlib.Core.Path.{◌≡◌}
use lib.ListN.{drop}
use Rattle.rules.specs.Terms.{holds}
use Rattle.lit_sets.specs.Words.{literals}
use Rattle.lit_clause.proofs.Reading.{with_all}
use Rattle.lit_clause.proofs.mark.Given as goal

abbrev pub invariant-loop-l : goal.invariant-loop-l
invariant-loop-l l = holds l.c ≡ with_all (drop l.l-index l.c) (literals l.set)
