-- Invariant: no literal passed is in the set, so the rest decides.
use mathlib.Core.Path.{◌≡◌}
use lib.ListN.{drop}
use Rattle.rules.specs.Lists.{any_passes}
use Rattle.lit_sets.specs.Words.{literals}
use Rattle.lit_clause.proofs.shares.Given as goal

abbrev pub invariant-loop-l : goal.invariant-loop-l
invariant-loop-l l = any_passes (literals l.set) l.c ≡ any_passes (literals l.set) (drop l.l-index l.c)
