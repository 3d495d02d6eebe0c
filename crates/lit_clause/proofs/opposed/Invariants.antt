-- Invariant: no literal passed has its opposite in the set, so the rest decides.
use mathlib.Core.Path.{◌≡◌}
use lib.ListN.{drop}
use Rattle.rules.specs.Lists.{any_passes}
use Rattle.rules.specs.Terms.{opposes}
use Rattle.lit_sets.specs.Words.{literals}
use Rattle.lit_clause.proofs.opposed.Given as goal

abbrev pub invariant-loop-l : goal.invariant-loop-l
invariant-loop-l l = any_passes (opposes (literals l.set)) l.c ≡ any_passes (opposes (literals l.set)) (drop l.l-index l.c)
