-- Invariant: no literal passed is true, so the rest decides.
use mathlib.Core.Path.{◌≡◌}
use lib.ListN.{drop}
use Rattle.rules.specs.Lists.{any_passes}
use Rattle.rules.specs.Terms.{lit}
use Rattle.lit_sets.specs.Words.{assigned}
use Rattle.lit_clause.proofs.satisfied.Given as goal

abbrev pub invariant-loop-l : goal.invariant-loop-l
invariant-loop-l l = any_passes (lit (assigned l.words)) l.c ≡ any_passes (lit (assigned l.words)) (drop l.l-index l.c)
