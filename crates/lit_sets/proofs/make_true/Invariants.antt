-- Invariant: the literals that are left, made true from here, give the whole.
use mathlib.Core.Path.{◌≡◌}
use lib.ListN.{drop}
use Rattle.rules.specs.Frames.{make}
use Rattle.lit_sets.specs.Words.{assigned}
use Rattle.lit_sets.proofs.make_true.Given as goal

abbrev pub invariant-loop-l : goal.invariant-loop-l
invariant-loop-l l = make (assigned l.initial.out) l.w ≡ make (assigned l.out) (drop l.l-index l.w)
