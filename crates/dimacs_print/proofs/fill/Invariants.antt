use Rattle.std.proofs.Common.{length, ◌-◌, ◌≡◌, ◌≤◌}
use Rattle.dimacs_print.proofs.Filling.{Going}
use Rattle.dimacs_print.proofs.fill.Given as goal

abbrev pub invariant-loop-out : goal.invariant-loop-out
invariant-loop-out l =
    Going l.text l.initial.behind l.initial.out l.behind l.out l.at × (l.at ≤ length l.out) × (length l.frame ≡ length l.initial.frame) × (length l.out ≡ length l.initial.out)

abbrev pub decreases-loop-out : goal.decreases-loop-out
decreases-loop-out l = length l.out - l.at
