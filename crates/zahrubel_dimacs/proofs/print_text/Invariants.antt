-- The ids rise, and the buffers keep their sizes.
use Rattle.std.proofs.Common.{◌≡◌, ◌≤◌, ◌-◌, length}
use Rattle.zahrubel_dimacs.proofs.print_text.Given as goal

abbrev pub invariant-loop-behind : goal.invariant-loop-behind
invariant-loop-behind l = (258 ≡ length l.frame) × (65536 ≡ length l.out) × (l.cursor.id ≤ 2147483647)

abbrev pub decreases-loop-behind : goal.decreases-loop-behind
decreases-loop-behind l = 2147483647 - l.cursor.id
