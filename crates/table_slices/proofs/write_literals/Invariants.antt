-- The first i words are written.
use Rattle.std.proofs.Common.{length, ◌≡◌, ◌++◌, take, drop}
use Rattle.table_slices.proofs.write_literals.Given as goal

abbrev pub invariant-loop-i : goal.invariant-loop-i
invariant-loop-i l = (l.tail ≡ take l.i l.lits ++ drop l.i l.initial.tail) × (length l.tail ≡ length l.initial.tail)
