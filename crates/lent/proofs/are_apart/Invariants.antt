-- Parted: each exit is a law of Parts.
use Rattle.lent.proofs.Parts.{Parted}
use Rattle.lent.proofs.are_apart.Given as goal

abbrev pub invariant-loop-row : goal.invariant-loop-row
invariant-loop-row l = Parted l.rows l.marks l.row-index
