-- Where the last row of a stride has a lesser id, all its rows have.
use Rattle.std.proofs.Common.{◌-◌, length}
use Rattle.table.specs.Spelled.{Below}
use Rattle.table.proofs.stride.Given as goal

abbrev pub invariant-loop-k : goal.invariant-loop-k
invariant-loop-k l = Below l.rows l.id l.k

abbrev pub decreases-loop-k : goal.decreases-loop-k
decreases-loop-k l = length l.rows - l.k
