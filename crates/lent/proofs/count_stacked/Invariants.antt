-- n, with the stacked rows from the index on, makes all of them.
use Rattle.std.proofs.Common.{◌≡◌, ◌+◌, ◌≤◌, length, drop}
use Rattle.rules.specs.Lists.{only}
use Rattle.table.specs.Spelled.{stands}
use Rattle.lent.proofs.count_stacked.Given as goal

abbrev pub invariant-loop-row : goal.invariant-loop-row
invariant-loop-row l = (l.n ≤ l.row-index) × (l.n + length (only (stands 2) (drop l.row-index l.rows)) ≡ length (only (stands 2) l.rows))
