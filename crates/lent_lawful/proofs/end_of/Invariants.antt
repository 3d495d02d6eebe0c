-- Those before k end by top, and top is no later than it must be.
use Prim.Native.Nat.{ℕ, ◌<◌, ◌≤◌}
use Rattle.table.specs.Facts.{All}
use Rattle.table.specs.Spelled.{row_at, Inside}
use Rattle.lent_lawful.proofs.end_of.Given as goal

abbrev pub invariant-loop-k : goal.invariant-loop-k
invariant-loop-k l = ((j : ℕ) → j < l.k → Inside l.top (row_at l.rows j)) × ((t : ℕ) → All (Inside t) l.rows → l.top ≤ t)
