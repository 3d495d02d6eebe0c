-- The buffer keeps its size, the end was not met, and what was read since the start was fed.
use Rattle.std.proofs.Common.{◌≡◌, ◌-◌, false, length}
use Rattle.table.specs.Spelled.{spelled}
use Rattle.lrat_serve.proofs.Telling.{Read}
use Rattle.lrat_serve.proofs.check.Given as goal

abbrev pub invariant-loop-read : goal.invariant-loop-read
invariant-loop-read g l =
    let s = l.initial in
    (65536 ≡ length l.buf) × (l.ended ≡ false)
    × Read (spelled s.table s.rows s.pool l.stack) false l.table l.rows l.pool l.stack l.reader l.lits l.falses.plus l.falses.minus

abbrev pub decreases-loop-read : goal.decreases-loop-read
decreases-loop-read g l = 9223372036854775808 - l.read
