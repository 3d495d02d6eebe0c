-- The first i rows are packed, and their parts stand in the buffer.
use Rattle.std.proofs.Common.{◌≡◌, ◌≤◌, length}
use Rattle.table_room.specs.Room.{Gathered}
use Rattle.table_room.proofs.gather.Given as goal

abbrev pub invariant-loop-i : goal.invariant-loop-i
invariant-loop-i l =
    Gathered l.initial.rows l.pool l.i l.at l.rows l.buffer × (l.at ≤ length l.buffer) × (length l.rows ≡ length l.initial.rows) × (length l.buffer ≡ length l.initial.buffer)
