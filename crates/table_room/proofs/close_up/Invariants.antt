-- The first i rows are closed up to k.
use Rattle.table_room.specs.Room.{ClosedUp}
use Rattle.table_room.proofs.close_up.Given as goal

abbrev pub invariant-loop-i : goal.invariant-loop-i
invariant-loop-i l = ClosedUp l.initial.rows l.i l.k l.rows
