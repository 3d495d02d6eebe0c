-- A call of feed a turn: what was fed before `from`, every write was taken whole, and the buffers keep their sizes.
use Rattle.std.proofs.Common.{◌≡◌, ◌-◌, true, length}
use Rattle.call_serve.proofs.Feeding.{Going}
use Rattle.call_serve.proofs.pump.Given as goal

abbrev pub invariant-loop-from : goal.invariant-loop-from
invariant-loop-from l =
    let s = l.initial in
    Going l.part s.frame s.rows s.pool s.stack s.reader s.table l.frame l.rows l.pool l.stack l.from l.reader l.table l.altered × (l.sent ≡ true)
    × (length l.out ≡ length s.out)

abbrev pub decreases-loop-from : goal.decreases-loop-from
decreases-loop-from l = length l.part - l.from
