-- `lrat_fill::add_all` meets its contract: a frame and its clause a turn (Turns).
use Prim.Native.Nat.{◌-◌}
use Rattle.lrat_fill.proofs.Turns.{Going}
use Rattle.lrat_fill.proofs.add_all.Given as goal

abbrev pub invariant-loop-yielded : goal.invariant-loop-yielded
invariant-loop-yielded l = Going l.text l.t l.initial.pool l.stack l.cursor l.table l.rows l.pool

abbrev pub decreases-loop-yielded : goal.decreases-loop-yielded
decreases-loop-yielded l = 2147483647 - l.cursor.id
