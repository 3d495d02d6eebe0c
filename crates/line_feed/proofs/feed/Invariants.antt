-- The loop by line_read's Feeding, one law for each way on; what it keeps of the tables is in Tables.
use mathlib.Core.Path.{◌≡◌}
use Prim.Native.Nat.{◌-◌}
use lib.ListN.{length}
use Rattle.table.specs.Spelled.{spelled}
use Rattle.line_hex.specs.Hex.{Values}
use Rattle.line_read.specs.Machine.{session_of}
use Rattle.line_read.proofs.Feeding.{Feeding}
use Rattle.line_feed.proofs.Tables.{Tables}
use Rattle.line_feed.proofs.feed.Given as goal

abbrev pub invariant-loop-i : goal.invariant-loop-i
invariant-loop-i l = Feeding l.part l.from (session_of l.initial.reader l.initial.frame (spelled l.initial.table l.initial.rows l.initial.pool l.initial.stack) l.initial.out l.at) l.frame l.initial.out l.out l.i l.a l.reader (spelled l.table l.rows l.pool l.stack) l.altered
    × Tables l.initial.table l.initial.rows l.initial.pool l.initial.stack l.altered l.table l.rows l.pool l.stack
    × Values l.values × (length l.frame ≡ length l.initial.frame) × (length l.rows ≡ length l.initial.rows) × (length l.pool ≡ length l.initial.pool) × (length l.stack ≡ length l.initial.stack)

abbrev pub decreases-loop-i : goal.decreases-loop-i
decreases-loop-i l = length l.part - l.i
