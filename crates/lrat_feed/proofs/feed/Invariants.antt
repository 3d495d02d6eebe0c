-- The loop's invariant: what is left of the machine's run, from the byte at i on, comes to its whole run.
use Prim.Native.Nat.{◌-◌}
use Rattle.lrat.specs.Machine.{run}
use Rattle.lrat_feed.proofs.Sessions.{Feeding}
use Rattle.lrat_feed.specs.Feeding.{session_of}
use Rattle.table.specs.Spelled.{spelled}
use lib.ListN.{length}
use Rattle.lrat_feed.proofs.feed.Given as goal

abbrev pub invariant-loop-i : goal.invariant-loop-i
invariant-loop-i l = Feeding (run (session_of l.initial.reader l.initial.lits l.initial.falses.plus l.initial.falses.minus (spelled l.initial.table l.initial.rows l.initial.pool l.stack)) l.part) l.part l.i l.table l.rows l.pool l.stack l.reader l.lits l.falses.plus l.falses.minus

abbrev pub decreases-loop-i : goal.decreases-loop-i
decreases-loop-i l = length l.part - l.i
