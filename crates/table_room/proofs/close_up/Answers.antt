use Rattle.std.proofs.Common.{ap, arith, not, eq-eqb}
use borrow.Author.Tests.{ne_eqb}
use Rattle.table_room.proofs.Squeezing.{closing_start, closing_kept, closing_left_out}
use Rattle.table_room.proofs.close_up.Goals as goal
use Rattle.table_room.proofs.close_up.Goals.{then-row-ne3, else-row-ne3}

pub loop-i-init : goal.loop-i-init
loop-i-init c = closing_start _

pub loop-i-preserved : goal.loop-i-preserved
loop-i-preserved c =
    elim c.if-row-ne3.branch [
      | then-row-ne3 w ↦ rw (w.rows-is, w.k-is) (closing_kept c.loop-i.invariant (omega arith) (ap not (ne_eqb _ 3 w.if-row-ne3.true)))
      | else-row-ne3 w ↦ rw (w.rows-is, w.k-is) (closing_left_out c.loop-i.invariant (omega arith) (ap not (eq-eqb _ 3 w.if-row-ne3.false)))
    ]
