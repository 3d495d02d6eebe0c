-- The words from start to w were free, and are marked.
use Rattle.lent.specs.Marks.{PartMarked}
use Rattle.lent.proofs.mark_part.Given as goal

abbrev pub invariant-loop-w : goal.invariant-loop-w
invariant-loop-w l = PartMarked l.initial.marks l.start l.w l.marks
