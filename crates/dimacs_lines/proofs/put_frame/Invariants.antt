use Rattle.dimacs_lines.proofs.Framing.{Framing}
use Rattle.dimacs_lines.proofs.put_frame.Given as goal

abbrev pub invariant-loop-x : goal.invariant-loop-x
invariant-loop-x l = Framing l.initial.out l.at l.frame l.out l.a l.x-index
