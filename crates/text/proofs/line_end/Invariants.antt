-- no byte before i closes the line
use Rattle.text.specs.Places.{Unclosed}
use Rattle.text.proofs.line_end.Given as goal

abbrev pub invariant-loop-i : goal.invariant-loop-i
invariant-loop-i l = Unclosed l.text l.from l.i
