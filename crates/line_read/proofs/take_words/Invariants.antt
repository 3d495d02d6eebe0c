use Rattle.line_read.proofs.Words.{Words}
use Rattle.line_read.proofs.take_words.Given as goal

abbrev pub invariant-loop-k : goal.invariant-loop-k
invariant-loop-k l = Words l.part l.from l.digits l.initial.frame l.frame l.k l.i
