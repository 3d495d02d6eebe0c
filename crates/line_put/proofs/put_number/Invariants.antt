use Rattle.line_put.proofs.Writing.{Digiting}
use Rattle.line_put.proofs.put_number.Given as goal

abbrev pub invariant-loop-k : goal.invariant-loop-k
invariant-loop-k l = Digiting l.initial.out l.at l.n l.out l.k
