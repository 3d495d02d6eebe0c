use Rattle.dimacs_problem.proofs.Line.{a_number, no_number}
use Rattle.dimacs_problem.proofs.read_number.Goals as goal

pub returns-then-w : goal.returns-then-w
returns-then-w c = no_number _ _ _ c.seek-w.ensures (rw c.if-w.true)

pub returns-in-Some : goal.returns-in-Some
returns-in-Some c = a_number _ _ _ c.seek-w.ensures c.if-w.false {r = c.in-Some.n} c.in-Some.ensures

pub returns-in-None : goal.returns-in-None
returns-in-None c = let none_said = c.in-None.ensures in no_number _ _ _ c.seek-w.ensures (rw c.if-w.false none_said)
