-- Ticked: each exit is a law of Ticking.
use Rattle.lent.proofs.Ticking.{Ticked}
use Rattle.lent.proofs.lists_each_once.Given as goal

abbrev pub invariant-loop-id : goal.invariant-loop-id
invariant-loop-id l = Ticked l.rows l.ids l.marks l.id-index
