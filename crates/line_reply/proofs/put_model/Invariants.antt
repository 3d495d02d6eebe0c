use Rattle.std.proofs.Common.{◌*◌, ◌+◌}
use Rattle.line_reply.proofs.Model.{Spelling}
use Rattle.line_reply.proofs.put_model.Given as goal

abbrev pub invariant-loop-k : goal.invariant-loop-k
invariant-loop-k l = Spelling l.initial.out l.at l.model l.out l.a (64 * l.k)

abbrev pub invariant-loop-b : goal.invariant-loop-b
invariant-loop-b l = Spelling l.fn.out l.at l.model l.out l.a (64 * l.k + l.b)
