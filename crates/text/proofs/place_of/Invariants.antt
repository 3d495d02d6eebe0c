-- the bytes from b on lead from its place to that of byte `at` (Placing)
use Rattle.std.proofs.Common.{take}
use Rattle.text.proofs.Placing.{Placing}
use Rattle.text.proofs.place_of.Given as goal

abbrev pub invariant-loop-b : goal.invariant-loop-b
invariant-loop-b l = Placing (take l.at l.text) l.place l.b-index
