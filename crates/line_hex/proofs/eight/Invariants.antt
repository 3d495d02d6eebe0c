use Rattle.std.proofs.Common.{◌≡◌}
use Rattle.line_hex.specs.Hex.{value_at}
use Rattle.line_hex.proofs.eight.Given as goal

abbrev pub invariant-loop-b : goal.invariant-loop-b
invariant-loop-b l = l.v ≡ value_at l.part l.i l.b-index
