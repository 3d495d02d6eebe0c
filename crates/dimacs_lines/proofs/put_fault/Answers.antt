use Rattle.std.proofs.Common.{ap, arith}
use Rattle.line_hex.specs.Hex.{hex}
use Rattle.line_put.proofs.Writing.{hex_end, wrote_as, wrote_then}
use Rattle.dimacs_lines.proofs.put_fault.Goals as goal

pub put_number-b-requires : goal.put_number-b-requires
put_number-b-requires c = omega (arith, hex_end 8 _ c.put_number-a.ensures)

pub put-requires : goal.put-requires
put-requires c = omega (arith, hex_end 8 _ c.put_number-a.ensures, hex_end 8 _ c.put_number-b.ensures)

pub returns : goal.returns
returns c =
    wrote_then (wrote_as (ap (hex 8) c.code-code.ensures) c.put_number-a.ensures)
    (wrote_then (wrote_as (ap (hex 8) c.position-position.ensures) c.put_number-b.ensures) c.put.ensures)
