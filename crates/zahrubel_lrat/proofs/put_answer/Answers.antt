use Rattle.std.proofs.Common.{arith}
use Rattle.line_put.proofs.Writing.{hex_end, wrote_then}
use Rattle.zahrubel_lrat.proofs.put_answer.Goals as goal

pub put_number-b-requires : goal.put_number-b-requires
put_number-b-requires c = omega (arith, c.requires, hex_end 8 _ c.put_number-a.ensures, c.put_number-a.auto.out)

pub put-requires : goal.put-requires
put-requires c =
    omega (arith, c.requires, hex_end 8 _ c.put_number-a.ensures, c.put_number-a.auto.out, hex_end 8 _ c.put_number-b.ensures, c.put_number-b.auto.out)

pub returns : goal.returns
returns c = wrote_then c.put_number-a.ensures (wrote_then c.put_number-b.ensures c.put.ensures)
