use native.Mathlib.Omega.{arith}
use Rattle.line_read.specs.Lines.{in_hex}
use Rattle.line_read.proofs.Replies.{numbered_end}
use Rattle.line_put.proofs.Writing.{wrote_then}
use Rattle.line_reply.proofs.put_answer.Goals as goal

pub put-requires : goal.put-requires
put-requires c = omega (arith, numbered_end _ c.put_numbers-a.ensures)

pub returns : goal.returns
unfolding in_hex
returns c = wrote_then c.put_numbers-a.ensures c.put.ensures
