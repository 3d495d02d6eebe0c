use native.Mathlib.Omega.{arith}
use Rattle.line_read.proofs.Replies.{numbered_end}
use Rattle.line_put.proofs.Writing.{wrote_then}
use Rattle.line_reply.proofs.Model.{model_room}
use Rattle.line_reply.proofs.put_sat.Goals as goal

pub put_model-b-requires : goal.put_model-b-requires
put_model-b-requires c = omega (arith, numbered_end _ c.put_numbers-a.ensures)

pub put-requires : goal.put-requires
put-requires c = omega (arith, numbered_end _ c.put_numbers-a.ensures, model_room _ 2048 c.put_model-b.ensures)

pub returns : goal.returns
returns c = wrote_then c.put_numbers-a.ensures (wrote_then c.put_model-b.ensures c.put.ensures)
