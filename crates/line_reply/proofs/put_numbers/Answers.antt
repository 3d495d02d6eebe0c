use mathlib.Core.Path.{ap}
use native.Mathlib.Omega.{arith}
use Rattle.line_hex.specs.Hex.{hex}
use Rattle.line_read.specs.Lines.{numbered}
use Rattle.line_put.proofs.Writing.{hex_end, wrote_then, wrote_as}
use Rattle.line_reply.proofs.put_numbers.Goals as goal

pub put_number-requires : goal.put_number-requires
put_number-requires c = omega (arith, hex_end 8 _ c.put_number-a.ensures)

pub returns : goal.returns
unfolding numbered
returns c =
    wrote_then (wrote_as (ap (hex 8) c.code.ensures) c.put_number-a.ensures)
    (wrote_as (ap (hex 8) c.detail.ensures) c.put_number.ensures)
