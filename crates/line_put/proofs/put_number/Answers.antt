use Rattle.line_put.proofs.Writing.{digiting_end, digiting_more}
use Rattle.std.proofs.Common.{rules}
use Rattle.line_put.proofs.put_number.Goals as goal

pub loop-k-preserved : goal.loop-k-preserved
loop-k-preserved c = rw c.glyph_of.ensures (digiting_more _ c.loop-k.invariant c.requires c.loop-k-test.true)

pub returns : goal.returns
returns c = digiting_end c.loop-k.invariant (search rules)
