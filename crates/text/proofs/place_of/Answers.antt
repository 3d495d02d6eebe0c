use Rattle.text.proofs.Placing.{placing_all, placing_more}
use Rattle.text.proofs.place_of.Goals as goal

pub loop-b-preserved : goal.loop-b-preserved
loop-b-preserved c = placing_more c.loop-b.invariant c.loop-b-test.true _ c.onward-place.ensures

pub returns : goal.returns
returns c = placing_all c.loop-b.invariant c.loop-b-test.false
