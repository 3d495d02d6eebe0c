use Rattle.table.proofs.Finding.{none_after}
use Rattle.table.proofs.find.Goals as goal

pub returns-then-id-here : goal.returns-then-id-here
returns-then-id-here c = none_after c.requires _ c.loop-k.k c.loop-k-test.true c.if-id-here.true c.loop-k.invariant.1
