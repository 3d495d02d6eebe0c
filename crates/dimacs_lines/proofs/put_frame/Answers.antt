use Rattle.std.proofs.Common.{arith, rules}
use Rattle.dimacs_lines.proofs.Framing.{framing_more, framing_place, framing_start}
use Rattle.dimacs_lines.proofs.put_frame.Goals as goal

pub loop-x-init : goal.loop-x-init
loop-x-init c = framing_start _ _ _

pub put_number-a-requires : goal.put_number-a-requires
put_number-a-requires c = let l = c.loop-x in omega (arith, framing_place l.invariant, l.invariant.size)

pub loop-x-preserved : goal.loop-x-preserved
loop-x-preserved c =
    framing_more c.loop-x.invariant c.loop-x-test.true (search rules) c.word_of.ensures c.put_number-a.auto.out
    c.put_number-a.ensures

pub put-requires : goal.put-requires
put-requires c = let l = c.loop-x in omega (arith, framing_place l.invariant, l.invariant.size, l.invariant.few)
