use Rattle.std.proofs.Common.{arith, rules, ◌<◌}
use Rattle.line_hex.specs.Hex.{value_at}
use Rattle.line_hex.proofs.Digits.{digit_more, value_room}
use Rattle.line_hex.proofs.eight.Goals as goal

pub loop-b-init : goal.loop-b-init
unfolding value_at
loop-b-init c = search rules

pub overflow_mul-v : goal.overflow_mul-v
overflow_mul-v c =
    let few : c.loop-b.b-index < 8 = search rules in
    omega (arith, value_room c.args.part.now c.args.i _ few, c.loop-b.invariant)

pub overflow_add-v : goal.overflow_add-v
overflow_add-v c =
    let few : c.loop-b.b-index < 8 = search rules in
    record { fits = (digit_more c.requires.1 _ _ _ _ _ few c.loop-b.invariant (search rules) c.from.ensures).0 }

pub loop-b-preserved : goal.loop-b-preserved
loop-b-preserved c = (digit_more c.requires.1 _ _ _ _ _ (search rules) c.loop-b.invariant (search rules) c.from.ensures).1
