-- Invariant: so many variables of the words passed differ.
use mathlib.Core.Path.{refl}
use Prim.Native.Nat.{◌*◌}
use native.Mathlib.Omega.{arith}
use lib.Bits.{bit_xor}
use lib.ListN.{get_or}
use Rattle.rules.specs.Answers.{differing}
use Rattle.lit_sets.specs.Words.{assigned}
use Rattle.lit_sets.proofs.Bits.{ones_below_le}
use Rattle.lit_sets.proofs.Counted.{word_more, differ_le}
use Rattle.lit_sets.proofs.changed.Goals as goal

pub loop-i-init : goal.loop-i-init
unfolding differing
loop-i-init c = refl

pub overflow_add-n : goal.overflow_add-n
overflow_add-n c =
    let a = c.args in
    record {
      fits = omega (
        arith,
        differ_le (assigned a.a.now) (assigned a.b.now) (64 * c.loop-i.i),
        c.bits_apart-n.ensures,
        ones_below_le (bit_xor (get_or a.a.now c.loop-i.i 0) (get_or a.b.now c.loop-i.i 0)) 64,
      );
    }

pub loop-i-preserved : goal.loop-i-preserved
loop-i-preserved c = omega (arith, word_more c.args.a.now c.args.b.now c.loop-i.i, c.bits_apart-n.ensures)
