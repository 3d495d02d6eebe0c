-- The ones of a word are its bits that are set.
use Prim.Native.Nat.{◌<◌, ◌^◌}
use native.Mathlib.Omega.{arith}
use lib.Bits.{bit_xor, xor_lt}
use lib.Count.{ones-le}
use Rattle.lit_sets.proofs.Bits.{ones_counted}
use Rattle.lit_sets.proofs.bits_apart.Goals as goal

pub overflow_cast-result : goal.overflow_cast-result
overflow_cast-result c =
    let word : bit_xor c.args.x c.args.y < 2 ^ 64 = xor_lt 64 c.args.x c.args.y c.ranges.x.fits c.ranges.y.fits in
    record { fits = omega (arith, ones-le 64 _ word) }

pub returns : goal.returns
returns c =
    let word : bit_xor c.args.x c.args.y < 2 ^ 64 = xor_lt 64 c.args.x c.args.y c.ranges.x.fits c.ranges.y.fits in
    ones_counted 64 _ word
