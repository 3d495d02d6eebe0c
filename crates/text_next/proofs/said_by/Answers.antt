use Rattle.std.proofs.Common.{arith, refl}
use Rattle.text_next.proofs.Digits.{pairs_fit, said_eight}
use Rattle.text_next.proofs.said_by.Goals as goal

pub overflow_mul-p : goal.overflow_mul-p
overflow_mul-p c = omega (arith, pairs_fit _ c.ranges.e.fits c.requires)

pub overflow_add-p : goal.overflow_add-p
overflow_add-p c = record { fits = pairs_fit _ c.ranges.e.fits c.requires }

pub returns : goal.returns
returns c = said_eight _ c.ranges.e.fits c.requires _ refl
