use Rattle.std.proofs.Common.{◌∙◌}
use Rattle.text_next.proofs.Tops.{low_bit_found}
use Rattle.text_next.specs.Bytes.{little}
use Rattle.text_next.proofs.low_bit.Goals as goal

pub returns : goal.returns
unfolding little
returns c = c.from.ensures ∙ low_bit_found 8 _ _ c.ranges.x.fits c.wrapping_sub_u64-taken.ensures.value
