use Rattle.text_next.proofs.Tops.{digits_found}
use Rattle.text_next.specs.Bytes.{little}
use Rattle.text_next.proofs.are_digits.Goals as goal

pub returns : goal.returns
unfolding little
returns c = digits_found 8 _ _ c.wrapping_add_u64.ensures.value
