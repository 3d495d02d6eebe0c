use Rattle.text_next.proofs.Digits.{last_digits_are}
use Rattle.text_next.proofs.last_digits.Goals as goal

pub returns : goal.returns
returns c = last_digits_are _ _ _ c.wrapping_sub_u64.ensures.value
