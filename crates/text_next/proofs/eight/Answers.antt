use Rattle.text_next.proofs.Bytes.{eight_read}
use Rattle.text_next.proofs.eight.Goals as goal

pub returns : goal.returns
returns c = eight_read _ _ _ c.requires c.from_le_bytes.ensures
