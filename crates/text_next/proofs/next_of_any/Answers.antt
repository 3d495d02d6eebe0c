use Rattle.text_next.proofs.Gaps.{next_last, next_some}
use Rattle.text_next.proofs.next_of_any.Goals as goal

pub returns-then-at-text : goal.returns-then-at-text
returns-then-at-text c = next_last _ _ c.seek-w.ensures c.if-at-text.true

pub returns-else-at-text : goal.returns-else-at-text
returns-else-at-text c = next_some _ _ c.seek-w.ensures c.if-at-text.false c.read_integer-read.ensures
