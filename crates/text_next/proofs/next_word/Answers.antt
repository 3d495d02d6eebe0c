use Rattle.std.proofs.Common.{arith, sym, ◌∙◌}
use Rattle.text_next.proofs.Gaps.{next_gap}
use Rattle.text_next.proofs.next_word.Goals as goal

pub returns-then-is_some : goal.returns-then-is_some
returns-then-is_some c =
    next_gap _ _ (omega arith) (c.requires.1 (omega arith)) _ c.quick-read.ensures (sym c.is_some.ensures ∙ c.if-is_some.true)
