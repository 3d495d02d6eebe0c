use Rattle.std.proofs.Common.{rules, sym, ◌∙◌}
use Rattle.text_numbers.proofs.Saying.{saying_more, saying_none}
use Rattle.text_numbers.proofs.digits.Goals as goal

pub loop-i-init : goal.loop-i-init
loop-i-init c = saying_none _ _ c.requires

pub loop-i-preserved : goal.loop-i-preserved
loop-i-preserved c =
    saying_more c.loop-i.invariant (search rules) (sym c.is_digit.ensures ∙ c.if-not-is_digit.false) _ (λ n e. c.grown-value.ensures n e ∙ rw c.from.ensures)
