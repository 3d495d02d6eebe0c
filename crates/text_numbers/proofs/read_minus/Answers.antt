use Rattle.text_numbers.proofs.Signs.{minus_told, minus_untold, minus_zero}
use Rattle.text_numbers.proofs.read_minus.Goals as goal

pub returns-in_err-n : goal.returns-in_err-n
returns-in_err-n c = rw c.from_residual.ensures (minus_untold _ _ c.requires.0 c.requires.1 c.in_err-n.ensures)

pub returns-then-n-eq0 : goal.returns-then-n-eq0
returns-then-n-eq0 c = minus_zero _ _ c.requires.0 c.requires.1 {r = c.in_ok-n.n} c.in_ok-n.ensures c.if-n-eq0.true

pub returns : goal.returns
returns c = minus_told _ _ c.requires.0 c.requires.1 {r = c.in_ok-n.n} c.in_ok-n.ensures c.if-n-eq0.false
