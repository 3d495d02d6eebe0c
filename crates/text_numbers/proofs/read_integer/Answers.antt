use Rattle.text_numbers.proofs.Signs.{plain_told, plain_untold}
use Rattle.text_numbers.proofs.read_integer.Goals as goal

pub returns-in_err-n : goal.returns-in_err-n
returns-in_err-n c = rw c.from_residual.ensures (plain_untold _ _ c.requires c.if-text-at-eq45.false c.in_err-n.ensures)

pub returns : goal.returns
returns c = plain_told _ _ c.requires c.if-text-at-eq45.false {r = c.in_ok-n.n} c.in_ok-n.ensures
