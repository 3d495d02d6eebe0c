-- the bytes before i are digits, and say the value
use Rattle.text_numbers.specs.Told.{Saying}
use Rattle.text_numbers.proofs.digits.Given as goal

abbrev pub invariant-loop-i : goal.invariant-loop-i
invariant-loop-i l = Saying l.text l.from l.value l.i
