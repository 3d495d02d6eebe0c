-- the bytes before i are no blanks, and the word is what they made of it
use Rattle.lrat_words.specs.Taken.{Pushed}
use Rattle.lrat_words.proofs.take_byte_by_byte.Given as goal

abbrev pub invariant-loop-i : goal.invariant-loop-i
invariant-loop-i l = Pushed l.part l.from l.initial.word l.i l.word
