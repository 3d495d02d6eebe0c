-- Each return is one law of Words, by what the word is.
use Rattle.lrat_line.proofs.Words.{word_number, word_d, word_misplaced, word_other}
use Rattle.lrat_line.proofs.take_word.Goals as goal

pub returns-then-l-eq1 : goal.returns-then-l-eq1
returns-then-l-eq1 c = word_d c.requires.0 _ _ c.requires.1 _ _ c.in-Deletion.is c.if-l-eq1.true c.enter.ensures

pub returns-in-Number : goal.returns-in-Number
returns-in-Number c = word_number c.requires.0 _ _ c.requires.1 c.args.falses.now.plus c.args.falses.now.minus _ _ c.in-Number.is c.take_number.ensures

pub returns-else-l-eq1 : goal.returns-else-l-eq1
returns-else-l-eq1 c = word_misplaced c.requires.0 _ _ c.requires.1 _ _ c.in-Deletion.is c.if-l-eq1.false c.note.ensures

pub returns-in-Other : goal.returns-in-Other
returns-in-Other c = word_other c.requires.0 _ _ c.requires.1 _ _ c.in-Other.is c.note-in-Other.ensures
