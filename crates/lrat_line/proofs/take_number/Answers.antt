-- Each return is one law of Words, by the phase.
use Rattle.lrat_line.proofs.Words.{number_id, number_literal, number_hint, number_deleted, number_misplaced}
use Rattle.lrat_line.proofs.take_number.Goals as goal

pub returns-then-l-eq5 : goal.returns-then-l-eq5
returns-then-l-eq5 c = number_deleted c.requires.0 _ _ c.requires.1 _ _ c.args.negative c.args.v c.if-l-eq5.true c.among_ids.ensures

pub returns-then-l-eq0 : goal.returns-then-l-eq0
returns-then-l-eq0 c = number_id c.requires.0 _ _ c.requires.1 _ _ c.args.negative c.args.v c.if-l-eq0.true c.id_said.ensures

pub returns-then-l-lt3 : goal.returns-then-l-lt3
returns-then-l-lt3 c =
    number_literal c.requires.0 _ _ c.requires.1 c.args.falses.now.plus c.args.falses.now.minus c.args.negative c.args.v c.if-l-eq0.false c.if-l-lt3.true
    c.among_literals-line.ensures

pub returns-then-l-eq3 : goal.returns-then-l-eq3
returns-then-l-eq3 c =
    number_hint c.requires.0 _ _ c.requires.1 c.args.falses.now.plus c.args.falses.now.minus c.args.negative c.args.v c.if-l-eq3.true
    c.among_hints-line.ensures

pub returns-else-l-eq3 : goal.returns-else-l-eq3
returns-else-l-eq3 c = number_misplaced c.requires.0 _ _ c.requires.1 _ _ c.args.negative c.args.v c.if-l-lt3.false c.if-l-eq3.false c.if-l-eq5.false c.note-line.ensures
