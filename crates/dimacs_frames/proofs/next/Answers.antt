use Rattle.std.proofs.Common.{sym, ◌∙◌}
use Rattle.dimacs_frames.proofs.Frames.{into_none, none_behind, none_inside}
use Rattle.dimacs_frames.proofs.next.Goals as goal
use Rattle.dimacs_frames.proofs.next.Goals.{then-text-cursor-via-then-text-cursor, then-text-cursor-via-else-text-cursor+then-not-is_behind}

pub returns-then-text-cursor : goal.returns-then-text-cursor
returns-then-text-cursor c =
    let s = c.args in
    into_none s.text.now s.cursor s.frame.now c.if-frame-lt258.false c.if-cursor-eq0.false
    (elim c.then-text-cursor.branch [
      | then-text-cursor-via-then-text-cursor w ↦ none_behind s.text.now s.cursor.at w.if-text-cursor.true
      | then-text-cursor-via-else-text-cursor+then-not-is_behind w ↦
          none_inside s.text.now s.cursor.at (sym w.is_behind.ensures ∙ w.if-not-is_behind.true)
    ])
