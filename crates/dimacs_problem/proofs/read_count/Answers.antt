use Rattle.std.proofs.Common.{arith}
use Rattle.dimacs_problem.proofs.Line.{fifth_word, line_ended}
use Rattle.rules.proofs.Lists.{not-false, not-true}
use Rattle.dimacs_problem.proofs.read_count.Goals as goal

pub returns-then-not-w : goal.returns-then-not-w
returns-then-not-w c = fifth_word _ _ _ _ _ _ c.in_ok-n.ensures _ c.seek-w.ensures c.if-next-text.true (not-true c.if-not-w.true)

pub returns-else-not-w : goal.returns-else-not-w
returns-else-not-w c =
    line_ended _ _ _ _ _ _ c.in_ok-n.ensures _ c.seek-w.ensures c.requires.1 c.requires.2 (λ h. not-false c.if-not-w.false)

pub returns-else-next-text : goal.returns-else-next-text
returns-else-next-text c =
    line_ended _ _ _ _ _ _ c.in_ok-n.ensures _ c.seek-w.ensures c.requires.1 c.requires.2 (λ h. absurd (omega (arith, c.if-next-text.false)))
