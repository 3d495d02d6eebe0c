-- no text is longer than memory
use Rattle.std.proofs.Common.{arith, length, ◌<◌}
use Rattle.dimacs_judge.proofs.Judging.{judged_miscounted, judged_sound}
use Rattle.dimacs_judge.proofs.judge.Goals as goal

pub returns-then-clauses-declared : goal.returns-then-clauses-declared
returns-then-clauses-declared c =
    let short : length c.args.text.now < 9223372036854775808 = omega (arith, c.well_formed) in
    judged_sound c.args.text.now _ _ _ _ _ c.in_ok-declared.ensures _ (rw c.in-Ended.is at c.in_ok-scanned.ensures) short c.if-clauses-declared.true

pub returns-else-clauses-declared : goal.returns-else-clauses-declared
returns-else-clauses-declared c =
    let short : length c.args.text.now < 9223372036854775808 = omega (arith, c.well_formed) in
    judged_miscounted c.args.text.now _ _ _ _ _ c.in_ok-declared.ensures _ (rw c.in-Ended.is at c.in_ok-scanned.ensures) short c.if-clauses-declared.false
