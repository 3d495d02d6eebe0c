use Rattle.std.proofs.Common.{[], arith, length, sym, ◌+◌, ◌∷◌, ◌≤◌}
use Rattle.dimacs_problem.proofs.Spelling.{cnf_spelled, spells_short}
use Rattle.dimacs_problem.proofs.is_cnf.Goals as goal

pub returns-then-text-at-lt3 : goal.returns-then-text-at-lt3
returns-then-text-at-lt3 c = sym (spells_short c.args.text.now c.args.at (99 ∷ 110 ∷ 102 ∷ []) c.if-text-at-lt3.true)

pub returns : goal.returns
returns c =
    let enough : c.args.at + 3 ≤ length c.args.text.now = omega (arith, c.if-text-at-lt3.false, c.requires) in
    rw c.is_behind.ensures (sym (cnf_spelled c.args.text.now c.args.at enough))
