use Rattle.dimacs_problem.proofs.Line.{behind_vars, vars_outside, vars_ranged}
use Rattle.dimacs_problem.proofs.read_vars.Goals as goal

pub returns-then-vars : goal.returns-then-vars
returns-then-vars c = vars_outside _ _ _ _ _ c.in_ok-n.ensures c.if-vars.true

pub returns : goal.returns
returns c =
    let t = c.in_ok-n.ensures in
    let e = vars_ranged _ _ _ _ _ t c.if-vars.false in
    rw (e, behind_vars _ _ _ _ _ t) c.read_count.ensures
