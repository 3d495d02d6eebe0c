use Rattle.std.proofs.Common.{[], arith, length, sym, ◌-◌, ◌<◌, ◌∷◌}
use Rattle.dimacs_problem.proofs.Spelling.{p_spelled, spells_short}
use Rattle.dimacs_problem.proofs.is_p.Goals as goal

pub returns-then-at-text : goal.returns-then-at-text
returns-then-at-text c = rw c.is_behind.ensures (sym (p_spelled _ _ c.if-at-text.true))

pub returns : goal.returns
returns c =
    let few : length c.args.text.now - c.args.at < 1 = omega (arith, c.if-at-text.false) in
    sym (spells_short c.args.text.now c.args.at (112 ∷ []) few)
