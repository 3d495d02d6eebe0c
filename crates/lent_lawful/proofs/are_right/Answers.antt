use mathlib.Core.Path.{sym, ◌∙◌}
use mathlib.Core.List.{[]}
use native.Mathlib.Omega.{arith}
use Rattle.rules.proofs.Lists.{all_on, all_past}
use Rattle.lent_lawful.specs.Rights.{right}
use Rattle.lent_lawful.proofs.are_right.Goals as goal

pub returns-then-not-is_right : goal.returns-then-not-is_right
returns-then-not-is_right c =
    let a = c.args in
    let e = sym c.is_right.ensures ∙ c.if-not-is_right.true in
    sym (c.loop-k.invariant ∙ all_on (right a.vars a.highest a.pool.now) a.rows.now c.loop-k.k [] (omega arith) ∙ rw e)

pub loop-k-preserved : goal.loop-k-preserved
loop-k-preserved c =
    let a = c.args in
    let e = sym c.is_right.ensures ∙ c.if-not-is_right.false in
    c.loop-k.invariant ∙ all_on (right a.vars a.highest a.pool.now) a.rows.now c.loop-k.k [] (omega arith) ∙ rw e

pub returns : goal.returns
returns c =
    let a = c.args in
    sym (c.loop-k.invariant ∙ all_past (right a.vars a.highest a.pool.now) a.rows.now c.loop-k.k (omega arith))
