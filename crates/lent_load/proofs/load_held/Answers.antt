-- `lent_load::load_held` meets its contract.
use native.Mathlib.Omega.{arith}
use Rattle.lent_order.proofs.Alike.{arranged_count, arranged_tidy}
use Rattle.lent_load.proofs.Held.{arranged_twice, arranged_loads}
use Rattle.lent_load.proofs.load_held.Goals as goal

pub returns-then-not-arrange : goal.returns-then-not-arrange
returns-then-not-arrange c =
    let r = c.arrange.ensures in
    arranged_twice c.args.c c.args.rows.now c.args.pool.now c.requires.1 r.moved (r.twice (c.if-not-arrange.true))

pub judge-requires : goal.judge-requires
judge-requires c =
    let r = c.arrange.ensures in
    let n = arranged_count c.args.c c.args.pool.now c.args.rows.now c.requires.1 r.moved in
    (r.fresh (c.if-not-arrange.false), arranged_tidy c.args.rows.now r.moved, c.requires.0, n, omega (arith, n, c.requires.1, c.requires.2), c.requires.3)

pub returns : goal.returns
returns c =
    let r = c.arrange.ensures in
    arranged_loads c.args.c c.args.rows.now c.args.pool.now c.requires.1 r.moved (r.fresh (c.if-not-arrange.false))
    c.judge.result c.judge.ensures
