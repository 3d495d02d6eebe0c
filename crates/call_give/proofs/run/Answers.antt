-- `call_give::run` meets its contract: each way out cites its law in Running.
use mathlib.Core.List.{List, ◌++◌}
use Prim.Native.Nat.{◌≤◌}
use native.Mathlib.Omega.{arith}
use lib.ListN.{length, take, drop}
use Rattle.table.specs.Spelled.{Row}
use Rattle.table.specs.declared.Table.{Table}
use Rattle.lent_load.specs.Loads.{Loads}
use Rattle.std.specs.Prelude.{Some}
use Rattle.lent_load.proofs.Front.{Front, front_loaded}
use Rattle.call_give.proofs.Running.{ran_stored}
use Rattle.call_give.proofs.run.Goals as goal

pub feed-taken-requires : goal.feed-taken-requires
feed-taken-requires c =
    let few : c.args.n ≤ length c.args.rows.now = omega (arith, c.requires.0, c.requires.1.rows_most) in
    let loaded : Front c.args.c c.args.n c.args.rows.now c.args.pool.now c.load.result c.load.new.rows = front_loaded few (omega (arith, c.requires.0)) c.load.ensures c.load.auto.rows in
    let t : Table = c.in-Some.t in
    let rows₁ : List Row = c.load.new.rows ++ drop c.args.n c.args.rows.now in
    let working : Loads c.args.c (take c.args.n c.args.rows.now) c.args.pool.now (Some t) rows₁ = loaded.working t c.in-Some.is in
    let p = c.requires.1 in
    (record { fit = working.1; most = p.digits_most; wide = p.frame_least }, omega arith, omega arith)

pub returns-then-taken : goal.returns-then-taken
returns-then-taken c =
    let few : c.args.n ≤ length c.args.rows.now = omega (arith, c.requires.0, c.requires.1.rows_most) in
    let loaded : Front c.args.c c.args.n c.args.rows.now c.args.pool.now c.load.result c.load.new.rows = front_loaded few (omega (arith, c.requires.0)) c.load.ensures c.load.auto.rows in
    let t : Table = c.in-Some.t in
    let rows₁ : List Row = c.load.new.rows ++ drop c.args.n c.args.rows.now in
    let working : Loads c.args.c (take c.args.n c.args.rows.now) c.args.pool.now (Some t) rows₁ = loaded.working t c.in-Some.is in
    let a = c.args in
    rw c.stored.ensures
    (ran_stored a.n a.rows.now a.pool.now a.c a.r a.frame.now a.part.now a.out.now working c.feed-taken.result _
    c.feed-taken.ensures.fed c.feed-taken.ensures.altered c.if-taken.true loaded.own_long c.squeeze-whole.ensures)
