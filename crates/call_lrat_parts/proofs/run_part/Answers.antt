-- `call_lrat_parts::run_part` meets its contract: each way out cites its law in Running.
use mathlib.Core.List.{List, ◌++◌}
use Prim.Native.Nat.{◌≤◌}
use native.Mathlib.Omega.{arith}
use lib.ListN.{length, take, drop}
use Rattle.table.specs.Spelled.{Row}
use Rattle.table.specs.declared.Table.{Table}
use Rattle.lent.proofs.Sizes.{lent_most}
use Rattle.lent_load.specs.Loads.{Loads}
use Rattle.std.specs.Prelude.{Some}
use Rattle.lent_load.proofs.Front.{Front, front_loaded}
use Rattle.call_lrat_parts.proofs.Running.{ran_again, ran_further}
use Rattle.call_lrat_parts.proofs.run_part.Goals as goal

pub returns-then-reader : goal.returns-then-reader
returns-then-reader c =
    let most : (c.args.n ≤ 1024) × (length c.args.pool.now ≤ 8192) = lent_most c.args.n (length c.args.pool.now) c.requires.1 in
    let few : c.args.n ≤ length c.args.rows.now = omega (arith, c.requires.0, most.0) in
    let loaded : Front c.args.c c.args.n c.args.rows.now c.args.pool.now c.load.result c.load.new.rows = front_loaded few (omega (arith, c.requires.0)) c.load.ensures c.load.auto.rows in
    let t : Table = c.in-Some.t in
    let rows₁ : List Row = c.load.new.rows ++ drop c.args.n c.args.rows.now in
    let working : Loads c.args.c (take c.args.n c.args.rows.now) c.args.pool.now (Some t) rows₁ = loaded.working t c.in-Some.is in
    let a = c.args in
    rw (c.left.ensures, c.told.ensures)
    (ran_again a.n a.rows.now a.pool.now a.c a.r a.part.now a.last working c.if-reader.true
    c.requires.2)

pub returns : goal.returns
returns c =
    let most : (c.args.n ≤ 1024) × (length c.args.pool.now ≤ 8192) = lent_most c.args.n (length c.args.pool.now) c.requires.1 in
    let few : c.args.n ≤ length c.args.rows.now = omega (arith, c.requires.0, most.0) in
    let loaded : Front c.args.c c.args.n c.args.rows.now c.args.pool.now c.load.result c.load.new.rows = front_loaded few (omega (arith, c.requires.0)) c.load.ensures c.load.auto.rows in
    let t : Table = c.in-Some.t in
    let rows₁ : List Row = c.load.new.rows ++ drop c.args.n c.args.rows.now in
    let working : Loads c.args.c (take c.args.n c.args.rows.now) c.args.pool.now (Some t) rows₁ = loaded.working t c.in-Some.is in
    let a = c.args in
    ran_further a.n a.rows.now a.pool.now a.c a.r a.part.now a.last working
    c.if-reader.false loaded.own_long _ c.read_on.ensures
