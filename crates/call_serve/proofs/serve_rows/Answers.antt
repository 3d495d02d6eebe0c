use Rattle.std.proofs.Common.{◌≤◌, length, arith}
use Rattle.lent_load.proofs.Front.{front_loaded}
use Rattle.call_serve.proofs.Back.{served_stored}
use Rattle.call_serve.proofs.serve_rows.Goals as goal

pub returns-then-q : goal.returns-then-q
returns-then-q c =
    let a = c.args in
    let few : a.n ≤ length a.rows.now = omega (arith, c.requires.0, c.requires.1) in
    let loaded = front_loaded few (omega (arith, c.requires.0)) c.load.ensures c.load.auto.rows in
    rw c.carry.ensures
    (served_stored a.n a.rows.now a.pool.now a.c (loaded.working c.in-Some.t c.in-Some.is) c.attend-q.ensures c.if-q.true loaded.own_long
    c.squeeze-whole.ensures)
