-- From a part on the rows taken in, and the rows put back, to what the call promises.
use Rattle.call_give.proofs.Giving.{gives_lent}
use Rattle.call_give.proofs.give.Goals as goal

pub returns : goal.returns
returns c =
    let a = c.args in
    let ran = c.run_lent-ran in
    gives_lent a.entries.now a.pool.now a.carried a.reader a.frame.now a.part.now a.out.now ran.result ran.new.rows c.put_back.new.entries ran.new.pool
    ran.new.frame ran.new.out (rw c.take_in-rows.ensures at ran.ensures) c.put_back.ensures.0 c.put_back.ensures.1 c.put_back.auto.entries ran.auto.pool
    ran.auto.frame ran.auto.out
