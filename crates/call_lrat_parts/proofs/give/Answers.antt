-- From a part on the rows taken in, and the rows put back, to what the call promises.
use Rattle.call_lrat_parts.proofs.Giving.{gives_lent}
use Rattle.call_lrat_parts.proofs.give.Goals as goal

pub returns : goal.returns
returns c =
    let a = c.args in
    let ran = c.give_lent-ran in
    gives_lent a.entries.now a.pool.now a.carried a.reading a.part.now a.last ran.result ran.new.rows c.put_back.new.entries ran.new.pool
    (rw c.take_in-rows.ensures at ran.ensures) c.put_back.ensures.0 c.put_back.ensures.1 c.put_back.auto.entries ran.auto.pool
