-- From a frame on the rows taken in, and the rows put back, to what the call promises.
use Rattle.call_step.proofs.Stepped.{steps_lent}
use Rattle.call_step.proofs.step.Goals as goal

pub returns : goal.returns
returns c =
    let a = c.args in
    let ran = c.run_lent-r in
    steps_lent a.entries.now a.pool.now a.carried a.frame.now a.model.now ran.result ran.new.rows c.put_back.new.entries ran.new.pool ran.new.model
    (rw c.take_in-rows.ensures at ran.ensures) c.put_back.ensures.0 c.put_back.ensures.1 c.put_back.auto.entries ran.auto.pool ran.auto.model
