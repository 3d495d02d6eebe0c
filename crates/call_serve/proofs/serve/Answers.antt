use Rattle.call_serve.proofs.Back.{serves_lent}
use Rattle.call_serve.proofs.serve.Goals as goal

pub returns : goal.returns
returns c =
    let a = c.args in
    let ran = c.serve_rows-served in
    serves_lent a.entries.now a.pool.now a.carried c.requires ran.result ran.new.rows c.put_back.new.entries ran.new.pool
    (rw c.take_in-rows.ensures at ran.ensures) c.put_back.ensures.0 c.put_back.ensures.1 c.put_back.auto.entries ran.auto.pool
