-- From the rules of a text in rows whose words are not looked at, and the rows put back, to what the call promises.
use Rattle.std.proofs.Common.{◌≡◌, ◌∙◌, length, rules}
use Rattle.call_lrat_parts.proofs.Opening.{opens_lent}
use Rattle.call_lrat_parts.proofs.open.Goals as goal

pub returns : goal.returns
returns c =
    let a = c.args in
    let ran = c.open_lent-ran in
    let long : length c.take_in-rows.result ≡ 1280 = search rules in
    opens_lent a.entries.now a.pool.now a.carried a.reading a.cnf.now ran.result ran.new.rows c.put_back.new.entries ran.new.pool
    ran.ensures c.put_back.ensures.0 c.put_back.ensures.1 (ran.auto.rows ∙ long) c.put_back.auto.entries ran.auto.pool
