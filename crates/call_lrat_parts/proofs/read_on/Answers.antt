-- `call_lrat_parts::read_on` meets its contract.
use Rattle.call_lrat_parts.proofs.Running.{read_further}
use Rattle.call_lrat_parts.proofs.read_on.Goals as goal

pub returns : goal.returns
returns c =
    let a = c.args in
    rw (c.stored.ensures, c.answer_so_far.ensures)
    (read_further a.t a.rows.now a.pool.now a.stack a.r a.part.now a.last c.feed_part-fed.result _ _ _ c.feed_part-fed.ensures
    c.squeeze-whole.ensures)
