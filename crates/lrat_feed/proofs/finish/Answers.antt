use Rattle.lrat_feed.proofs.Sessions.{over_already, ends_so, ends_unproved}
use Rattle.lrat_feed.proofs.finish.Goals as goal

pub returns-then-r : goal.returns-then-r
returns-then-r c = over_already c.args.r _ _ c.requires c.if-r.true

pub returns-then-reader : goal.returns-then-reader
returns-then-reader c = ends_so _ c.if-r.false c.end_line-ended.ensures c.if-reader.true

pub returns : goal.returns
returns c =
    rw (c.unproved.ensures, c.emptied.ensures)
    (ends_unproved _ c.if-r.false c.end_line-ended.ensures c.if-reader.false)
