use Rattle.lrat_feed.proofs.Sessions.{line_ended}
use Rattle.lrat_feed.proofs.close_line.Goals as goal

pub returns : goal.returns
returns c =
    λ plus minus. rw (c.at_start.ensures, c.line_start.ensures)
    (line_ended c.args.r plus minus c.requires c.close_line-closed.ensures c.one_more.ensures)
