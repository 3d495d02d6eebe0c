-- The id is stacked, so the search finds its row.
use Rattle.judge_walk.proofs.Walks.{found, is_there}
use Rattle.judge_walk.proofs.record_of.Goals as goal

pub unwrap-requires : goal.unwrap-requires
unwrap-requires c = is_there _ c.requires.0 _ c.requires.1 _ c.find.ensures

pub returns : goal.returns
returns c = found _ c.requires.0 _ c.requires.1 _ (rw c.unwrap.ensures at c.find.ensures)
