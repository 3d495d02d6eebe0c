use Rattle.table_room.proofs.Squeezing.{squeezes}
use Rattle.table_room.proofs.squeeze.Goals as goal

pub returns : goal.returns
returns c = squeezes c.requires c.close_up-k.ensures
