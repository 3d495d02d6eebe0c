-- The bit that is read is the one that `assigned` names.
use Rattle.lit_sets.proofs.Assigned.{read_is}
use Rattle.lit_sets.proofs.value.Goals as goal

pub returns : goal.returns
returns c = read_is c.args.words.now c.args.v c.requires.0
