-- What opening by sizes says of tables of those sizes.
use Rattle.std.proofs.Common.{length, refl}
use Rattle.call_step.proofs.Opening.{opening_of}
use Rattle.call_step.proofs.open.Goals as goal

pub returns : goal.returns
returns c =
    let a = c.args in
    opening_of a.vars (length a.entries.now) (length a.pool.now) a.entries.now a.pool.now refl refl c.open_sized.result c.open_sized.ensures
