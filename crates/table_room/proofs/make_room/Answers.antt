use Rattle.std.proofs.Common.{refl, arith}
use Rattle.table_room.proofs.make_room.Goals as goal

pub returns : goal.returns
returns c =
    let f = c.requires.0 in
    record { fit = f; same = refl; entries = refl; count = refl; gone = refl; long = refl; words = refl; depth = refl; room = omega (arith, f.pool_fit) }
