use Rattle.std.proofs.Common.{refl, arith}
use Rattle.table_room.proofs.Squeezing.{squeezed_frees}
use Rattle.table_room.proofs.free_row.Goals as goal

pub returns-then-count-rows : goal.returns-then-count-rows
returns-then-count-rows c = squeezed_frees c.requires.0 c.requires.1 c.squeeze.ensures

pub returns : goal.returns
returns c =
    let p = c.requires in
    record { fit = p.0; same = refl; row = omega arith; entry = p.1; words = refl; long = refl }
