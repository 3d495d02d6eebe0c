use Rattle.std.proofs.Common.{◌≡◌, ◌-◌, arith}
use Rattle.table_room.proofs.Packing.{compact_roomy}
use Rattle.table_room.proofs.compact.Goals as goal

pub returns : goal.returns
returns c =
    let gathered = c.gather-top in
    let e = gathered.ensures.1 in
    let z : c.args.t.words - 0 ≡ c.args.t.words = omega arith in
    let g = rw e at gathered.ensures.0 in
    let f = c.requires.0 in
    rw (c.write_literals.ensures, e, z) (compact_roomy f g c.requires.1 (omega (arith, f.pool_lent)) _ (omega (arith, c.requires.1)))
