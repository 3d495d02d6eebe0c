use Rattle.std.proofs.Common.{arith}
use Rattle.table_write.proofs.Moves.{promote_moves, row_held}
use Rattle.table_write.proofs.promote.Goals as goal

pub cut_row-requires : goal.cut_row-requires
cut_row-requires c =
    let h = row_held c.requires.0 c.args.at c.requires.1 in
    (h.0, omega arith, h.1)

pub returns : goal.returns
returns c =
    let e = c.cut_row.ensures in
    rw (e.0, e.1) (promote_moves c.requires.0 c.args.at c.requires.1 c.requires.2)
