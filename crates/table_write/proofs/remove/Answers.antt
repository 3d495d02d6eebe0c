use Rattle.std.proofs.Common.{refl, ap, arith}
use Rattle.table.specs.declared.Table.{Table}
use Rattle.table_write.proofs.Moves.{leaves, row_held}
use Rattle.table_write.proofs.remove.Goals as goal

pub cut_row-u-requires : goal.cut_row-u-requires
cut_row-u-requires c =
    let h = row_held c.requires.0 c.args.at c.requires.1 in
    (h.0, omega arith, h.1)

pub overflow_add-u : goal.overflow_add-u
overflow_add-u c = omega (arith, row_held c.requires.0 c.args.at c.requires.1, ap (λ (t : Table). t.gone) c.cut_row-u.ensures.1)

pub returns : goal.returns
returns c =
    let e = c.cut_row-u.ensures in
    λ hints. rw (e.0, e.1) (leaves c.requires.0 c.args.at c.requires.1 _ c.requires.2 refl hints)
