use Rattle.std.proofs.Common.{ap, arith}
use Rattle.table.specs.declared.Table.{Table}
use Rattle.table.proofs.Readers.{row_stacked}
use Rattle.table_write.proofs.Moves.{restore_moves, row_held}
use Rattle.table_write.proofs.restore.Goals as goal

pub position-from-requires : goal.position-from-requires
position-from-requires c = (c.requires.0.stack_fit, row_stacked c.requires.0 c.args.at c.requires.1 c.requires.2)

pub cut_row-u-requires : goal.cut_row-u-requires
cut_row-u-requires c =
    let h = row_held c.requires.0 c.args.at c.requires.1 in
    (h.0, omega arith, h.1)

pub overflow_sub-u : goal.overflow_sub-u
overflow_sub-u c = omega (arith, ap (λ (t : Table). t.depth) c.cut_row-u.ensures.1)

pub returns : goal.returns
returns c =
    let from = c.position-from in
    let p = c.close_stack.ensures in
    let e = c.cut_row-u.ensures in
    rw (p, e.0, e.1) (restore_moves c.requires.0 c.args.at c.requires.1 from.result from.ensures.0 from.ensures.1 c.requires.2)
