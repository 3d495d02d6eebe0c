use Rattle.std.proofs.Common.{◌≡◌, ◌∙◌, ap, ◌+◌, ◌≤◌, List, length, length-set, arith}
use lib.IntN.{ℤ}
use Rattle.table.specs.Spelled.{Row, row_at, start_of, size, part, Inside}
use Rattle.table_slices.specs.Writes.{written}
use Rattle.table_slices.proofs.Slices.{length_tail, tail_written, length_written}
use Rattle.table.proofs.Rows.{part_length}
use Rattle.table_room.proofs.Packing.{inside_here, room_here, gathered_next}
use Rattle.table_room.proofs.gather.Goals as goal

pub part_of-requires : goal.part_of-requires
part_of-requires c =
    let inside : Inside (length c.args.pool.now) (row_at c.loop-i.rows c.loop-i.i) = inside_here c.requires.0 c.loop-i.invariant.0 (omega arith) in
    omega (arith, inside, c.size_of-n.ensures)

pub write_literals-requires : goal.write_literals-requires
write_literals-requires c =
    let l = c.loop-i in
    let row : Row = row_at l.rows l.i in
    let words : List ℤ = part c.args.pool.now (start_of row) (size row) in
    let inside : Inside (length c.args.pool.now) row = inside_here c.requires.0 l.invariant.0 (omega arith) in
    let room : l.at + size row ≤ length l.buffer = omega (arith, room_here c.requires.0 l.invariant.0 (omega arith)) in
    let long : length words ≡ size row = part_length c.args.pool.now (start_of row) (size row) inside in
    let n = c.size_of-n.ensures.0 in
    let handed : c.part_of.result.now ≡ words = rw (← n) c.part_of.ensures in
    rw handed (omega (arith, long, room, length_tail l.buffer l.at))

pub loop-i-preserved : goal.loop-i-preserved
loop-i-preserved c =
    let l = c.loop-i in
    let row : Row = row_at l.rows l.i in
    let words : List ℤ = part c.args.pool.now (start_of row) (size row) in
    let inside : Inside (length c.args.pool.now) row = inside_here c.requires.0 l.invariant.0 (omega arith) in
    let room : l.at + size row ≤ length l.buffer = omega (arith, room_here c.requires.0 l.invariant.0 (omega arith)) in
    let long : length words ≡ size row = part_length c.args.pool.now (start_of row) (size row) inside in
    let e = c.size_of-n.ensures.0 in
    let handed : c.part_of.result.now ≡ words = rw (← e) c.part_of.ensures in
    let put = c.write_literals in
    let w = tail_written l.buffer c.part_of.result.now l.at l.invariant.1 put.new.tail put.ensures
    ∙ ap (written l.buffer l.at) handed in
    let m = c.move_row.ensures in
    let n = length_written l.buffer l.at words l.invariant.1 (omega (arith, room, long)) in (
      rw (e, m, w) (gathered_next c.requires.0 l.invariant.0 (omega arith) l.invariant.1),
      rw (e, w) (omega (arith, room, n)),
      rw m (simp length-set l.invariant.2),
      rw w (n ∙ l.invariant.3),
    )
