use Rattle.std.proofs.Common.{List, ap, arith, length, ◌+◌, ◌<◌, ◌≤◌}
use lib.IntN.{ℤ}
use Rattle.rules.specs.Terms.{State}
use Rattle.table_slices.proofs.Slices.{tail_written}
use Rattle.table_room.proofs.Packing.{roomy_lengths}
use Rattle.table_write.proofs.Roomed.{arrives_after}
use Rattle.table_write.proofs.append.Goals as goal

pub returns : goal.returns
returns c =
    let s = c.args in
    let lits : List ℤ = s.lits.now in
    let u = c.make_room-u in
    let m = u.ensures in
    let r = c.free_row-v.ensures in
    let new = c.requires.1 in
    let l = roomy_lengths m in
    let same = ap (λ (x : State). x.entries) m.same in
    let row : u.result.count < length u.new.rows = omega (arith, m.count, r.row) in
    let room : u.result.top + length lits ≤ length u.new.pool = m.room in
    let entry : u.result.count < u.result.entries + u.result.gone = omega (arith, m.count, m.gone, r.entry, same) in
    let w = c.write_literals in
    let e = tail_written u.new.pool lits u.result.top (omega arith) w.new.tail w.ensures in
    λ hints. rw e (arrives_after r u.ensures s.id lits row entry room new.new new.clause s.place c.requires.2 hints)
