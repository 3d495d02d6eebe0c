use Rattle.std.proofs.Common.{◌≡◌, ap, List, ℕ, ◌+◌, ◌-◌, ◌≤◌, length, set, take, arith}
use lib.IntN.{ℤ}
use Rattle.table.specs.Spelled.{Row, row_at, length_of, clause_part, Fit}
use Rattle.table.specs.declared.Table.{Table}
use Rattle.table_slices.proofs.Slices.{over_front}
use Rattle.table.proofs.Rows.{clause_length}
use Rattle.table.proofs.Readers.{row_inside}
use Rattle.table_room.specs.Room.{Roomy}
use Rattle.table_room.proofs.Packing.{roomy_is}
use Rattle.table_write.specs.Moved.{cut_row, lessened}
use Rattle.table_write.proofs.Moves.{row_held, row_short}
use Rattle.weaken_write.specs.Records.{Weakenable}
use Rattle.weaken_write.proofs.Weakening.{blank_fit, record_numbers, weaken_moves}
use Rattle.weaken_write.proofs.weaken.Goals as goal

-- the literals that are copied out: as long as the row says, and few
module _ {t : Table} {rows : List Row} {pool : List ℤ} {stack : List ℕ} (f : Fit t rows pool stack) {at : ℕ} {witness : List ℤ} (j : Weakenable t rows pool at witness) where
  long : length (clause_part pool (row_at rows at)) ≡ length_of (row_at rows at)
  long = clause_length pool (row_at rows at) (row_inside f at j.within)

  short : length (clause_part pool (row_at rows at)) ≤ 256
  short = omega (arith, row_short f at j.within, long)

pub clause_of-clause-requires : goal.clause_of-clause-requires
clause_of-clause-requires c =
    let h = c.requires.1.within in
    ((row_held c.requires.0 c.args.at h).0, row_inside c.requires.0 c.args.at h)

pub write_literals-requires : goal.write_literals-requires
write_literals-requires c = omega (arith, ap length c.clause_of-clause.ensures, short c.requires.0 c.requires.1)

pub cut_row-b-requires : goal.cut_row-b-requires
cut_row-b-requires c =
    let held = row_held c.requires.0 c.args.at c.requires.1.within in
    (held.0, omega arith, held.1)

pub make_room-u-requires : goal.make_room-u-requires
make_room-u-requires c =
    let j = c.requires.1 in
    let e = c.cut_row-b.ensures in
    let held = row_held c.requires.0 c.args.at j.within in
    let blanked : Fit c.cut_row-b.result c.cut_row-b.new.rows c.args.pool.now c.args.stack.now =
    rw (e.0, e.1) (blank_fit c.requires.0 c.args.at j.within j.irredundant) in
    (blanked, omega (arith, long c.requires.0 j, ap length c.clause_of-clause.ensures, ap (λ (t : Table). t.words) e.1, j.room))

pub write_record-requires : goal.write_record-requires
write_record-requires c =
    let j = c.requires.1 in
    let s = c.args in
    let pool : List ℤ = s.pool.now in
    let row : Row = row_at s.rows.now s.at in
    let lits : List ℤ = clause_part pool row in
    let witness : List ℤ = s.witness.now in
    let e = c.cut_row-b.ensures in
    let m = c.make_room-u in
    let handed : length c.clause_of-clause.result.now ≡ length lits = ap length c.clause_of-clause.ensures in
    let roomy : Roomy (lessened s.t row 0) (set s.rows.now s.at (cut_row row 0 0)) pool s.stack.now m.result m.new.rows m.new.pool (length lits + length witness) =
    roomy_is e.1 e.0 (omega (arith, handed)) m.ensures in
    let copied : take (length c.clause_of-clause.result.now - 0) c.write_literals.new.tail ≡ lits =
    over_front _ _ c.write_literals.ensures c.clause_of-clause.ensures handed in
    rw copied (record_numbers c.requires.0 s.at j.within j.irredundant roomy witness (omega arith) j.witnessed j.room)

pub returns : goal.returns
returns c =
    let j = c.requires.1 in
    let s = c.args in
    let pool : List ℤ = s.pool.now in
    let row : Row = row_at s.rows.now s.at in
    let lits : List ℤ = clause_part pool row in
    let witness : List ℤ = s.witness.now in
    let e = c.cut_row-b.ensures in
    let m = c.make_room-u in
    let handed : length c.clause_of-clause.result.now ≡ length lits = ap length c.clause_of-clause.ensures in
    let roomy : Roomy (lessened s.t row 0) (set s.rows.now s.at (cut_row row 0 0)) pool s.stack.now m.result m.new.rows m.new.pool (length lits + length witness) =
    roomy_is e.1 e.0 (omega (arith, handed)) m.ensures in
    let copied : take (length c.clause_of-clause.result.now - 0) c.write_literals.new.tail ≡ lits =
    over_front _ _ c.write_literals.ensures c.clause_of-clause.ensures handed in
    let w = c.write_record.ensures in
    λ groups. rw (w.0, w.1, w.2, w.3, copied)
    (weaken_moves c.requires.0 s.at j.within j.irredundant roomy witness (omega arith) j.witnessed groups)
