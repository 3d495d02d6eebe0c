-- A deleted id: the clause goes, from whichever of the two places it is in, or 35 is noted.
use mathlib.Core.Path.{◌≡◌, refl, ap}
use mathlib.Core.Bool.{true, false}
use mathlib.Core.List.{List, []}
use Prim.Native.Nat.{ℕ, ◌≤◌}
use lib.IntN.{ℤ}
use borrow.Author.Tests.{le-leb}
use Rattle.rules.specs.Terms.{State, has}
use Rattle.rules.specs.Frames.{FORGET, DROP}
use Rattle.rules.proofs.Lists.{and_both, or_left, or_right}
use Rattle.table.specs.Spelled.{Row, row_at, id_of, place_of, spelled, Fit}
use Rattle.table.specs.declared.Table.{Table}
use Rattle.table_write.specs.Moved.{Moved, goes_by}
use Rattle.judge_checks.specs.Located.{RowOf}
use Rattle.judge_checks.proofs.Located.{has_it}
use Rattle.lrat.specs.Kept.{read_with}
use Rattle.lrat.specs.Checking.{is_held}
use Rattle.lrat.specs.Machine.{step, take_deleted}
use Rattle.lrat.specs.declared.ProofLine.{ProofLine}
use Rattle.lrat_line.specs.Lines.{DeletedTaken}

module _ {t : Table} {rows : List Row} {pool : List ℤ} {stack : List ℕ} (f : Fit t rows pool stack) (v : ℕ) (l : ProofLine) where
  abbrev s : State
  s = spelled t rows pool stack

  module _ (h : v ≤ 2147483647) (t' : Table) (rows' : List Row) (k : ℕ) where
    -- the row's clause went
    abbrev Went : Type 0
    Went = Moved t rows pool stack t' rows' pool stack (goes_by (place_of (row_at rows k)) (id_of (row_at rows k)) [])

    pub forgotten : RowOf t rows 1 v k → Went → DeletedTaken (take_deleted s v) pool stack l (record { table = t'; line = l }) rows'
    forgotten o w =
        let m : Moved t rows pool stack t' rows' pool stack (FORGET v) = rw (o.placed, o.named) at w in
        let b = has_it f o in
        let q : is_held s v ≡ true = and_both (le-leb v 2147483647 h) (or_right (has s.irredundant v) (has s.learned v) b) in
        record { fit = m.fit; counted = refl; taken = λ lits F. rw (q, b) (ap (λ (x : State). step x (read_with l lits F)) m.state) }

    pub dropped : has s.learned v ≡ false → RowOf t rows 0 v k → Went → DeletedTaken (take_deleted s v) pool stack l (record { table = t'; line = l }) rows'
    dropped n o w =
        let m : Moved t rows pool stack t' rows' pool stack (DROP v []) = rw (o.placed, o.named) at w in
        let q : is_held s v ≡ true = and_both (le-leb v 2147483647 h) (or_left (has s.irredundant v) (has s.learned v) (has_it f o)) in
        record { fit = m.fit; counted = refl; taken = λ lits F. rw (q, n) (ap (λ (x : State). step x (read_with l lits F)) m.state) }
