-- From what a search through the rows held found to what the places have.
use mathlib.Core.Path.{◌≡◌, sym, ◌∙◌, ap, subst}
use mathlib.Core.Bool.{true, false}
use mathlib.Core.List.{List, []}
use Prim.Native.Nat.{ℕ, ◌≤◌, ◌<◌}
use native.Mathlib.Omega.{arith}
use lib.IntN.{ℤ}
use lib.ListN.{length}
use lib.Seq.{length-take-le, get_or-take}
use borrow.Author.Tests.{eq-eqb, ne_eqb}
use Rattle.rules.specs.Lists.{all_pass}
use Rattle.rules.specs.Terms.{in_range, has, fetch}
use Rattle.table.specs.Spelled.{Row, row_at, id_of, place_of, clause_part, held, clauses, held_rows, Rising, Inside, Fit, Located}
use Rattle.table.specs.declared.Table.{Table}
use Rattle.std.specs.Prelude.{Option}
use Rattle.std.specs.Prelude.{Some, None}
use Rattle.table.proofs.Finding as finding
use Rattle.table.proofs.Readers.{readable, row_inside, has_at, fetch_at}
use Rattle.judge_checks.specs.Located.{RowOf, LocatedIn}

module _ (t : Table) (rows : List Row) (inside : t.count ≤ length rows) where
  -- the rows held are as many as the count says, and they are the first of the rows
  pub count_rows : length (held_rows t rows) ≡ t.count
  count_rows = length-take-le t.count rows inside

  row_same : (k : ℕ) → k < t.count → row_at (held_rows t rows) k ≡ row_at rows k
  row_same k h = get_or-take t.count rows k [] h

  -- the row of an id: its place is the one that is asked for, or it is not
  module _ (i k : ℕ) (at : Located (held_rows t rows) i (Some k)) where
    pub below_count : k < t.count
    below_count = omega (arith, count_rows, at.0)

    pub here : (p : ℕ) → place_of (row_at rows k) ≡ p → RowOf t rows p i k
    here p q = record { below = below_count; named = ap id_of (sym (row_same k below_count)) ∙ at.1; placed = q }

    pub elsewhere : Rising (held_rows t rows) → (p : ℕ) → (place_of (row_at rows k) ≡ p → ⊥) → (pool : List ℤ) →
        has (clauses p pool (held_rows t rows)) i ≡ false
    elsewhere up p n pool =
        let q = at.1 in
        let e = row_same k below_count in
        rw (← q) (finding.has_at pool (held_rows t rows) up k at.0 p ∙ rw e (ne_eqb (place_of (row_at rows k)) p n))

-- by what the search handed back
module _ (t : Table) (rows : List Row) (p i : ℕ) {r : Option ℕ} where
  pub found : (k : ℕ) → r ≡ Some k → LocatedIn t rows p i r → RowOf t rows p i k
  found k e l = subst (LocatedIn t rows p i) e l

  pub missing : r ≡ None → LocatedIn t rows p i r → (pool : List ℤ) → has (clauses p pool (held_rows t rows)) i ≡ false
  missing e l = subst (LocatedIn t rows p i) e l

-- the row of a clause: what may be read of it, and that its place has it under this id
module _ {t : Table} {rows : List Row} {pool : List ℤ} {stack : List ℕ} (f : Fit t rows pool stack) {p i k : ℕ} (r : RowOf t rows p i k) where
  abbrev rs : List Row
  rs = held_rows t rows

  -- what the readers ask
  pub reads_it : (k < length rows) × Inside (length pool) (row_at rows k)
  reads_it = (omega (arith, f.rows_fit, r.below), row_inside f k r.below)

  below_held : k < length rs
  below_held = omega (arith, count_rows t rows f.rows_fit, r.below)

  same : row_at rs k ≡ row_at rows k
  same = row_same t rows f.rows_fit k r.below

  named : id_of (row_at rs k) ≡ i
  named = ap id_of same ∙ r.named

  placed : place_of (row_at rs k) ≡ p
  placed = ap place_of same ∙ r.placed

  pub has_it : has (clauses p pool rs) i ≡ true
  has_it = subst (λ j. has (clauses p pool rs) j ≡ true) named (has_at f k below_held p ∙ eq-eqb (place_of (row_at rs k)) p placed)

  pub fetches_it : fetch (clauses p pool rs) i ≡ held pool (row_at rows k)
  fetches_it = subst (λ j. fetch (clauses p pool rs) j ≡ held pool (row_at rows k)) named (fetch_at f k below_held p placed ∙ ap (held pool) same)

  -- its literals, as a reader hands them out
  module _ {c : List ℤ} (q : c ≡ clause_part pool (row_at rows k)) where
    pub ranged : all_pass (in_range 2048) c ≡ true
    ranged = rw (q, ← same) ((readable f).ranged k below_held)

    pub lits_are : c ≡ (fetch (clauses p pool rs) i).lits
    lits_are = q ∙ ap (λ h. h.lits) (sym fetches_it)
