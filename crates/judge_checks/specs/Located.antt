-- The row of the clause that a frame names.
use Rattle.std.specs.Prelude.{◌≡◌, false, List, ℕ, ◌<◌, ℤ}
use Rattle.rules.specs.Terms.{has}
use Rattle.table.specs.Spelled.{Row, row_at, id_of, place_of, held_rows, clauses}
use Rattle.table.specs.declared.Table.{Table}
use Rattle.std.specs.Prelude.{Option, Some, None, Result, Ok, Err}
use Rattle.rules.specs.declared.Fault.{Fault}
use Rattle.rules.specs.declared.Fault.TheVariants.{Id}

-- k is the row, held, of the clause of this id in this place
pub record RowOf (t : Table) (rows : List Row) (place i k : ℕ) : Type 0 where
  pub below : k < t.count
  pub named : id_of (row_at rows k) ≡ i
  pub placed : place_of (row_at rows k) ≡ place

-- where it is found, or that the place has no such clause
abbrev pub LocatedIn : Table → List Row → ℕ → ℕ → Option ℕ → Type 0
LocatedIn t rows place i (Some k) = RowOf t rows place i k
LocatedIn t rows place i None = (pool : List ℤ) → has (clauses place pool (held_rows t rows)) i ≡ false

-- the same, or refusal 4
abbrev pub NamedIn : Table → List Row → ℕ → ℕ → Result ℕ Fault → Type 0
NamedIn t rows place i (Ok k) = RowOf t rows place i k
NamedIn t rows place i (Err e) = (e ≡ Id i) × ((pool : List ℤ) → has (clauses place pool (held_rows t rows)) i ≡ false)
