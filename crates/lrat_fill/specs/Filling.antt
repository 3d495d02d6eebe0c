-- What filling a table with the clauses of a text comes to.
use Rattle.std.specs.Prelude.{◌≡◌, List, ℕ, ◌≤◌, ℤ, length, Result, Ok, Err}
use Rattle.table.specs.Spelled.{Row, spelled, Fit}
use Rattle.table.specs.declared.Table.{Table}
use Rattle.dimacs.specs.Reading.{Read, faulty, sound, Cnf, read_text}
use Rattle.lrat.specs.Checking.{Filled, full, filled, fill, opened_for}
use Rattle.lrat_fill.specs.declared.Unfilled.{Unfilled}
use Rattle.lrat_fill.specs.declared.Unfilled.TheVariants.{Faulty, Full}

-- ---- what is asked

-- what is lent: rows, pool and stack, of which so many entries may be held; there may be more rows than that, as in every working table
pub record Lends (entries : ℕ) (rows : List Row) (pool : List ℤ) (stack : List ℕ) : Type 0 where
  pub entries_most : entries ≤ 1024
  pub rows_least : entries ≤ length rows
  pub rows_most : length rows ≤ 2048
  pub pool_most : length pool ≤ 8192
  pub stack_least : entries ≤ length stack

-- a text without fault, and a table that spells the opening for it
pub record FillAsked (text : List ℕ) (t : Table) (rows : List Row) (pool : List ℤ) (stack : List ℕ) : Type 0 where
  pub cnf : Cnf
  pub reads : read_text text ≡ sound cnf
  pub fit : Fit t rows pool stack
  pub opens : spelled t rows pool stack ≡ opened_for t.entries (length pool) cnf

-- ---- what it comes to

-- the table, or the number of refusal and V, as the definition says it
abbrev pub FillsAs : Result Table Unfilled → ℕ → List Row → List ℤ → List ℕ → Filled → Type 0
FillsAs (Err (Faulty f)) vars rows' pool' stack q = ⊥
FillsAs (Err (Full code v)) vars rows' pool' stack q = (q ≡ full code) × (v ≡ vars)
FillsAs (Ok t) vars rows' pool' stack q = Fit t rows' pool' stack × (q ≡ filled (spelled t rows' pool' stack))

-- the clauses of a text without fault
pub record FillsSound (entries : ℕ) (x : Cnf) (r : Result Table Unfilled) (rows' : List Row) (pool pool' : List ℤ) (stack : List ℕ) : Type 0 where
  pub kept : length pool' ≡ length pool
  pub fills : FillsAs r x.vars rows' pool' stack (fill (opened_for entries (length pool) x) 1 x.clauses)

-- a text of any bytes; one with a fault leaves every word of the pool
abbrev pub Fills : ℕ → Read Cnf → Result Table Unfilled → List Row → List ℤ → List ℤ → List ℕ → Type 0
Fills entries (faulty f) r rows' pool pool' stack = (r ≡ Err (Faulty f)) × (pool' ≡ pool)
Fills entries (sound x) r rows' pool pool' stack = FillsSound entries x r rows' pool pool' stack
