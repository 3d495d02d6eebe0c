-- Room: at the pool's tail, made by bringing all parts together at its front; and behind the last row, made by taking out the rows whose clause is gone.
use Rattle.std.specs.Prelude.{◌≡◌, Bool, not, List, [], ◌∷◌, ◌++◌, map, ℕ, ◌+◌, ◌<◌, ◌≤◌, ℤ, length, take, drop}
use Rattle.rules.specs.Lists.{only}
use Rattle.table.specs.Facts.{total}
use Rattle.table.specs.Spelled.{Row, place_of, start_of, length_of, witness_of, size, moved_row, part, stands, in_place, held_rows, spelled, Fit}
use Rattle.table.specs.declared.Table.{Table}

-- the row, with its part at `at`
abbrev pub pointed : ℕ → Row → Row
pointed at r = moved_row r (place_of r) at (length_of r) (witness_of r)

-- rows whose parts follow one another from `at` on
abbrev pub packed : ℕ → List Row → List Row
packed at [] = []
packed at (r ∷ rows) = pointed at r ∷ packed (at + size r) rows

-- the parts, one after the other
abbrev pub joined : List ℤ → List Row → List ℤ
joined pool [] = []
joined pool (r ∷ rows) = part pool (start_of r) (size r) ++ joined pool rows

-- the first i rows are packed, and their parts stand in the buffer, before `at`
pub record Gathered (rows₀ : List Row) (pool : List ℤ) (i at : ℕ) (rows : List Row) (buffer : List ℤ) : Type 0 where
  pub rows_are : rows ≡ packed 0 (take i rows₀) ++ drop i rows₀
  pub at_is : at ≡ total size (take i rows₀)
  pub written : take at buffer ≡ joined pool (take i rows₀)

-- n words are free behind top, and nothing else is changed: the same entries in the same order
pub record Roomy (t : Table) (rows : List Row) (pool : List ℤ) (stack : List ℕ) (t' : Table) (rows' : List Row) (pool' : List ℤ) (n : ℕ) : Type 0 where
  pub fit : Fit t' rows' pool' stack
  pub same : spelled t' rows' pool' stack ≡ spelled t rows pool stack
  pub entries : map (in_place pool') (held_rows t' rows') ≡ map (in_place pool) (held_rows t rows)
  pub count : t'.count ≡ t.count
  pub gone : t'.gone ≡ t.gone
  pub long : length rows' ≡ length rows
  pub words : t'.words ≡ t.words
  pub depth : t'.depth ≡ t.depth
  pub room : t'.top + n ≤ length pool'

-- ---- rows

-- the row holds a clause
abbrev pub present : Row → Bool
present r = not (stands 3 r)

-- the first k rows are those of the first i that hold a clause, and those from i on are as they were
pub record ClosedUp (rows₀ : List Row) (i k : ℕ) (rows : List Row) : Type 0 where
  pub front : take k rows ≡ only present (take i rows₀)
  pub rest : drop i rows ≡ drop i rows₀
  pub few : k ≤ i
  pub long : length rows ≡ length rows₀

-- no row in use is gone, and nothing else is changed
pub record Squeezed (t : Table) (rows : List Row) (pool : List ℤ) (stack : List ℕ) (t' : Table) (rows' : List Row) : Type 0 where
  pub fit : Fit t' rows' pool stack
  pub same : spelled t' rows' pool stack ≡ spelled t rows pool stack
  pub none_gone : t'.gone ≡ 0
  pub kept : t'.count + t.gone ≡ t.count
  pub words : t'.words ≡ t.words
  pub long : length rows' ≡ length rows

-- there is a row behind the last in use, and a clause more may be held
pub record FreeRow (t : Table) (rows : List Row) (pool : List ℤ) (stack : List ℕ) (t' : Table) (rows' : List Row) : Type 0 where
  pub fit : Fit t' rows' pool stack
  pub same : spelled t' rows' pool stack ≡ spelled t rows pool stack
  pub row : t'.count < length rows'
  pub entry : t'.count < t'.entries + t'.gone
  pub words : t'.words ≡ t.words
  pub long : length rows' ≡ length rows
