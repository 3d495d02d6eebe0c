-- An accepted frame's move of the tables, and what writers lean on.
use Rattle.std.specs.Prelude.{◌≡◌, true, List, ℕ, zero, suc, ◌+◌, ◌-◌, ◌<◌, ◌≤◌, ℤ, length}
use Rattle.rules.specs.Terms.{is_clause}
use Rattle.rules.specs.Frames.{Frame, ADD, DROP, FORGET, LEARN, next}
use Rattle.table.specs.Spelled.{Row, start_of, length_of, witness_of, moved_row, renumbered, spelled, Fit}
use Rattle.table.specs.declared.Table.{Table}

-- an accepted frame: the tables after it fit, and spell what the paper says
pub record Moved (t : Table) (rows : List Row) (pool : List ℤ) (stack : List ℕ) (t' : Table) (rows' : List Row) (pool' : List ℤ) (stack' : List ℕ)
    (f : Frame) : Type 0 where
  pub fit : Fit t' rows' pool' stack'
  pub state : spelled t' rows' pool' stack' ≡ next (spelled t rows pool stack) f

-- ADD brings a clause to place 0, LEARN to place 1
abbrev pub comes_by : ℕ → ℕ → List ℤ → List ℤ → Frame
comes_by zero i c hints = ADD i c
comes_by (suc p) i c hints = LEARN i c hints

-- DROP takes one from place 0, FORGET from place 1
abbrev pub goes_by : ℕ → ℕ → List ℤ → Frame
goes_by zero i hints = DROP i hints
goes_by (suc p) i hints = FORGET i

-- ---- a row that gives up words

-- in the place p, with the first n of its literals and no witness
abbrev pub cut_row : Row → ℕ → ℕ → Row
cut_row r p n = moved_row r p (start_of r) n 0

abbrev pub lessened : Table → Row → ℕ → Table
lessened t r n = renumbered t t.highest t.count t.gone (t.words - (length_of r - n + witness_of r)) t.depth t.top

-- ---- what writers lean on

-- "an id, 1 to 2,147,483,647. A new id must be greater than every id accepted before"
abbrev pub New : Table → ℕ → Type 0
New t i = (t.highest < i) × (i ≤ 2147483647)

-- what ADD and LEARN have been judged by: a clause under a new id, an entry for it, and room for its literals
pub record NewClause (t : Table) (pool : List ℤ) (i : ℕ) (c : List ℤ) : Type 0 where
  pub entry : t.count < t.entries + t.gone
  pub words : t.words + length c ≤ length pool
  pub new : New t i
  pub clause : is_clause t.vars c ≡ true
