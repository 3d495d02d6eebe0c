-- What WEAKEN's writer leans on, and what it makes of the table.
use Rattle.std.specs.Prelude.{◌≡◌, true, List, ℕ, ◌+◌, ◌<◌, ◌≤◌, ℤ, length}
use Rattle.rules.specs.Terms.{is_witness}
use Rattle.table.specs.Spelled.{Row, row_at, place_of, clause_part, renumbered}
use Rattle.table.specs.declared.Table.{Table}

-- what WEAKEN has been judged by: the row is irredundant, the witness is one, and there is room for it
pub record Weakenable (t : Table) (rows : List Row) (pool : List ℤ) (at : ℕ) (witness : List ℤ) : Type 0 where
  pub within : at < t.count
  pub irredundant : place_of (row_at rows at) ≡ 0
  pub witnessed : is_witness t.vars (clause_part pool (row_at rows at)) witness ≡ true
  pub room : t.words + length witness ≤ length pool

-- the table with a record of n words more, its id on the stack
abbrev pub grown : Table → ℕ → Table
grown t n = renumbered t t.highest t.count t.gone (t.words + n) (t.depth + 1) (t.top + n)
