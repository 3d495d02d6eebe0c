-- What the loops look for: a falsified row, and the records whose ids a part of the stack lists.
use Rattle.std.specs.Prelude.{◌≡◌, Bool, true, not, ◌&&◌, List, map, reverse, ℕ, ◌<◌, eqb, ℤ, length, get_or}
use Rattle.rules.specs.Lists.{any_passes}
use Rattle.rules.specs.Terms.{Assignment, sat, Held, has, fetch}
use Rattle.table.specs.Spelled.{Row, row_at, id_of, held, stands, clause_part, clauses}

-- the row is that of an irredundant clause with no true literal
unfoldable pub falsified : Assignment → List ℤ → Row → Bool
falsified α pool r = stands 0 r && not (sat α (clause_part pool r))

-- of ids from the bottom, the records from the top
abbrev pub records : List ℤ → List Row → List ℕ → List Held
records pool rows ids = map (fetch (clauses 2 pool rows)) (reverse ids)

-- a row of this id is stacked
unfoldable pub is_stacked : List Row → ℕ → Bool
is_stacked rows i = any_passes (λ r. stands 2 r && eqb (id_of r) i) rows

-- k is the row of the record of this id
pub record Record (rows : List Row) (i k : ℕ) : Type 0 where
  pub below : k < length rows
  pub held_there : (pool : List ℤ) → fetch (clauses 2 pool rows) i ≡ held pool (row_at rows k)

-- each is the id of a stacked clause
abbrev pub Stacked : List ℤ → List Row → List ℕ → Type 0
Stacked pool rows ids = (j : ℕ) → j < length ids → has (clauses 2 pool rows) (get_or ids j 0) ≡ true
