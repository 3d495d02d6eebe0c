-- The allowed set, by a scope of the rows; what the functions hand back, in the paper's terms.
use Rattle.std.specs.Prelude.{◌≡◌, Bool, not, ◌&&◌, List, map, ℕ, ◌<◌, eqb, ltb, ℤ, length}
use Rattle.rules.specs.Lists.{only}
use Rattle.rules.specs.Propagation.{nobody, clause, Allowed, among, named, Run, ended}
use Rattle.lit_sets.specs.Words.{literals}
use Rattle.table.specs.Spelled.{Row, row_at, id_of, place_of, clause_part, held}
use Rattle.std.specs.Prelude.{Option}
use Rattle.std.specs.Prelude.{Some, None}
use Rattle.judge_propagate.specs.declared.Scope.{Scope}
use Rattle.judge_propagate.specs.declared.Propagated.{Propagated}

-- LEARN's and UNSAT's: the clauses of all three places
abbrev pub all_clauses : Scope
all_clauses = record { places = 3; except = 0 }

-- DROP's, and that of WEAKEN's groups: the irredundant clauses other than that of the id
abbrev pub irredundant_but : ℕ → Scope
irredundant_but i = record { places = 1; except = i }

-- the row's place is below `places`, and its id is another than `except`
abbrev pub permits : Scope → Row → Bool
permits scope r = ltb (place_of r) scope.places && not (eqb (id_of r) scope.except)

unfoldable pub allowed_of : Scope → List ℤ → List Row → Allowed
allowed_of scope pool rows = among (map (held pool) (only (permits scope) rows))

-- each row has an id
abbrev pub Positive : List Row → Type 0
Positive rows = (k : ℕ) → k < length rows → 0 < id_of (row_at rows k)

-- the row of the allowed clause that a hint names, or that it names none
abbrev pub Picked : List Row → Scope → ℤ → Option ℕ → Type 0
Picked rows scope hint (Some k) = (k < length rows) × ((pool : List ℤ) → named (allowed_of scope pool rows) hint ≡ clause (clause_part pool (row_at rows k)))
Picked rows scope hint None = (pool : List ℤ) → named (allowed_of scope pool rows) hint ≡ nobody

-- the verdict, and the literals that are false then
abbrev pub run_of : Propagated → Run
run_of r = ended r.verdict (literals r.falses)
