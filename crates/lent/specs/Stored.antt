-- What is carried on when a working table is stored back, and what goes back over the lent entries.
use Rattle.std.specs.Prelude.{◌≡◌, Bool, true, false, List, ℕ, ◌≤◌, ℤ, length, take}
use Rattle.std.proofs.Math.Option.{some}
use Rattle.rules.specs.Terms.{State}
use Rattle.table.specs.Spelled.{Row}
use Rattle.table.specs.declared.Table.{Table}
use Rattle.lent.specs.State.{state_carried}
use Rattle.lent.specs.declared.Carried.{Carried}

-- where the pool's unused tail starts is not carried: a working table finds it anew
abbrev pub carried_of : Table → List ℕ → Carried
carried_of t stack = record { vars = t.vars; highest = t.highest; count = t.count; words = t.words; depth = t.depth; stack = stack }

-- the first k rows go back over a table of n: whatever stands behind them, what is then lent and carried spells s
abbrev pub Stores : ℕ → ℕ → Carried → List Row → List ℤ → State → Type 0
Stores n k c rows pool s = (back : List Row) → length back ≡ n → take k back ≡ take k rows → state_carried c back pool ≡ some s

-- what goes back over a table of n rows that spelled s: after an accepted change the first k rows, so that s' is spelled; else none, and nothing else has
-- changed
pub record PutsBack (altered : Bool) (n : ℕ) (c : Carried) (pool : List ℤ) (s : State) (k : ℕ) (c' : Carried) (rows' : List Row) (pool' : List ℤ)
    (s' : State) : Type 0 where
  pub bounded : (k ≤ n) × (k ≤ length rows')
  pub stores : altered ≡ true → Stores n k c' rows' pool' s'
  pub leaves : altered ≡ false → (k ≡ 0) × (pool' ≡ pool) × (c' ≡ c) × (s' ≡ s)
