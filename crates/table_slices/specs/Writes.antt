-- What the small writers do to a slice. Nothing here knows of clauses.
use Rattle.std.specs.Prelude.{◌≡◌, List, ◌++◌, ℕ, suc, ◌-◌, ◌<◌, length, get_or, take, drop}

module _ {A : Type 0} where
  -- s over the first elements of d
  abbrev pub over : List A → List A → List A
  over d s = s ++ drop (length s) d

  -- s over the elements of d from `at` on
  abbrev pub written : List A → ℕ → List A → List A
  written d at s = take at d ++ over (drop at d) s

  -- the elements behind `at`, up to `last`, one place down
  abbrev pub closed : List A → ℕ → ℕ → List A
  closed l at last = take at l ++ (take (last - at) (drop (suc at) l) ++ drop last l)

-- the number stands nowhere behind k, before n
abbrev pub Unmet : List ℕ → ℕ → ℕ → ℕ → Type 0
Unmet ids i k n = (j : ℕ) → k < j → j < n → get_or ids j 0 ≡ i → ⊥

-- the number is among the first n
pub record Among (ids : List ℕ) (n i : ℕ) : Type 0 where
  pub index : ℕ
  pub low : index < n
  pub named : get_or ids index 0 ≡ i
