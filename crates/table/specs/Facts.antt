-- A fact of each element of a list, and of every two. Nothing here knows of clauses.
use Rattle.std.specs.Prelude.{List, [], ◌∷◌, ℕ, ◌+◌}

-- each element is P
pub data All {A : Type 0} (P : A → Type 0) : List A → Type 0 where
  none : All P []
  both : {x : A} {xs : List A} → P x → All P xs → All P (x ∷ xs)

-- every two elements are R, the earlier to the later
pub data Pairs {A : Type 0} (R : A → A → Type 0) : List A → Type 0 where
  alone : Pairs R []
  ahead : {x : A} {xs : List A} → All (R x) xs → Pairs R xs → Pairs R (x ∷ xs)

-- the sum of a number of each
abbrev pub total : {A : Type 0} → (A → ℕ) → List A → ℕ
total f [] = 0
total f (x ∷ xs) = f x + total f xs
