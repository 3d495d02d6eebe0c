-- Tests over a list, as functions that compute. Nothing here knows of literals.
use Rattle.std.specs.Prelude.{Bool, true, false, cond, ◌&&◌, ◌||◌, List, [], ◌∷◌}

module _ {A : Type 0} where
  -- some element passes the test
  unfoldable pub any_passes : (A → Bool) → List A → Bool
  any_passes p [] = false
  any_passes p (x ∷ xs) = p x || any_passes p xs

  -- every element passes the test
  unfoldable pub all_pass : (A → Bool) → List A → Bool
  all_pass p [] = true
  all_pass p (x ∷ xs) = p x && all_pass p xs

  -- the elements that pass the test, in order
  unfoldable pub only : (A → Bool) → List A → List A
  only p [] = []
  only p (x ∷ xs) = cond (p x) (x ∷ only p xs) (only p xs)
