-- Marks of the pool's words, one for each.
use Rattle.std.specs.Prelude.{◌≡◌, Bool, true, false, ◌&&◌, ◌||◌, List, ℕ, ltb, leb, length, get_or}

-- the word lies in the part from start to end
abbrev pub between : ℕ → ℕ → ℕ → Bool
between start end w = leb start w && ltb w end

-- none of the part's words was marked, and now they are
pub record PartMarked (marks : List Bool) (start end : ℕ) (marks' : List Bool) : Type 0 where
  pub long : length marks' ≡ length marks
  pub free : (w : ℕ) → between start end w ≡ true → get_or marks w false ≡ false
  pub marked : (w : ℕ) → get_or marks' w false ≡ (get_or marks w false || between start end w)

-- or one was
abbrev pub Takes : List Bool → ℕ → ℕ → Bool → List Bool → Type 0
Takes marks start end true marks' = PartMarked marks start end marks'
Takes marks start end false marks' = (w : ℕ) × (between start end w ≡ true) × (get_or marks w false ≡ true)
