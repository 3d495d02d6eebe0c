-- What 32 words of 64 bits say: an assignment; and two such arrays, a set of literals.
use Rattle.std.specs.Prelude.{Bool, false, cond, List, ℕ, zero, suc, ◌+◌, ◌/◌, ◌%◌, ◌^◌, get_or, pos, negsuc, eqb}
use Rattle.rules.specs.Terms.{Assignment, Literals}
use Rattle.lit_sets.specs.declared.LitSet.{LitSet}

-- bit k of a word
unfoldable pub bit : ℕ → ℕ → Bool
bit w k = eqb (w / 2 ^ k % 2) 1

-- how many of the lowest k bits are set
unfoldable pub ones_below : ℕ → ℕ → ℕ
ones_below w zero = 0
ones_below w (suc k) = cond (bit w k) 1 0 + ones_below w k

-- "variable v is bit (v-1) mod 64 of word (v-1)/64, whole part"
unfoldable pub assigned : List ℕ → Assignment
assigned ws zero = false
assigned ws (suc i) = bit (get_or ws (i / 64) 0) (i % 64)

-- the variables of its positive literals, and of its negative ones
unfoldable pub set_of : List ℕ → List ℕ → Literals
set_of plus minus (pos n) = assigned plus n
set_of plus minus (negsuc n) = assigned minus (suc n)

-- the literals of a set
abbrev pub literals : LitSet → Literals
literals s = set_of s.plus s.minus
