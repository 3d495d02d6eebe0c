-- Words that are numbers: decimal digits, of any length.
use Rattle.std.specs.Prelude.{Bool, cond, ◌&&◌, List, [], ◌∷◌, ◌++◌, ℕ, zero, suc, ◌+◌, ◌-◌, ◌*◌, ◌/◌, ◌%◌, eqb, ltb, leb, ℤ, pos, negsuc}
use Rattle.std.proofs.Math.Option.{Option, none, some}
use Rattle.rules.specs.Lists.{all_pass}

-- ---- reading

-- 0 to 9
abbrev pub is_decimal : ℕ → Bool
is_decimal b = leb 48 b && ltb b 58

-- the number that digits go on to say, behind those of n; most significant first
unfoldable pub said_on : ℕ → List ℕ → ℕ
said_on n [] = n
said_on n (b ∷ bs) = said_on (n * 10 + (b - 48)) bs

-- A word of digits is a number, whatever its length and however many of its first digits are 0. No sign stands before it.
unfoldable pub natural_of : List ℕ → Option ℕ
natural_of [] = none
natural_of (b ∷ bs) = cond (all_pass is_decimal (b ∷ bs)) (some (said_on 0 (b ∷ bs))) none

abbrev pub plus_of : Option ℕ → Option ℤ
plus_of none = none
plus_of (some n) = some (pos n)

-- there is no -0
abbrev pub minus_of : Option ℕ → Option ℤ
minus_of none = none
minus_of (some zero) = none
minus_of (some (suc n)) = some (negsuc n)

-- the same with or without a minus before the digits
unfoldable pub integer_of : List ℕ → Option ℤ
integer_of [] = none
integer_of (b ∷ bs) = cond (eqb b 45) (minus_of (natural_of bs)) (plus_of (natural_of (b ∷ bs)))

-- ---- writing

-- n in at most so many digits, the first of them not 0 unless it is the only one
unfoldable pub decimal_in : ℕ → ℕ → List ℕ
decimal_in zero n = []
decimal_in (suc k) n = cond (ltb n 10) ((n + 48) ∷ []) (decimal_in k (n / 10) ++ ((n % 10 + 48) ∷ []))

abbrev pub decimal : ℕ → List ℕ
decimal n = decimal_in (suc n) n

abbrev pub signed_decimal : ℤ → List ℕ
signed_decimal (pos n) = decimal n
signed_decimal (negsuc n) = 45 ∷ decimal (suc n)
