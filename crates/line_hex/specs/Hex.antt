-- Document 01, "Tables and hexadecimal lines": digits, and words of eight.
use Rattle.std.specs.Prelude.{◌≡◌, Bool, cond, List, [], ◌∷◌, ℕ, zero, suc, ◌+◌, ◌-◌, ◌*◌, ◌/◌, ◌%◌, ◌^◌, ◌<◌, ltb, get_or, ℤ, pos, negsuc}

-- ---- reading

-- what a byte that is no digit counts as: more than any word
abbrev pub beyond : ℕ
beyond = 4294967296

-- "lowercase hexadecimal digits": what a byte counts as
unfoldable pub digit : ℕ → ℕ
digit b = cond (ltb b 48) beyond (cond (ltb b 58) (b - 48) (cond (ltb b 97) beyond (cond (ltb b 103) (b - 87) beyond)))

abbrev pub is_digit : ℕ → Bool
is_digit b = ltb (digit b) 16

-- a table of what each byte counts as
pub record Values (table : List ℕ) : Type 0 where
  pub each : (b : ℕ) → b < 256 → get_or table b 0 ≡ digit b

-- "most significant first": the value of k digits, from place i on
unfoldable pub value_at : List ℕ → ℕ → ℕ → ℕ
value_at l i zero = 0
value_at l i (suc k) = value_at l i k * 16 + digit (get_or l (i + k) 0)

-- "each 32 bits, two's complement"
unfoldable pub signed : ℕ → ℤ
signed w = cond (ltb w 2147483648) (pos w) (negsuc (4294967295 - w))

-- ---- writing

-- a number that 32 bits hold
abbrev pub is_word : ℤ → Bool
is_word (pos n) = ltb n 2147483648
is_word (negsuc n) = ltb n 2147483648

-- the 32 bits of a word as a number: the opposite of `signed`
abbrev pub unsigned : ℤ → ℕ
unsigned (pos n) = n
unsigned (negsuc n) = 4294967295 - n

-- the byte of a digit
unfoldable pub glyph : ℕ → ℕ
glyph d = cond (ltb d 10) (d + 48) (d + 87)

-- the lowest k digits of n, the most significant first
unfoldable pub hex : ℕ → ℕ → List ℕ
hex zero n = []
hex (suc k) n = glyph (n / 16 ^ k % 16) ∷ hex k n
