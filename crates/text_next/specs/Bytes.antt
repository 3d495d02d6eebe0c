-- Bytes as one number, the first of them the least significant.
use Rattle.std.specs.Prelude.{◌≡◌, ℕ, zero, suc, ◌+◌, ◌-◌, ◌*◌, ◌/◌, ◌%◌, ◌^◌, ◌<◌, Bool, cond, List, [], ◌∷◌, ◌++◌, map, replicate, nat_lt}

-- the number that bytes are
unfoldable pub little : List ℕ → ℕ
little [] = 0
little (b ∷ bs) = little bs * 256 + b

-- the first n bytes of a number
unfoldable pub bytes_of : ℕ → ℕ → List ℕ
bytes_of zero x = []
bytes_of (suc n) x = x % 256 ∷ bytes_of n (x / 256)

-- below 33, as every blank is
abbrev pub is_low : ℕ → Bool
is_low b = nat_lt b 33

-- the place of the highest bit of the first low byte, eight bits to a byte; past all bytes where none is low
unfoldable pub low_bit : List ℕ → ℕ
low_bit [] = 0
low_bit (b ∷ bs) = cond (is_low b) 7 (low_bit bs + 8)

-- a number that one digit says
abbrev pub is_small : ℕ → Bool
is_small d = nat_lt d 10

-- the first n bytes of a number as digits, where 48 is the digit 0
abbrev pub digits_of : ℕ → ℕ → List ℕ
digits_of n e = map (λ d. d + 48) (bytes_of n e)

-- The bytes of x before the place are the last of eight, behind digits 0; and e is these eight with 48 taken from each.
abbrev pub LastDigits : ℕ → ℕ → ℕ → Type 0
LastDigits x bits e =
    (n : ℕ) → 0 < n → n < 8 → bits ≡ 8 * n + 7 → (e + little (replicate 8 48)) % 2 ^ 64 ≡ little (replicate (8 - n) 48 ++ bytes_of n x)
