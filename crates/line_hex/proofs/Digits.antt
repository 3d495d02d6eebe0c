-- What bytes count as, the value of several digits, and how many are written.
use mathlib.Core.Path.{◌≡◌, refl, ap, ◌∙◌}
use mathlib.Core.Logic.{◌⊎◌, inl, inr, ⊎_elim}
use mathlib.Core.List.{List}
use Prim.Native.Nat.{ℕ, zero, suc, ◌+◌, ◌*◌, ◌^◌, ◌≤◌, ◌<◌}
use native.Mathlib.Omega.{arith}
use native.Mathlib.Numerals.{add-one}
use native.Mathlib.Decide.{dec_lt}
use native.Mathlib.Nat.{add-zero, add-suc, add_assoc, pow-suc, pow-le-pow_right}
use lib.ListN.{length, get_or}
use lib.Pow.{pow-add}
use mir.Syntax.{w8}
use mir.Val.{Fits}
use Rattle.std.specs.List.{between}
use Rattle.std.proofs.lemmas.List.Edits.{get_or-between}
use borrow.Author.Tests.{lt-ltb, le-ltb}
use Rattle.line_hex.specs.Hex.{beyond, digit, Values, value_at, hex}

-- a byte is a digit, or counts as more than any word
pub digit_or : (b : ℕ) → (digit b < 16) ⊎ (digit b ≡ beyond)
unfolding digit
digit_or b = elim (dec_lt b 48) [
  | yes h ↦ rw (lt-ltb b 48 h) (inr refl)
  | no h ↦ rw (le-ltb b 48 (omega arith)) (elim (dec_lt b 58) [
    | yes k ↦ rw (lt-ltb b 58 k) (inl (omega arith))
    | no k ↦ rw (le-ltb b 58 (omega arith)) (elim (dec_lt b 97) [
      | yes l ↦ rw (lt-ltb b 97 l) (inr refl)
      | no l ↦ rw (le-ltb b 97 (omega arith)) (elim (dec_lt b 103) [
        | yes m ↦ rw (lt-ltb b 103 m) (inl (omega arith))
        | no m ↦ rw (le-ltb b 103 (omega arith)) (inr refl)
      ])
    ])
  ])
]

pub digit_most : (b : ℕ) → digit b ≤ beyond
digit_most b = ⊎_elim (λ h. omega arith) (λ h. omega arith) (digit_or b)

pub digit_below : (b : ℕ) → digit b < beyond → digit b < 16
digit_below b h = ⊎_elim (λ k. k) (λ k. absurd (omega arith)) (digit_or b)

-- 0A is no digit
pub end_beyond : digit 10 ≡ beyond
unfolding digit
end_beyond = refl

-- ---- the value of several

-- all k bytes from place i on are digits
abbrev pub Digits : List ℕ → ℕ → ℕ → Type 0
Digits l i k = (j : ℕ) → j < k → digit (get_or l (i + j) 0) < 16

pub value_below : (l : List ℕ) (i k : ℕ) → Digits l i k → value_at l i k < 2 ^ (4 * k)
unfolding value_at
value_below l i zero d = omega arith
value_below l i (suc k) d =
    let four : 4 * suc k ≡ 4 * k + 4 = omega arith in
    rw (four, pow-add 2 (4 * k) 4) (omega (arith, value_below l i k (λ j h. d j (omega arith)), d k (omega arith)))

-- a value that is a word is of digits alone
pub value_digits : (l : List ℕ) (i k : ℕ) → value_at l i k < beyond → Digits l i k
unfolding value_at
value_digits l i zero h j m = absurd (omega arith)
value_digits l i (suc k) h j m = elim (dec_lt j k) [
  | yes y ↦ value_digits l i k (omega arith) j y
  | no n ↦ let e : j ≡ k = omega arith in rw e (digit_below (get_or l (i + k) 0) (omega arith))
]

-- also where some of the bytes are no digits
pub value_most : (l : List ℕ) (i k : ℕ) → 15 * value_at l i k + beyond ≤ beyond * 16 ^ k
unfolding value_at
value_most l i zero = omega arith
value_most l i (suc k) = rw (pow-suc 16 k) (omega (arith, value_most l i k, digit_most (get_or l (i + k) 0)))

-- so 64 bits hold one digit more than seven, whatever the bytes are
pub value_room : (l : List ℕ) (i k : ℕ) → k < 8 → value_at l i k * 16 + beyond < 2 ^ 64
value_room l i k h = omega (arith, value_most l i k, pow-le-pow_right {n = 16} (omega arith) {i = k} {j = 7} (omega arith))

-- j digits, then k more
pub value_split : (l : List ℕ) (i j k : ℕ) → value_at l i (j + k) ≡ value_at l i j * 16 ^ k + value_at l (i + j) k
unfolding value_at
value_split l i j zero = rw (add-zero j) (omega arith)
value_split l i j (suc k) = rw (add-suc j k, add_assoc i j k, value_split l i j k, pow-suc 16 k) (omega arith)

-- ---- a table of values

-- v is the value of k digits from place i on: the byte behind them is looked up, and there is room for its digit
pub digit_more : {table : List ℕ} → Values table → (l : List ℕ) (i k v x : ℕ) → k < 8 → v ≡ value_at l i k → Fits w8 (get_or (between i (i + 8) l) k 0)
    → x ≡ get_or (between i (i + 8) l) k 0 → (v * 16 + get_or table x 0 < 2 ^ 64) × (v * 16 + get_or table x 0 ≡ value_at l i (k + 1))
unfolding value_at
digit_more {table} t l i k v x h e f r =
    let d : get_or table x 0 ≡ digit (get_or l (i + k) 0) = rw r (t.each _ f.fits) ∙ ap digit (get_or-between l i (i + 8) k 0 (omega arith)) in
    (omega (arith, value_room l i k h, digit_most (get_or l (i + k) 0)), rw add-one (omega arith))

-- ---- writing

pub hex_length : (k n : ℕ) → length (hex k n) ≡ k
unfolding hex
hex_length zero n = refl
hex_length (suc k) n = ap suc (hex_length k n)
