-- The highest bits of bytes, when the same number was taken from each, or given to each.
--
-- The bytes are gone through from the lowest on. Before the first one that is looked for nothing is carried to the next, and the highest bit is off;
-- there it is on; and what was carried behind it does not matter.
use Rattle.std.proofs.Common.{◌≡◌, ℕ, zero, suc, ◌+◌, ◌-◌, ◌*◌, ◌/◌, ◌%◌, ◌^◌, ◌<◌, ◌≤◌, eqb, replicate, sym, refl, ap, ◌∙◌, ap₂, mul_assoc, suc-add, pow-suc, zero-add, mul-one, arith, ltb-false, ltb-true, eq-eqb, ne_eqb, eqb-true}
use native.Mathlib.Decide.{dec_lt}
use lib.Bits.{bit_and, bit_or, and_comm, and_zero_r, and_le_l, and_le_r, or_lt, or_add_and, and_shifted, and_block, or_block}
use lib.Count.{count_trailing_zeros}
use borrow.Author.Tests.{eqb-false}
use Rattle.rules.specs.Lists.{all_pass}
use Rattle.rules.proofs.Lists.{by_cases}
use Rattle.text_next.specs.Bytes.{little, bytes_of, is_low, low_bit, is_small}
use Rattle.text_next.proofs.Bytes.{given_low, given_rest}

-- ---- the highest bit of one byte

top_off : (a : ℕ) → a < 128 → bit_and a 128 ≡ 0
top_off a h = and_comm a 128 ∙ and_shifted 1 7 a h

-- both highest bits on
tops_on : (a b : ℕ) → 128 ≤ a → a < 256 → 128 ≤ b → b < 256 → bit_and a b ≡ 128 + bit_and (a - 128) (b - 128)
tops_on a b ha la hb lb =
    let p : a ≡ 128 + (a - 128) = omega arith in
    let q : b ≡ 128 + (b - 128) = omega arith in
    ap₂ bit_and p q ∙ and_block 7 1 1 (a - 128) (b - 128) (omega arith) (omega arith)

top_on : (a : ℕ) → 128 ≤ a → a < 256 → bit_and a 128 ≡ 128
top_on a h l = tops_on a 128 h l (omega arith) (omega arith) ∙ ap (λ (n : ℕ). 128 + n) (and_zero_r (a - 128))

-- the highest bit of the lowest byte, and those of the others
tops : (q r m : ℕ) → r < 256 → bit_and (q * 256 + r) (m * 256 + 128) ≡ bit_and q m * 256 + bit_and r 128
tops q r m h = and_block 8 q m r 128 h (omega arith)

-- ---- trailing zeros

trailing_even : (k a : ℕ) → count_trailing_zeros (suc k) (a * 2) ≡ suc (count_trailing_zeros k a)
unfolding count_trailing_zeros
trailing_even k a =
    let low : a * 2 % 2 ≡ 0 = omega arith in
    let rest : a * 2 / 2 ≡ a = omega arith in
    rw (low, rest)

trailing_odd : (k a : ℕ) → count_trailing_zeros (suc k) (a * 2 + 1) ≡ 0
unfolding count_trailing_zeros
trailing_odd k a = let low : (a * 2 + 1) % 2 ≡ 1 = omega arith in rw low

trailing_up : (j k a : ℕ) → count_trailing_zeros (j + k) (a * 2 ^ j) ≡ j + count_trailing_zeros k a
trailing_up zero k a = ap₂ count_trailing_zeros (zero-add k) (mul-one a) ∙ sym (zero-add (count_trailing_zeros k a))
trailing_up (suc j) k a =
    let up : a * 2 ^ suc j ≡ a * 2 ^ j * 2 = ap (λ (p : ℕ). a * p) (pow-suc 2 j) ∙ sym (mul_assoc a (2 ^ j) 2) in
    rw (suc-add j k, up) (trailing_even (j + k) (a * 2 ^ j) ∙ ap suc (trailing_up j k a) ∙ sym (suc-add j (count_trailing_zeros k a)))

-- ---- the first low byte

-- 33 taken from a low byte borrows, and turns its highest bit on, which was off
low_top : (b : ℕ) → b < 33 → bit_and (bit_and (b + 223) (255 - b)) 128 ≡ 128
low_top b h =
    let both = tops_on (b + 223) (255 - b) (omega arith) (omega arith) (omega arith) (omega arith) in
    top_on (bit_and (b + 223) (255 - b)) (omega arith) (omega (arith, and_le_r (b + 223) (255 - b)))

-- 33 taken from any other byte does not turn it on
other_top : (b y : ℕ) → b < 256 → y + 33 ≡ b → bit_and (bit_and y (255 - b)) 128 ≡ 0
other_top b y h e = top_off (bit_and y (255 - b)) (elim (dec_lt b 128) [
  | yes l ↦ omega (arith, and_le_l y (255 - b))
  | no l ↦ omega (arith, and_le_r y (255 - b))
])

-- the lowest byte and the others
low_parts : (n x y : ℕ) → x < 256 ^ suc n → bit_and y (256 ^ suc n - 1 - x) ≡ bit_and (y / 256) (256 ^ n - 1 - x / 256) * 256 + bit_and (y % 256) (255 - x % 256)
low_parts n x y h =
    let p = pow-suc 256 n in
    let own : y ≡ y / 256 * 256 + y % 256 = omega arith in
    let other : 256 ^ suc n - 1 - x ≡ (256 ^ n - 1 - x / 256) * 256 + (255 - x % 256) = omega arith in
    ap₂ bit_and own other ∙ and_block 8 (y / 256) (256 ^ n - 1 - x / 256) (y % 256) (255 - x % 256) (omega arith) (omega arith)

-- where y is x with 33 taken from each byte
pub low_bit_found : (n x y : ℕ) → x < 256 ^ n → (y + little (replicate n 33)) % 256 ^ n ≡ x
    → count_trailing_zeros (8 * n) (bit_and (bit_and y (256 ^ n - 1 - x)) (little (replicate n 128))) ≡ low_bit (bytes_of n x)
unfolding little bytes_of low_bit count_trailing_zeros
low_bit_found zero x y h e = refl
low_bit_found (suc n) x y h e =
    let t = little (replicate n 33) in
    let m = little (replicate n 128) in
    let rest = bit_and (bit_and (y / 256) (256 ^ n - 1 - x / 256)) m in
    let low : (y + 33) % 256 ≡ x % 256 = sym (given_low y t 33 n) ∙ ap (λ (k : ℕ). k % 256) e in
    let own : bit_and (y % 256) (255 - x % 256) < 256 = omega (arith, and_le_r (y % 256) (255 - x % 256)) in
    let parts = low_parts n x y h in
    let apart = tops (bit_and (y / 256) (256 ^ n - 1 - x / 256)) (bit_and (y % 256) (255 - x % 256)) m own in
    by_cases (is_low (x % 256))
    (λ l.
    let k = ltb-true (x % 256) 33 l in
    let up : 8 * suc n ≡ 7 + suc (8 * n) = omega arith in
    let b : y % 256 ≡ x % 256 + 223 = omega arith in
    let odd : rest * 256 + 128 ≡ (rest * 2 + 1) * 2 ^ 7 = omega arith in
    rw (l, parts, apart, b, low_top (x % 256) k, up, odd, trailing_up 7 (suc (8 * n)) (rest * 2 + 1), trailing_odd (8 * n) rest))
    (λ l.
    let k = ltb-false (x % 256) 33 l in
    let up : 8 * suc n ≡ 8 + 8 * n = omega arith in
    let b : y % 256 + 33 ≡ x % 256 = omega arith in
    let even : rest * 256 + 0 ≡ rest * 2 ^ 8 = omega arith in
    let on = low_bit_found n (x / 256) (y / 256) (omega (arith, pow-suc 256 n)) (sym (given_rest y t 33 n (omega arith)) ∙ ap (λ (k : ℕ). k / 256) e) in
    rw (l, parts, apart, other_top (x % 256) (y % 256) (omega arith) b, up, even, trailing_up 8 (8 * n) rest, on) (omega arith))

-- it is the highest of a byte, or past them all
pub low_bit_most : (n x : ℕ) → low_bit (bytes_of n x) ≤ 8 * n
unfolding bytes_of low_bit
low_bit_most zero x = omega arith
low_bit_most (suc n) x = by_cases (is_low (x % 256)) (λ l. rw l (omega arith)) (λ l. rw l (omega (arith, low_bit_most n (x / 256))))

low_bit_highest : (n x : ℕ) → low_bit (bytes_of n x) < 8 * n → low_bit (bytes_of n x) % 8 ≡ 7
unfolding bytes_of low_bit
low_bit_highest zero x h = absurd (omega arith)
low_bit_highest (suc n) x h = by_cases (is_low (x % 256))
    (λ l. rw l)
    (λ l. rw l (let k = rw l at h in omega (arith, low_bit_highest n (x / 256) (omega arith))))

pub low_bit_place : (n x b : ℕ) → b ≡ low_bit (bytes_of n x) → b < 8 * n → b ≡ 8 * (b / 8) + 7
low_bit_place n x b e h = omega (arith, ap (λ (k : ℕ). k % 8) e ∙ low_bit_highest n x (rw e at h))

-- ---- bytes that are all digits

or_ge_l : (a b : ℕ) → a ≤ bit_or a b
or_ge_l a b = omega (arith, or_add_and a b, and_le_r a b)

or_ge_r : (a b : ℕ) → b ≤ bit_or a b
or_ge_r a b = omega (arith, or_add_and a b, and_le_l a b)

-- 118 given to a digit leaves its highest bit off
digit_top : (d : ℕ) → d < 10 → bit_and (bit_or (d + 118) d) 128 ≡ 0
digit_top d h = top_off (bit_or (d + 118) d) (or_lt 7 (d + 118) d (omega arith) (omega arith))

-- of any other byte it is on, before or after that
no_digit_top : (d s : ℕ) → 10 ≤ d → d < 256 → (d + 118) % 256 ≡ s → bit_and (bit_or s d) 128 ≡ 128
no_digit_top d s h l e = top_on (bit_or s d)
    (elim (dec_lt d 128) [
      | yes k ↦ omega (arith, or_ge_l s d)
      | no k ↦ omega (arith, or_ge_r s d)
    ])
    (or_lt 8 s d (omega arith) l)

digit_parts : (s e : ℕ) → bit_or s e ≡ bit_or (s / 256) (e / 256) * 256 + bit_or (s % 256) (e % 256)
digit_parts s e =
    let own : s ≡ s / 256 * 256 + s % 256 = omega arith in
    let other : e ≡ e / 256 * 256 + e % 256 = omega arith in
    ap₂ bit_or own other ∙ or_block 8 (s / 256) (e / 256) (s % 256) (e % 256) (omega arith) (omega arith)

none_below : (a : ℕ) → eqb (a * 256 + 0) 0 ≡ eqb a 0
none_below a = by_cases (eqb a 0)
    (λ t. let z = eqb-true a 0 t in rw t (eq-eqb (a * 256 + 0) 0 (omega arith)))
    (λ f. rw f (ne_eqb (a * 256 + 0) 0 (λ e. eqb-false a 0 f (omega arith))))

-- where s is e with 118 given to each byte
pub digits_found : (n e s : ℕ) → s ≡ (e + little (replicate n 118)) % 256 ^ n
    → eqb (bit_and (bit_or s e) (little (replicate n 128))) 0 ≡ all_pass is_small (bytes_of n e)
unfolding little bytes_of all_pass
digits_found zero e s h = ap (λ (k : ℕ). eqb k 0) (and_zero_r (bit_or s e))
digits_found (suc n) e s h =
    let t = little (replicate n 118) in
    let m = little (replicate n 128) in
    let rest = bit_and (bit_or (s / 256) (e / 256)) m in
    let low : s % 256 ≡ (e + 118) % 256 = ap (λ (k : ℕ). k % 256) h ∙ given_low e t 118 n in
    let parts = digit_parts s e in
    let apart = tops (bit_or (s / 256) (e / 256)) (bit_or (s % 256) (e % 256)) m (or_lt 8 (s % 256) (e % 256) (omega arith) (omega arith)) in
    by_cases (is_small (e % 256))
    (λ l.
    let k = ltb-true (e % 256) 10 l in
    let b : s % 256 ≡ e % 256 + 118 = omega arith in
    let on = digits_found n (e / 256) (s / 256) (ap (λ (k : ℕ). k / 256) h ∙ given_rest e t 118 n (omega arith)) in
    rw (l, parts, apart, b, digit_top (e % 256) k, ← on) (none_below rest))
    (λ l.
    let k = ltb-false (e % 256) 10 l in
    rw (l, parts, apart, no_digit_top (e % 256) (s % 256) k (omega arith) (omega arith)) (ne_eqb (rest * 256 + 128) 0 (λ z. omega arith)))
