-- The bits of a word, from the lowest up.
use mathlib.Core.Path.{◌≡◌, refl, sym, ap, ◌∙◌}
use mathlib.Core.Bool.{Bool, true, false, cond, xor}
use mathlib.Core.Logic.{◌⊎◌, inl, inr}
use Prim.Native.Nat.{ℕ, zero, suc, ◌+◌, ◌/◌, ◌%◌, ◌^◌, ◌≤◌, ◌<◌}
use native.Mathlib.Nat.{mod-lt, pow-suc}
use native.Mathlib.Omega.{arith}
use lib.Dec.{eqb, eqb-suc-suc, eqb-zero-suc, eqb-suc-zero}
use lib.Pow.{shr-shr}
use lib.Bits.{bit_xor, differ, xor_step}
use lib.Count.{ones, ones_step, ones-le}
use borrow.Author.Tests.{eqb-true, eqb-false}
use Rattle.lit_sets.specs.Words.{bit, ones_below}

bit_zero : (w : ℕ) → bit w 0 ≡ eqb (w % 2) 1
unfolding bit
bit_zero w = let e : w / 2 ^ 0 ≡ w = omega arith in rw e

bit_suc : (w k : ℕ) → bit w (suc k) ≡ bit (w / 2) k
unfolding bit
bit_suc w k = ap (λ (n : ℕ). eqb (n % 2) 1) (ap (λ (j : ℕ). w / 2 ^ j) (omega arith) ∙ sym (shr-shr w 1 k))

-- an even and an odd number by their last digit
two_digits : (n : ℕ) → (n % 2 ≡ 0) ⊎ (n % 2 ≡ 1)
two_digits n = by_digit (n % 2) (mod-lt n (omega arith))
  where
    by_digit : (r : ℕ) → r < 2 → (r ≡ 0) ⊎ (r ≡ 1)
    by_digit zero h = inl refl
    by_digit (suc zero) h = inr refl
    by_digit (suc (suc r)) h = absurd (omega arith)

-- a digit of the difference is 1 where the two differ
differ_digit : (x y : ℕ) → (x ≡ 0) ⊎ (x ≡ 1) → (y ≡ 0) ⊎ (y ≡ 1) → (eqb (differ x y) 1 ≡ xor (eqb x 1) (eqb y 1)) × (differ x y < 2)
unfolding xor
differ_digit x y (inl p) (inl q) = rw (p, q) (refl, omega arith)
differ_digit x y (inl p) (inr q) = rw (p, q) (refl, omega arith)
differ_digit x y (inr p) (inl q) = rw (p, q) (refl, omega arith)
differ_digit x y (inr p) (inr q) = rw (p, q) (refl, omega arith)

pub xor_bit : (a b k : ℕ) → bit (bit_xor a b) k ≡ xor (bit a k) (bit b k)
xor_bit a b zero =
    let d = differ_digit (a % 2) (b % 2) (two_digits a) (two_digits b) in
    let e : bit_xor a b % 2 ≡ differ (a % 2) (b % 2) = omega (arith, xor_step a b, d.1) in
    rw (bit_zero (bit_xor a b), bit_zero a, bit_zero b, e) d.0
xor_bit a b (suc k) =
    let d = differ_digit (a % 2) (b % 2) (two_digits a) (two_digits b) in
    let e : bit_xor a b / 2 ≡ bit_xor (a / 2) (b / 2) = omega (arith, xor_step a b, d.1) in
    rw (bit_suc (bit_xor a b) k, bit_suc a k, bit_suc b k, e) (xor_bit (a / 2) (b / 2) k)

pub bit_none : (k : ℕ) → bit 0 k ≡ false
bit_none zero = bit_zero 0
bit_none (suc k) = bit_suc 0 k ∙ bit_none k

pub bit_power : (j k : ℕ) → bit (2 ^ j) k ≡ eqb j k
bit_power zero zero = bit_zero 1
bit_power zero (suc k) = bit_suc 1 k ∙ bit_none k ∙ sym (eqb-zero-suc k)
bit_power (suc j) zero = let e : 2 ^ suc j % 2 ≡ 0 = omega (arith, pow-suc 2 j) in bit_zero (2 ^ suc j) ∙ rw e (sym (eqb-suc-zero j))
bit_power (suc j) (suc k) = let e : 2 ^ suc j / 2 ≡ 2 ^ j = omega (arith, pow-suc 2 j) in bit_suc (2 ^ suc j) k ∙ rw e (bit_power j k ∙ sym (eqb-suc-suc j k))

-- a word is fixed by its bits
pub bits_fixed : (k a b : ℕ) → a < 2 ^ k → b < 2 ^ k → ((i : ℕ) → i < k → bit a i ≡ bit b i) → a ≡ b
bits_fixed zero a b ha hb e = omega arith
bits_fixed (suc k) a b ha hb e =
    let half = bits_fixed k (a / 2) (b / 2) (omega (arith, pow-suc 2 k)) (omega (arith, pow-suc 2 k))
    (λ i h. sym (bit_suc a i) ∙ e (suc i) (omega arith) ∙ bit_suc b i) in
    let low = sym (bit_zero a) ∙ e 0 (omega arith) ∙ bit_zero b in
    omega (arith, half, same_digit (a % 2) (b % 2) (two_digits a) (two_digits b) low)
  where
    same_digit : (x y : ℕ) → (x ≡ 0) ⊎ (x ≡ 1) → (y ≡ 0) ⊎ (y ≡ 1) → eqb x 1 ≡ eqb y 1 → x ≡ y
    same_digit x y (inl p) (inl q) e = p ∙ sym q
    same_digit x y (inl p) (inr q) e = absurd (eqb-false x 1 (rw p) (eqb-true x 1 (e ∙ rw q)))
    same_digit x y (inr p) (inl q) e = absurd (eqb-false y 1 (rw q) (eqb-true y 1 (sym e ∙ rw p)))
    same_digit x y (inr p) (inr q) e = p ∙ sym q

-- ---- how many bits are set

-- the lowest counted first
ones_below_low : (w k : ℕ) → ones_below w (suc k) ≡ w % 2 + ones_below (w / 2) k
unfolding ones_below
ones_below_low w zero = rw (bit_zero w) (by_digit (w % 2) (two_digits w))
  where
    by_digit : (x : ℕ) → (x ≡ 0) ⊎ (x ≡ 1) → cond (eqb x 1) 1 0 + 0 ≡ x + 0
    by_digit x (inl p) = rw p
    by_digit x (inr p) = rw p
ones_below_low w (suc k) = let e = bit_suc w k in rw e (omega (arith, ones_below_low w k))

pub ones_counted : (k w : ℕ) → w < 2 ^ k → ones w ≡ ones_below w k
unfolding ones_below
ones_counted zero w h = omega (arith, ones-le 0 w h)
ones_counted (suc k) w h = ones_step w ∙ ap (λ (n : ℕ). w % 2 + n) (ones_counted k (w / 2) (omega (arith, pow-suc 2 k))) ∙ sym (ones_below_low w k)

pub one_at_most : (b : Bool) → cond b 1 0 ≤ 1
one_at_most true = omega arith
one_at_most false = omega arith

pub ones_below_le : (w k : ℕ) → ones_below w k ≤ k
unfolding ones_below
ones_below_le w zero = omega arith
ones_below_le w (suc k) = omega (arith, one_at_most (bit w k), ones_below_le w k)
