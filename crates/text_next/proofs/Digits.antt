-- Bytes that are digits: as the last of eight, and what they say.
use Rattle.std.proofs.Common.{◌≡◌, ℕ, zero, suc, ◌+◌, ◌-◌, ◌*◌, ◌/◌, ◌%◌, ◌^◌, ◌<◌, true, List, [], ◌∷◌, ◌++◌, map, length, get_or, replicate, sym, refl, ap, ◌∙◌, ap₂, add-zero, add_assoc, mod-lt, mod-eq_of_lt, add_comm, pow-suc, mul-div_cancel, add-sub_cancel, arith, length-append, pow-add, ltb-true, lt-ltb, le-leb}
use native.Mathlib.Nat.{mod-add-mod, mul-mod_left}
use lib.Arith.{digits_lt, digits_mod, mod-mul}
use lib.ListN.{length-replicate, replicate-append-replicate}
use Rattle.rules.specs.Lists.{all_pass}
use Rattle.rules.proofs.Lists.{all_head, all_tail}
use Rattle.text_numbers.specs.Numbers.{is_decimal, said_on}
use Rattle.text_next.specs.Bytes.{little, bytes_of, is_small, digits_of, LastDigits}
use Rattle.text_next.proofs.Bytes.{Bytes, power_pos, given_low, given_rest, little_bytes, little_append, bytes_own, bytes_behind, bytes_length}

-- ---- as the last of eight

-- of n + k bytes, where all are moved up by k, the first n are left
moved : (a n k : ℕ) → a * 256 ^ k % 256 ^ (n + k) ≡ a % 256 ^ n * 256 ^ k
moved a n k =
    ap (λ (m : ℕ). a * 256 ^ k % m) (pow-add 256 n k) ∙ mod-mul (a * 256 ^ k) (power_pos n) (power_pos k)
    ∙ ap₂ (λ (q r : ℕ). q % 256 ^ n * 256 ^ k + r) (mul-div_cancel a (power_pos k)) (mul-mod_left a (256 ^ k)) ∙ add-zero (a % 256 ^ n * 256 ^ k)

-- the same byte c, some number of times
module _ (c : ℕ) (h : c < 256) where
  same_below : (n : ℕ) → little (replicate n c) < 256 ^ n
  unfolding little
  same_below zero = omega arith
  same_below (suc n) = rw (pow-suc 256 n) (digits_lt (same_below n) h)

  same_more : (k n : ℕ) → little (replicate (k + n) c) ≡ little (replicate n c) * 256 ^ k + little (replicate k c)
  same_more k n =
      ap little (sym (replicate-append-replicate k n c)) ∙ little_append (replicate k c) (replicate n c)
      ∙ ap (λ (m : ℕ). little (replicate n c) * 256 ^ m + little (replicate k c)) (length-replicate k c)

  same_low : (k n : ℕ) → little (replicate (k + n) c) % 256 ^ n ≡ little (replicate n c)
  same_low k n =
      ap (λ (j : ℕ). little (replicate j c) % 256 ^ n) (add_comm k n) ∙ ap (λ (a : ℕ). a % 256 ^ n) (same_more n k)
      ∙ digits_mod (little (replicate k c)) (same_below n)

  -- c taken from each byte of x, both moved up by k bytes: with c given to all bytes, the first n of x are behind k bytes c
  last_of : (k n x r : ℕ) → (r + little (replicate (k + n) c) * 256 ^ k % 256 ^ (n + k)) % 256 ^ (n + k) ≡ x * 256 ^ k % 256 ^ (n + k)
      → (r + little (replicate (k + n) c)) % 256 ^ (n + k) ≡ little (replicate k c ++ bytes_of n x)
  last_of k n x r e =
      let m = 256 ^ (n + k) in
      let low = little (replicate k c) in
      let high = little (replicate n c) * 256 ^ k in
      let own : little (replicate (k + n) c) * 256 ^ k % m ≡ high = moved (little (replicate (k + n) c)) n k ∙ ap (λ (a : ℕ). a * 256 ^ k) (same_low k n) in
      let up : (r + high) % m ≡ x % 256 ^ n * 256 ^ k = ap (λ (a : ℕ). (r + a) % m) (sym own) ∙ e ∙ moved x n k in
      let fits : x % 256 ^ n * 256 ^ k + low < m = rw (pow-add 256 n k) (digits_lt (mod-lt x (power_pos n)) (same_below k)) in
      ap (λ (a : ℕ). (r + a) % m) (same_more k n) ∙ ap (λ (a : ℕ). a % m) (sym (add_assoc r high low)) ∙ sym (mod-add-mod (r + high) m low)
      ∙ ap (λ (a : ℕ). (a + low) % m) up ∙ mod-eq_of_lt fits
      ∙ sym (little_append (replicate k c) (bytes_of n x) ∙ ap₂ (λ (a b : ℕ). a * 256 ^ b + low) (little_bytes n x) (length-replicate k c))

-- a byte has eight bits
power_bits : (k : ℕ) → 2 ^ (8 * k) ≡ 256 ^ k
power_bits zero = refl
power_bits (suc k) = let up : 8 * suc k ≡ 8 * k + 8 = omega arith in rw (up, pow-add 2 (8 * k) 8, power_bits k, pow-suc 256 k)

pub last_digits_are : (x bits r : ℕ)
    → (r + 0x3030303030303030 * 2 ^ ((71 - bits) % 64) % 2 ^ 64) % 2 ^ 64 ≡ x * 2 ^ ((71 - bits) % 64) % 2 ^ 64 → LastDigits x bits r
unfolding little
last_digits_are x bits r e n h l q =
    let shift : (71 - bits) % 64 ≡ 8 * (8 - n) = omega arith in
    let all : 8 - n + n ≡ 8 = omega arith in
    let all' : n + (8 - n) ≡ 8 = omega arith in
    rw (all, all') at (last_of 48 (omega arith) (8 - n) n x r (rw (all, all') (rw (shift, power_bits (8 - n)) at e)))

-- ---- the digits that they are

-- 48 given to small bytes is carried nowhere
digits_are : (ts : List ℕ) (e : ℕ) → Bytes ts → all_pass is_small (bytes_of (length ts) e) ≡ true
    → (e + little (replicate (length ts) 48)) % 256 ^ length ts ≡ little ts → digits_of (length ts) e ≡ ts
unfolding little bytes_of
digits_are [] e h a q = refl
digits_are (t ∷ ts) e h a q =
    let n = length ts in
    let u = little (replicate n 48) in
    let byte = h 0 in
    let low = ltb-true (e % 256) 10 (all_head is_small (e % 256) (bytes_of n (e / 256)) a) in
    let same : (e + 48) % 256 ≡ (little ts * 256 + t) % 256 = sym (given_low e u 48 n) ∙ ap (λ (k : ℕ). k % 256) q in
    let first : e % 256 + 48 ≡ t = omega arith in
    let behind : (little ts * 256 + t) / 256 ≡ little ts = omega arith in
    let rest : (e / 256 + u) % 256 ^ n ≡ little ts = sym (given_rest e u 48 n (omega arith)) ∙ ap (λ (k : ℕ). k / 256) q ∙ behind in
    rw first (ap (λ (l : List ℕ). t ∷ l) (digits_are ts (e / 256) (λ i. h (suc i)) (all_tail is_small (e % 256) (bytes_of n (e / 256)) a) rest))

-- the bytes of e, which are all small, are digits behind zeros
pub all_digits : (x bits e n : ℕ) → 0 < n → n < 8 → bits ≡ 8 * n + 7 → LastDigits x bits e → all_pass is_small (bytes_of 8 e) ≡ true
    → {ds : List ℕ} → bytes_of n x ≡ ds → digits_of 8 e ≡ replicate (8 - n) 48 ++ ds
all_digits x bits e n h l q d a same =
    let ts = replicate (8 - n) 48 ++ bytes_of n x in
    let len : length ts ≡ 8 = simp (length-append, length-replicate, bytes_length) (omega arith) in
    let bytes = bytes_behind (8 - n) 48 (bytes_of n x) (omega arith) (bytes_own n x) in
    rw same at (rw len at (digits_are ts e bytes (rw len a) (rw len (d n h l q))))

-- ---- what they say

pub zeros_said : (k : ℕ) (xs : List ℕ) → said_on 0 (replicate k 48 ++ xs) ≡ said_on 0 xs
unfolding said_on
zeros_said zero xs = refl
zeros_said (suc k) xs = zeros_said k xs

pub small_decimal : (ds : List ℕ) → all_pass is_small ds ≡ true → all_pass is_decimal (map (λ d. d + 48) ds) ≡ true
unfolding all_pass
small_decimal [] h = refl
small_decimal (d ∷ ds) h =
    let k = ltb-true d 10 (all_head is_small d ds h) in
    let low = le-leb 48 (d + 48) (omega arith) in
    let high = lt-ltb (d + 48) 58 (omega arith) in
    rw (low, high) (small_decimal ds (all_tail is_small d ds h))

-- p has a byte and the next as one number, and those behind these two likewise
pair : (e p : ℕ) → p ≡ e * 10 + e / 256 → e % 256 < 10 → e / 256 % 256 < 10 → e / 256 / 256 % 256 < 10
    → (p % 256 ≡ e % 256 * 10 + e / 256 % 256) × (p / 65536 ≡ e / 256 / 256 * 10 + e / 256 / 256 / 256)
pair e p q h k l = (omega arith, omega arith)

smalls : (ds : List ℕ) (i : ℕ) → all_pass is_small ds ≡ true → get_or ds i 0 < 10
smalls [] i a = omega arith
smalls (d ∷ ds) zero a = ltb-true d 10 (all_head is_small d ds a)
smalls (d ∷ ds) (suc i) a = smalls ds i (all_tail is_small d ds a)

module _ (e : ℕ) (h : e < 2 ^ 64) (a : all_pass is_small (bytes_of 8 e) ≡ true) where
  small : (i : ℕ) → get_or (bytes_of 8 e) i 0 < 10
  small i = smalls (bytes_of 8 e) i a

  pub pairs_fit : e * 10 + e / 256 < 2 ^ 64
  unfolding bytes_of
  pairs_fit = omega (arith, small 7)

  pub said_eight : (p : ℕ) → p ≡ e * 10 + e / 256
      → let v = ((p % 256 * 100 + p / 65536 % 256) * 100 + p / 4294967296 % 256) * 100 + p / 281474976710656 % 256 in
      (v ≡ said_on 0 (digits_of 8 e)) × (v < 100000000)
  unfolding bytes_of said_on
  said_eight p q =
      let e2 = e / 256 / 256 in
      let e4 = e2 / 256 / 256 in
      let p0 = pair e p q (small 0) (small 1) (small 2) in
      let p2 = pair e2 (p / 65536) p0.1 (small 2) (small 3) (small 4) in
      let p4 = pair e4 (p / 65536 / 65536) p2.1 (small 4) (small 5) (small 6) in
      let p6 = pair (e4 / 256 / 256) (p / 65536 / 65536 / 65536) p4.1 (small 6) (small 7) (omega arith) in
      let q4 : p / 4294967296 ≡ p / 65536 / 65536 = omega arith in
      let q6 : p / 281474976710656 ≡ p / 65536 / 65536 / 65536 = omega arith in
      rw (q4, q6, p0.0, p2.0, p4.0, p6.0)
      (simp add-sub_cancel (omega (arith, small 0, small 1, small 2, small 3, small 4, small 5, small 6, small 7)))
