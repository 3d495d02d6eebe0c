-- Bytes as one number, for any number of bytes: taken apart, put together, added to, and read from a text.
use Rattle.std.proofs.Common.{◌≡◌, ℕ, zero, suc, ◌+◌, ◌*◌, ◌/◌, ◌%◌, ◌^◌, ◌<◌, ◌≤◌, List, [], ◌∷◌, ◌++◌, length, get_or, take, replicate, refl, ap, ◌∙◌, add-zero, pow-suc, arith, get_or-drop}
use native.Mathlib.Nat.{one-le-pow}
use lib.Arith.{mod-mul}
use lib.Seq.{slice, slice_empty, slice-cons}
use Rattle.std.specs.Int.{w64, from_le_bytes}
use Rattle.text_next.specs.Bytes.{little, bytes_of}

-- every element is a byte; past the end there is 0
abbrev pub Bytes : List ℕ → Type 0
Bytes bs = (i : ℕ) → get_or bs i 0 < 256

pub power_pos : (n : ℕ) → 0 < 256 ^ n
power_pos n = one-le-pow n 256 (omega arith)

-- the lowest byte and the others
mod_byte : (x n : ℕ) → x % 256 ^ suc n ≡ x / 256 % 256 ^ n * 256 + x % 256
mod_byte x n = ap (λ (m : ℕ). x % m) (pow-suc 256 n) ∙ mod-mul x (power_pos n) (omega arith)

-- ---- taken apart and put together

pub bytes_cons : (b : ℕ) (bs : List ℕ) → b < 256 → Bytes bs → Bytes (b ∷ bs)
bytes_cons b bs h k zero = h
bytes_cons b bs h k (suc i) = k i

pub bytes_own : (n x : ℕ) → Bytes (bytes_of n x)
unfolding bytes_of
bytes_own zero x = λ i. omega arith
bytes_own (suc n) x = bytes_cons (x % 256) (bytes_of n (x / 256)) (omega arith) (bytes_own n (x / 256))

-- behind k bytes c
pub bytes_behind : (k c : ℕ) (bs : List ℕ) → c < 256 → Bytes bs → Bytes (replicate k c ++ bs)
bytes_behind zero c bs h b = b
bytes_behind (suc k) c bs h b = bytes_cons c (replicate k c ++ bs) h (bytes_behind k c bs h b)

pub bytes_length : (n x : ℕ) → length (bytes_of n x) ≡ n
unfolding bytes_of
bytes_length zero x = refl
bytes_length (suc n) x = ap suc (bytes_length n (x / 256))

-- the first bytes of a number
pub bytes_front : (bs cs : List ℕ) → Bytes bs → bytes_of (length bs) (little (bs ++ cs)) ≡ bs
unfolding little bytes_of
bytes_front [] cs h = refl
bytes_front (b ∷ bs) cs h =
    let byte = h 0 in
    let low : (little (bs ++ cs) * 256 + b) % 256 ≡ b = omega arith in
    let rest : (little (bs ++ cs) * 256 + b) / 256 ≡ little (bs ++ cs) = omega arith in
    rw (low, rest) (ap (λ (l : List ℕ). b ∷ l) (bytes_front bs cs (λ i. h (suc i))))

pub little_bytes : (n x : ℕ) → little (bytes_of n x) ≡ x % 256 ^ n
unfolding little bytes_of
little_bytes zero x = omega arith
little_bytes (suc n) x = rw (mod_byte x n, little_bytes n (x / 256))

pub little_append : (xs ys : List ℕ) → little (xs ++ ys) ≡ little ys * 256 ^ length xs + little xs
unfolding little
little_append [] ys = omega arith
little_append (x ∷ xs) ys = rw (little_append xs ys, pow-suc 256 (length xs)) (omega arith)

-- ---- the same byte given to each

-- c given to the lowest byte, and t to the others
pub given_low : (x t c n : ℕ) → (x + (t * 256 + c)) % 256 ^ suc n % 256 ≡ (x + c) % 256
given_low x t c n = rw (mod_byte (x + (t * 256 + c)) n) (omega arith)

-- nothing is carried to the others
pub given_rest : (x t c n : ℕ) → x % 256 + c < 256 → (x + (t * 256 + c)) % 256 ^ suc n / 256 ≡ (x / 256 + t) % 256 ^ n
given_rest x t c n h =
    let rest : (x + (t * 256 + c)) / 256 ≡ x / 256 + t = omega arith in
    rw (mod_byte (x + (t * 256 + c)) n, rest) (omega arith)

-- ---- read from a text

bytes_take : (n : ℕ) (l : List ℕ) → Bytes l → Bytes (take n l)
bytes_take zero l h i = omega arith
bytes_take (suc n) [] h i = omega arith
bytes_take (suc n) (b ∷ l) h zero = h 0
bytes_take (suc n) (b ∷ l) h (suc i) = bytes_take n l (λ j. h (suc j)) i

pub bytes_slice : (from to : ℕ) (l : List ℕ) → Bytes l → Bytes (slice from to l)
bytes_slice from to l h i = rw (get_or-drop from (take to l) i 0) (bytes_take to l h (from + i))

-- k bytes from the place at + j on, one by one
abbrev listed : List ℕ → ℕ → ℕ → ℕ → List ℕ
listed text at j zero = []
listed text at j (suc k) = get_or text (at + j) 0 ∷ listed text at (suc j) k

slice_listed : (text : List ℕ) (at j k : ℕ) → at + j + k ≤ length text → slice (at + j) (at + j + k) text ≡ listed text at j k
slice_listed text at j zero h = rw (add-zero (at + j)) (slice_empty (at + j) text)
slice_listed text at j (suc k) h =
    let next : suc (at + j) ≡ at + suc j = omega arith in
    let end : at + j + suc k ≡ at + suc j + k = omega arith in
    slice-cons (at + j) (at + j + suc k) text 0 (omega arith) h
    ∙ rw (next, end) (ap (λ (l : List ℕ). get_or text (at + j) 0 ∷ l) (slice_listed text at (suc j) k (omega arith)))

pub eight_read : (text : List ℕ) (at x : ℕ) → at + 8 ≤ length text
    → x ≡ from_le_bytes w64 (get_or text at 0 ∷ get_or text (at + 1) 0 ∷ get_or text (at + 2) 0 ∷ get_or text (at + 3) 0
    ∷ get_or text (at + 4) 0 ∷ get_or text (at + 5) 0 ∷ get_or text (at + 6) 0 ∷ get_or text (at + 7) 0 ∷ [])
    → x ≡ little (slice at (at + 8) text)
unfolding little
eight_read text at x room e =
    let same = rw (add-zero at) at (slice_listed text at 0 8 (omega arith)) in
    rw same (omega (arith, e))
