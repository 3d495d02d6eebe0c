-- The digits written read back: each is a digit of its own value, and together they are the number.
use mathlib.Core.Path.{◌≡◌, sym, ap, ap₂, ◌∙◌}
use mathlib.Core.List.{List, [], ◌∷◌, ◌++◌, append_assoc}
use Prim.Native.Nat.{ℕ, zero, suc, ◌+◌, ◌*◌, ◌/◌, ◌%◌, ◌^◌, ◌<◌}
use native.Mathlib.Omega.{arith}
use native.Mathlib.Decide.{dec_lt}
use native.Mathlib.Nat.{zero-add, add-zero, pow-succ', one-le-pow}
use lib.Arith.{mod-mul}
use lib.ListN.{length, get_or, length-append}
use lib.Seq.{get_or-append_seam}
use borrow.Author.Tests.{lt-ltb, le-ltb}
use Rattle.line_hex.specs.Hex.{digit, value_at, glyph, hex}
use Rattle.line_hex.proofs.Digits.{value_split}

pub glyph_digit : (d : ℕ) → d < 16 → digit (glyph d) ≡ d
unfolding digit glyph
glyph_digit d h = elim (dec_lt d 10) [
  | yes k ↦ rw (lt-ltb d 10 k, le-ltb (d + 48) 48 (omega arith), lt-ltb (d + 48) 58 (omega arith)) (omega arith)
  | no k ↦ rw (
    le-ltb d 10 (omega arith),
    le-ltb (d + 87) 48 (omega arith),
    le-ltb (d + 87) 58 (omega arith),
    le-ltb (d + 87) 97 (omega arith),
    lt-ltb (d + 87) 103 (omega arith),
  ) (omega arith)
]

-- wherever they stand
pub hex_value : (k n : ℕ) (xs ys : List ℕ) → value_at (xs ++ (hex k n ++ ys)) (length xs) k ≡ n % 16 ^ k
unfolding hex value_at
hex_value zero n xs ys = omega arith
hex_value (suc k) n xs ys =
    let d = n / 16 ^ k % 16 in
    let rest = hex k n ++ ys in
    let l = xs ++ (glyph d ∷ rest) in
    let one : 1 + k ≡ suc k = omega arith in
    let next : length (xs ++ (glyph d ∷ [])) ≡ length xs + 1 = length-append xs (glyph d ∷ []) in
    let first : value_at l (length xs) 1 ≡ d =
    zero-add (digit (get_or l (length xs + 0) 0)) ∙ ap (λ i. digit (get_or l i 0)) (add-zero (length xs)) ∙ ap digit (get_or-append_seam xs (glyph d) rest 0)
    ∙ glyph_digit d (omega arith) in
    let others : value_at l (length xs + 1) k ≡ n % 16 ^ k =
    ap₂ (λ m i. value_at m i k) (sym (append_assoc xs (glyph d ∷ []) rest)) (sym next) ∙ hex_value k n (xs ++ (glyph d ∷ [])) ys in
    ap (value_at l (length xs)) (sym one)
    ∙ value_split l (length xs) 1 k
    ∙ ap₂ (λ a b. a * 16 ^ k + b) first others
    ∙ sym (mod-mul n {m = 16} {c = 16 ^ k} (omega arith) (one-le-pow k 16 (omega arith)))
    ∙ ap (λ m. n % m) (sym (pow-succ' 16 k))

-- eight digits of a word
pub word_value : (n : ℕ) (xs ys : List ℕ) → n < 4294967296 → value_at (xs ++ (hex 8 n ++ ys)) (length xs) 8 ≡ n
word_value n xs ys h = hex_value 8 n xs ys ∙ omega arith
