-- A short word that is a number: digits, perhaps behind a minus, and a blank behind them. A minus is read as the digit 0, which changes nothing of what
-- the digits behind it say.
use Rattle.std.proofs.Common.{◌≡◌, ℕ, ◌+◌, ◌-◌, ◌*◌, ◌%◌, ◌<◌, ◌≤◌, Bool, true, false, eqb, List, ◌∷◌, ◌++◌, length, get_or, replicate, sym, refl, ap, ◌∙◌, add-one, arith, eqb-true}
use Rattle.std.specs.Prelude.{Some}
use Rattle.std.specs.Int.{from_bool}
use lib.Seq.{slice, slice-cons, slice_empty, length-slice}
use borrow.Author.Tests.{eqb-false}
use Rattle.rules.specs.Lists.{all_pass}
use Rattle.rules.proofs.Lists.{true-false, from_index, all_split}
use Rattle.text.specs.Words.{is_blank}
use Rattle.text.specs.Places.{word_at}
use Rattle.text.proofs.Slices.{slice_join}
use Rattle.text_numbers.specs.Numbers.{is_decimal, said_on}
use Rattle.text_numbers.specs.Told.{ends_word, NumeralTold}
use Rattle.text_numbers.proofs.Saying.{numeral_whole}
use Rattle.text_numbers.proofs.Signs.{minus_told, plain_told}
use Rattle.text_next.specs.Bytes.{little, bytes_of, is_small, digits_of, LastDigits}
use Rattle.text_next.specs.Next.{QuickSaid}
use Rattle.text_next.proofs.Bytes.{Bytes, bytes_cons, bytes_slice, bytes_front}
use Rattle.text_next.proofs.Digits.{all_digits, small_decimal, zeros_said}

-- x is eight bytes of a text, of which n are looked at
module _ (text : List ℕ) (at x n : ℕ) (room : at + 8 ≤ length text) (bytes : Bytes text) (q : x ≡ little (slice at (at + 8) text))
    (some_byte : 0 < n) (few : n < 8) where
  -- the bytes behind those
  abbrev behind : List ℕ
  behind = slice (at + n) (at + 8) text

  parts : x ≡ little (slice at (at + n) text ++ behind)
  parts = q ∙ ap little (sym (slice_join at (at + n) (at + 8) text (omega arith) (omega arith) room))

  first_of : slice at (at + n) text ≡ get_or text at 0 ∷ slice (at + 1) (at + n) text
  first_of = rw (add-one at) (slice-cons at (at + n) text 0 (omega arith) (omega arith))

  by_first : x ≡ little (slice (at + 1) (at + n) text ++ behind) * 256 + get_or text at 0
  unfolding little
  by_first = parts ∙ ap (λ (l : List ℕ). little (l ++ behind)) first_of

  first_byte : x % 256 ≡ get_or text at 0
  first_byte = omega (arith, by_first, bytes at)

  -- ---- the bytes that are looked at, where a minus is read as the digit 0

  module _ (sign : ℕ) where
    plain_front : sign ≡ 0 → bytes_of n (x + 3 * sign) ≡ slice at (at + n) text
    plain_front z =
        let own = slice at (at + n) text in
        let len : length own ≡ n = omega (arith, length-slice at (at + n) text (omega arith)) in
        let same : x + 3 * sign ≡ little (own ++ behind) = omega (arith, parts) in
        rw same (rw len at (bytes_front own behind (bytes_slice at (at + n) text bytes)))

    minus_front : sign ≡ 1 → x % 256 ≡ 45 → bytes_of n (x + 3 * sign) ≡ 48 ∷ slice (at + 1) (at + n) text
    unfolding little
    minus_front o e =
        let own = slice (at + 1) (at + n) text in
        let len : length (48 ∷ own) ≡ n = omega (arith, length-slice (at + 1) (at + n) text (omega arith)) in
        let more : x + 3 * sign ≡ little ((48 ∷ own) ++ behind) = omega (arith, by_first, first_byte) in
        rw more (rw len at (bytes_front (48 ∷ own) behind (bytes_cons 48 own (omega arith) (bytes_slice (at + 1) (at + n) text bytes))))

  -- ---- digits, and a blank behind them

  -- the bytes of e are digits, and v is what they say
  module _ (bits e v : ℕ) (place : bits ≡ 8 * n + 7) (a : all_pass is_small (bytes_of 8 e) ≡ true)
      (said : (v ≡ said_on 0 (digits_of 8 e)) × (v < 100000000)) where
    -- the last of them are those of the text from place s on, behind i zeros
    module _ (i s : ℕ) (low : s ≤ at + n) (d : digits_of 8 e ≡ replicate (8 - n) 48 ++ (replicate i 48 ++ slice s (at + n) text)) where
      own_value : v ≡ said_on 0 (slice s (at + n) text)
      own_value = said.0 ∙ ap (said_on 0) d ∙ zeros_said (8 - n) (replicate i 48 ++ slice s (at + n) text) ∙ zeros_said i (slice s (at + n) text)

      own_digits : all_pass is_decimal (slice s (at + n) text) ≡ true
      own_digits =
          let own = slice s (at + n) text in
          let all = ap (all_pass is_decimal) (sym d) ∙ small_decimal (bytes_of 8 e) a in
          (all_split is_decimal (replicate i 48) own (all_split is_decimal (replicate (8 - n) 48) (replicate i 48 ++ own) all).1).1

      short_numeral : is_blank (get_or text (at + n) 0) ≡ true → (at + n ≡ s → ⊥) → NumeralTold (word_at s text) s (Some (record { value = v; end = at + n }))
      short_numeral b =
          numeral_whole text s v (at + n) (record { low = low; high = omega arith; all = own_digits; value = omega (arith, own_value, said.1) })
          (ap ends_word (from_index text (at + n) 0 (omega arith)) ∙ b)

    -- no digit says 0, so a lone minus is no number either
    lone_minus : v ≡ said_on 0 (slice (at + 1) (at + n) text) → 0 < v → at + n ≡ at + 1 → ⊥
    unfolding said_on
    lone_minus w h z = omega (arith, w ∙ ap (λ (j : ℕ). said_on 0 (slice (at + 1) j text)) z ∙ ap (said_on 0) (slice_empty (at + 1) text))

    pub quick_told : (minus : Bool) (sign : ℕ) → eqb (x % 256) 45 ≡ minus → sign ≡ from_bool minus → LastDigits (x + 3 * sign) bits e
        → is_blank (get_or text (at + n) 0) ≡ true → sign ≤ v → QuickSaid (word_at at text) at (record { minus = minus; value = v; end = at + n })
    quick_told true sign m o l b k =
        let minus = eqb-true (x % 256) 45 m in
        let d = all_digits (x + 3 * sign) bits e n some_byte few place l a (minus_front sign o minus) in
        let numeral = short_numeral 1 (at + 1) (omega arith) d b (lone_minus (own_value 1 (at + 1) (omega arith) d) (omega arith)) in
        record {
          number = minus_told text at (omega arith) (sym first_byte ∙ minus) numeral (λ z. omega arith);
          small = said.1;
          signed = λ t. omega arith;
        }
    quick_told false sign m o l b k =
        let d = all_digits (x + 3 * sign) bits e n some_byte few place l a (plain_front sign o) in
        record {
          number = plain_told text at (omega arith) (λ z. eqb-false (x % 256) 45 m (first_byte ∙ z)) (short_numeral 0 at (omega arith) d b (λ z. omega arith));
          small = said.1;
          signed = λ t. true-false t refl;
        }
