-- The next word: found behind any gap, or behind one blank.
use Rattle.std.proofs.Common.{◌≡◌, ℕ, ◌+◌, ◌<◌, ◌≤◌, true, false, eqb, List, ◌∷◌, length, get_or, drop, ℤ, sym, ap, ◌∙◌, arith, drop_of_length-le, eqb-true}
use mathlib.Core.Option.{some, none-ne-some}
use Rattle.std.specs.Prelude.{Option, Some, None, is_some}
use borrow.Author.Tests.{eqb-false}
use Rattle.rules.specs.Lists.{all_pass}
use Rattle.rules.proofs.Lists.{by_cases, from_index}
use Rattle.text.specs.Words.{is_blank, words_from}
use Rattle.text.specs.Places.{word_bytes, word_at, Seeks}
use Rattle.text.specs.declared.Sought.{Sought}
use Rattle.text.proofs.Words.{words_end, words_blank, words_line, words_opened, words_word}
use Rattle.text_numbers.specs.Numbers.{natural_of, integer_of}
use Rattle.text_numbers.specs.Told.{IntegerTold}
use Rattle.text_numbers.specs.declared.Integer.{Integer}
use Rattle.text_next.specs.Next.{QuickTold, NextTold}

-- the first byte of a number is no blank and no c
number_byte : (b : ℕ) (bs : List ℕ) {z : ℤ} → integer_of (word_bytes (b ∷ bs)) ≡ some z → (is_blank b ≡ false) × (b ≡ 99 → ⊥)
unfolding word_bytes integer_of natural_of all_pass
number_byte b bs {z} e = (
  by_cases (is_blank b) (λ t. absurd (none-ne-some z (rw t at e))) (λ f. f),
  λ q. none-ne-some z (rw q at e),
)

module _ (text : List ℕ) (from : ℕ) where
  -- no word is left
  pub next_last : {w : Sought} → Seeks text false from w → w.at ≡ length text → NextTold text from (record { at = w.at; first = w.first; read = None })
  unfolding word_bytes integer_of
  next_last {w} s e =
      let past : length text ≤ w.at = omega arith in
      record {
        low = s.low;
        high = s.high;
        last = λ h. s.same ∙ words_end text w.first w.at past;
        next = λ h. absurd (omega arith);
        told = rw (drop_of_length-le text past);
      }

  pub next_some : {w : Sought} {r : Option Integer} → Seeks text false from w → (w.at ≡ length text → ⊥) → IntegerTold (word_at w.at text) w.at r
      → NextTold text from (record { at = w.at; first = w.first; read = r })
  next_some {w} s e t =
      let here : w.at < length text = omega (arith, s.high) in
      record {
        low = s.low;
        high = s.high;
        last = λ h. absurd (omega arith);
        next = λ h. s.same ∙ words_word text w.first w.at here (s.stops here);
        told = t;
      }

  -- behind one blank, a word of which a number is told
  module _ (h : from + 1 < length text) (b : is_blank (get_or text from 0) ≡ true) where
    -- if it is no comment
    gap_passed : (get_or text (from + 1) 0 ≡ 99 → ⊥) → words_from false from text ≡ words_from (eqb (get_or text from 0) 10) (from + 1) text
    gap_passed g =
        let here : from < length text = omega arith in
        by_cases (eqb (get_or text from 0) 10)
        (λ t. rw t (words_line text false from here (eqb-true (get_or text from 0) 10 t) ∙ words_opened text (from + 1) (λ k. g)))
        (λ f. rw f (words_blank text false from here b (eqb-false (get_or text from 0) 10 f)))

    pub next_gap : (r : Option Integer) → QuickTold (word_at (from + 1) text) (from + 1) r → is_some r ≡ true
        → NextTold text from (record { at = from + 1; first = eqb (get_or text from 0) 10; read = r })
    next_gap None q t = cc
    next_gap (Some r) q t =
        let word = ap (λ (l : List ℕ). integer_of (word_bytes l)) (sym (from_index text (from + 1) 0 h)) ∙ q.number.1 in
        let byte = number_byte (get_or text (from + 1) 0) (drop (from + 1 + 1) text) word in
        record {
          low = omega arith;
          high = omega arith;
          last = λ k. absurd (omega arith);
          next = λ k. gap_passed byte.1 ∙ words_word text (eqb (get_or text from 0) 10) (from + 1) k byte.0;
          told = q.number;
        }
