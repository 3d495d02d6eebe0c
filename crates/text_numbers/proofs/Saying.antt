-- What digits say, one more at a time, and the word that they are.
use mathlib.Core.Path.{◌≡◌, refl, sym, ap, ◌∙◌}
use mathlib.Core.Bool.{true, false, and-false}
use mathlib.Core.List.{List, [], ◌∷◌, ◌++◌, append-nil}
use mathlib.Core.Option.{none, some}
use Prim.Native.Nat.{ℕ, ◌+◌, ◌-◌, ◌*◌, ◌≤◌, ◌<◌}
use native.Mathlib.Omega.{arith}
use lib.Dec.{ltb, leb}
use native.Mathlib.Decide.{dec_lt}
use Rattle.std.specs.Prelude.{Some}
use lib.ListN.{length, get_or, drop, drop_of_length-le}
use lib.Seq.{slice, slice_empty, length-slice}
use borrow.Author.Tests.{ne_eqb, leb-true, ltb-true}
use Rattle.rules.specs.Lists.{all_pass}
use Rattle.rules.proofs.Lists.{by_cases, true-false, from_index, and_left, and_right, all_nil, all_cons, all_append, all_head, all_tail}
use Rattle.text.specs.Words.{is_blank}
use Rattle.text.specs.Places.{word_bytes, word_at}
use Rattle.text.proofs.Slices.{slice_snoc, slice_drop}
use Rattle.text_numbers.specs.Numbers.{is_decimal, said_on, natural_of}
use Rattle.text_numbers.specs.Told.{capped, ends_word, Saying, NumeralTold}

-- ---- one digit more

pub said_append : (xs ys : List ℕ) (n : ℕ) → said_on n (xs ++ ys) ≡ said_on (said_on n xs) ys
unfolding said_on
said_append [] ys n = refl
said_append (x ∷ xs) ys n = said_append xs ys (n * 10 + (x - 48))

pub said_snoc : (xs : List ℕ) (b n : ℕ) → said_on n (xs ++ (b ∷ [])) ≡ said_on n xs * 10 + (b - 48)
unfolding said_on
said_snoc xs b n = said_append xs (b ∷ []) n

-- a digit is a byte from 48 to 57
pub decimal_bounds : (b : ℕ) → is_decimal b ≡ true → (48 ≤ b) × (b < 58)
decimal_bounds b h = (leb-true 48 b (and_left (leb 48 b) (ltb b 58) h), ltb-true b 58 (and_right (leb 48 b) (ltb b 58) h))

pub saying_none : (text : List ℕ) (from : ℕ) → from ≤ length text → Saying text from 0 from
unfolding said_on
saying_none text from h = record { low = omega arith; high = h; all = rw (slice_empty from text) (all_nil is_decimal); value = rw (slice_empty from text) }

pub saying_more : {text : List ℕ} {from u i : ℕ} → Saying text from u i → i < length text → is_decimal (get_or text i 0) ≡ true → (v : ℕ)
    → ((x : ℕ) → u ≡ capped x → v ≡ capped (x * 10 + (get_or text i 0 - 48))) → Saying text from v (i + 1)
saying_more {text} {from} {u} {i} s h d v grown =
    let b = get_or text i 0 in
    let snoc = slice_snoc from i text s.low h in
    record {
      low = omega (arith, s.low);
      high = omega arith;
      all = rw snoc (all_append is_decimal (slice from i text) (b ∷ []) s.all (all_cons is_decimal b [] d (all_nil is_decimal)));
      value = rw (snoc, said_snoc) (grown (said_on 0 (slice from i text)) s.value);
    }

-- ---- the word that digits are

digit_unblank : (b : ℕ) → is_decimal b ≡ true → is_blank b ≡ false
digit_unblank b h =
    let k = decimal_bounds b h in
    rw (ne_eqb b 32 (λ e. omega arith), ne_eqb b 9 (λ e. omega arith), ne_eqb b 13 (λ e. omega arith), ne_eqb b 10 (λ e. omega arith))

word_digits : (xs ys : List ℕ) → all_pass is_decimal xs ≡ true → word_bytes (xs ++ ys) ≡ xs ++ word_bytes ys
unfolding word_bytes
word_digits [] ys a = refl
word_digits (x ∷ xs) ys a =
    rw (digit_unblank x (all_head is_decimal x xs a)) (ap (λ (l : List ℕ). x ∷ l) (word_digits xs ys (all_tail is_decimal x xs a)))

pub word_ended : (ys : List ℕ) → ends_word ys ≡ true → word_bytes ys ≡ []
unfolding word_bytes
word_ended [] e = refl
word_ended (y ∷ ys) e = rw e

pub digits_whole : (w ys : List ℕ) → all_pass is_decimal w ≡ true → ends_word ys ≡ true → word_bytes (w ++ ys) ≡ w
digits_whole w ys a e = word_digits w ys a ∙ rw (word_ended ys e) (append-nil w)

spoilt : (xs ys : List ℕ) (y : ℕ) → is_decimal y ≡ false → all_pass is_decimal (xs ++ (y ∷ ys)) ≡ false
unfolding all_pass
spoilt [] ys y e = rw e
spoilt (x ∷ xs) ys y e = rw (spoilt xs ys y e, and-false)

no_natural : (w : List ℕ) → all_pass is_decimal w ≡ false → natural_of w ≡ none
unfolding natural_of
no_natural [] a = refl
no_natural (b ∷ w) a = rw a

pub natural : (w : List ℕ) → 0 < length w → all_pass is_decimal w ≡ true → natural_of w ≡ some (said_on 0 w)
unfolding natural_of
natural [] h a = absurd (omega arith)
natural (b ∷ w) h a = rw a

-- digits of a text from place `at` to before `end`
module _ (text : List ℕ) (at v end : ℕ) (d : Saying text at v end) where
  word_is : word_at at text ≡ slice at end text ++ word_bytes (drop end text)
  word_is = ap word_bytes (slice_drop at end text d.low d.high) ∙ word_digits (slice at end text) (drop end text) d.all

  -- behind them a byte of the word that is none
  module _ (stops : end < length text → is_decimal (get_or text end 0) ≡ false) where
    pub goes_on_otherwise : ends_word (drop end text) ≡ false → natural_of (word_at at text) ≡ none
    unfolding word_bytes
    goes_on_otherwise e = of (dec_lt end (length text))
      where
        of : Dec (end < length text) → natural_of (word_at at text) ≡ none
        of (no k) = let past : length text ≤ end = omega arith in true-false (ap ends_word (drop_of_length-le text past)) e
        of (yes k) =
            let i = from_index text end 0 k in
            let b = sym (ap ends_word i) ∙ e in
            no_natural (word_at at text) (ap (all_pass is_decimal) (word_is ∙ ap (λ (l : List ℕ). slice at end text ++ word_bytes l) i)
            ∙ rw b (spoilt (slice at end text) (word_bytes (drop (end + 1) text)) (get_or text end 0) (stops k)))

    pub no_digit : end ≡ at → natural_of (word_at at text) ≡ none
    unfolding natural_of
    no_digit e = by_cases (ends_word (drop end text))
        (λ t.
        let w : word_at at text ≡ [] = word_is
        ∙ rw (e, slice_empty at text) (word_ended (drop at text) (ap (λ (k : ℕ). ends_word (drop k text)) (sym e) ∙ t)) in
        rw w)
        goes_on_otherwise

  -- behind them none of the word
  module _ (t : ends_word (drop end text) ≡ true) where
    word_whole : word_at at text ≡ slice at end text
    word_whole = ap word_bytes (slice_drop at end text d.low d.high) ∙ digits_whole (slice at end text) (drop end text) d.all t

    whole_number : (end ≡ at → ⊥) → natural_of (word_at at text) ≡ some (said_on 0 (slice at end text))
    whole_number e = ap natural_of word_whole ∙ natural (slice at end text) (omega (arith, d.low, length-slice at end text d.high)) d.all

    pub numeral_whole : (end ≡ at → ⊥) → NumeralTold (word_at at text) at (Some (record { value = v; end = end }))
    numeral_whole e =
        (said_on 0 (slice at end text), whole_number e, d.value, omega (arith, ap length word_whole, length-slice at end text d.high, d.low))
