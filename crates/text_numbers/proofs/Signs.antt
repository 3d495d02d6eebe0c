-- A word as a signed number: by its first byte.
use mathlib.Core.Path.{◌≡◌, refl, ap, ◌∙◌}
use mathlib.Core.Bool.{true, false}
use mathlib.Core.List.{List, ◌∷◌}
use mathlib.Core.Option.{none, some}
use Prim.Native.Nat.{ℕ, zero, suc, ◌+◌, ◌<◌}
use native.Mathlib.Omega.{arith}
use lib.ListN.{length, get_or}
use borrow.Author.Tests.{ne_eqb}
use Rattle.std.specs.Prelude.{Some}
use Rattle.rules.proofs.Lists.{by_cases, from_index}
use Rattle.text.specs.Words.{is_blank}
use Rattle.text.specs.Places.{word_bytes, word_at}
use Rattle.text_numbers.specs.Numbers.{natural_of, plus_of, minus_of, integer_of}
use Rattle.text_numbers.specs.Told.{capped, NumeralTold, with_sign, IntegerTold}
use Rattle.text_numbers.specs.declared.Numeral.{Numeral}

module _ (text : List ℕ) (at : ℕ) (h : at < length text) where
  -- ---- behind a minus

  module _ (e : get_or text at 0 ≡ 45) where
    pub minus_word : word_at at text ≡ 45 ∷ word_at (at + 1) text
    unfolding word_bytes
    minus_word = ap word_bytes (from_index text at 0 h) ∙ rw e

    minus_integer : integer_of (word_at at text) ≡ minus_of (natural_of (word_at (at + 1) text))
    unfolding integer_of
    minus_integer = ap integer_of minus_word

    pub minus_told : {r : Numeral} → NumeralTold (word_at (at + 1) text) (at + 1) (Some r) → (r.value ≡ 0 → ⊥)
        → IntegerTold (word_at at text) at (Some (record { minus = true; value = r.value; end = r.end }))
    minus_told {r} (n, said, value, behind) z = (n, minus_integer ∙ ap minus_of said ∙ of n (λ e. z (value ∙ ap capped e)), value, there)
      where
        of : (n : ℕ) → (n ≡ 0 → ⊥) → minus_of (some n) ≡ some (with_sign true n)
        of zero z = absurd (z refl)
        of (suc n) z = refl

        there : r.end ≡ at + length (word_at at text)
        there = omega (arith, ap length minus_word, behind)

    -- -0 is no number
    pub minus_zero : {r : Numeral} → NumeralTold (word_at (at + 1) text) (at + 1) (Some r) → r.value ≡ 0 → integer_of (word_at at text) ≡ none
    minus_zero {r} (n, said, value, behind) z =
        let zero_said : n ≡ 0 = omega arith in
        minus_integer ∙ ap minus_of said ∙ ap (λ (k : ℕ). minus_of (some k)) zero_said

    pub minus_untold : natural_of (word_at (at + 1) text) ≡ none → integer_of (word_at at text) ≡ none
    minus_untold none_said = minus_integer ∙ ap minus_of none_said

  -- ---- without one

  module _ (e : get_or text at 0 ≡ 45 → ⊥) where
    plain_integer : integer_of (word_at at text) ≡ plus_of (natural_of (word_at at text))
    unfolding integer_of word_bytes natural_of
    plain_integer = rw (from_index text at 0 h) (by_cases (is_blank (get_or text at 0)) (λ t. rw t) (λ f. rw (f, ne_eqb (get_or text at 0) 45 e)))

    pub plain_told : {r : Numeral} → NumeralTold (word_at at text) at (Some r)
        → IntegerTold (word_at at text) at (Some (record { minus = false; value = r.value; end = r.end }))
    plain_told (n, said, value, behind) = (n, plain_integer ∙ ap plus_of said, value, behind)

    pub plain_untold : natural_of (word_at at text) ≡ none → integer_of (word_at at text) ≡ none
    plain_untold none_said = plain_integer ∙ ap plus_of none_said
