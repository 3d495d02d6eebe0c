-- What a word behind the problem line is by itself.
use mathlib.Core.Path.{◌≡◌, refl, ◌∙◌}
use mathlib.Core.Bool.{Bool, true, false, cond, ◌&&◌}
use mathlib.Core.List.{List, [], ◌∷◌}
use mathlib.Core.Option.{none, some}
use Prim.Native.Nat.{ℕ, zero, suc, ◌≤◌, ◌<◌}
use native.Mathlib.Omega.{arith}
use lib.IntN.{nat_abs}
use borrow.Author.Tests.{lt-ltb, le-ltb}
use Rattle.rules.proofs.Lists.{by_cases}
use mir.Syntax.{w32}
use mir.Val.{SFits}
use Rattle.text.specs.Words.{TextWord}
use Rattle.text_numbers.specs.Numbers.{integer_of}
use Rattle.text_numbers.specs.Told.{capped, with_sign}
use Rattle.dimacs.specs.Reading.{Wrong, Closing, Literal, spells, number_word, clause_word}
use Rattle.dimacs.specs.declared.TextFault.TheVariants.{SecondProblemLine, MalformedWord, PastDeclared}
use Rattle.dimacs.proofs.Words.{word_number}

-- ---- no number

module _ (vars at : ℕ) (first : Bool) (w : List ℕ) where
  abbrev word : TextWord
  word = record { at = at; first = first; bytes = w }

  pub word_none : integer_of w ≡ none → clause_word vars word ≡ Wrong (cond (first && spells (112 ∷ []) w) (SecondProblemLine at) (MalformedWord at))
  unfolding clause_word
  word_none e = by_cases (first && spells (112 ∷ []) w) (λ t. rw t) (λ f. rw (f, e))

  -- ---- a number of this value

  module _ (minus : Bool) (n : ℕ) (e : integer_of w ≡ some (with_sign minus n)) where
    pub word_closing : capped n ≡ 0 → clause_word vars word ≡ Closing
    word_closing z = word_number vars at first w (with_sign minus n) e ∙ of minus n (omega arith)
      where
        of : (minus : Bool) (n : ℕ) → n ≡ 0 → number_word vars at (some (with_sign minus n)) ≡ Closing
        of true zero z = refl
        of false zero z = refl
        of true (suc n) z = absurd (omega arith)
        of false (suc n) z = absurd (omega arith)

    pub word_past : vars < capped n → clause_word vars word ≡ Wrong (PastDeclared at)
    word_past h = word_number vars at first w (with_sign minus n) e ∙ of minus n (omega arith)
      where
        of : (minus : Bool) (n : ℕ) → vars < n → number_word vars at (some (with_sign minus n)) ≡ Wrong (PastDeclared at)
        of minus zero z = absurd (omega arith)
        of true (suc n) z = rw (le-ltb n vars (omega arith))
        of false (suc n) z = rw (le-ltb n vars (omega arith))

    pub word_literal : (capped n ≡ 0 → ⊥) → capped n ≤ vars → vars ≤ 2048 → clause_word vars word ≡ Literal (with_sign minus (capped n))
    word_literal z h k =
        let c : capped n ≡ n = omega arith in
        word_number vars at first w (with_sign minus n) e ∙ rw c (of minus n (λ q. z (omega arith)) (omega arith))
      where
        of : (minus : Bool) (n : ℕ) → (n ≡ 0 → ⊥) → n ≤ vars → number_word vars at (some (with_sign minus n)) ≡ Literal (with_sign minus n)
        of minus zero z h = absurd (z refl)
        of true (suc n) z h = rw (lt-ltb n vars h)
        of false (suc n) z h = rw (lt-ltb n vars h)

-- ---- a variable with its sign

pub sign_abs : (minus : Bool) (n : ℕ) → nat_abs (with_sign minus n) ≡ n
sign_abs true zero = refl
sign_abs true (suc n) = refl
sign_abs false n = refl

pub sign_fits : (minus : Bool) (n : ℕ) → n ≤ 2048 → SFits w32 (with_sign minus n)
sign_fits true zero h = record { sfits = omega arith }
sign_fits true (suc n) h = record { sfits = omega arith }
sign_fits false n h = record { sfits = omega arith }
