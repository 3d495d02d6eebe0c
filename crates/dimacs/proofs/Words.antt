-- What a word behind the problem line is by itself, where it is a number.
use mathlib.Core.Path.{◌≡◌, refl, sym, ap, ◌∙◌}
use mathlib.Core.Bool.{Bool, false, and-false}
use mathlib.Core.List.{List, [], ◌∷◌}
use mathlib.Core.Option.{Option, none, some}
use Prim.Native.Nat.{ℕ}
use native.Mathlib.Omega.{arith}
use lib.Dec.{eqb}
use lib.IntN.{ℤ}
use borrow.Author.Tests.{eqb-true}
use Rattle.rules.specs.Lists.{all_pass}
use Rattle.rules.proofs.Lists.{by_cases}
use Rattle.text_numbers.specs.Numbers.{natural_of, integer_of}
use Rattle.dimacs.specs.Reading.{spells, number_word, clause_word}

-- p is no number
number_unp : (w : List ℕ) (l : ℤ) → integer_of w ≡ some l → spells (112 ∷ []) w ≡ false
unfolding integer_of natural_of all_pass
number_unp [] l e = refl
number_unp (b ∷ []) l e = by_cases (eqb b 112)
    (λ h.
    let z : ◌≡◌ {A = Option ℤ} none (some l) = sym (ap (λ (x : ℕ). integer_of (x ∷ [])) (eqb-true b 112 h)) ∙ e in
    let q : ◌≡◌ {A = ℕ} 0 1 = cc in
    absurd (omega arith))
    (λ h. rw h)
number_unp (b ∷ x ∷ w) l e = and-false (eqb b 112)

pub word_number : (vars at : ℕ) (first : Bool) (w : List ℕ) (l : ℤ) → integer_of w ≡ some l
    → clause_word vars (record { at = at; first = first; bytes = w }) ≡ number_word vars at (some l)
unfolding clause_word
word_number vars at first w l e = rw (number_unp w l e, and-false first, e)
