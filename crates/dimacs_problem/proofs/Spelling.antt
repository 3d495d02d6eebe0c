-- A word by its bytes.
use mathlib.Core.Path.{◌≡◌, refl, sym, ap, ◌∙◌}
use mathlib.Core.Bool.{true, false, ◌&&◌}
use mathlib.Core.List.{List, [], ◌∷◌}
use Prim.Native.Nat.{ℕ, suc, ◌+◌, ◌-◌, ◌≤◌, ◌<◌}
use native.Mathlib.Omega.{arith}
use lib.Dec.{eqb}
use lib.ListN.{length, get_or, drop, length-drop}
use borrow.Author.Tests.{ne_eqb}
use Rattle.rules.proofs.Lists.{by_cases, true-false, and_right, from_index}
use Rattle.text.specs.Words.{is_blank}
use Rattle.text.specs.Places.{word_bytes, word_at}
use Rattle.text_numbers.specs.Told.{ends_word}
use Rattle.dimacs.specs.Reading.{spells}

-- no byte more
pub spells_none : (bs : List ℕ) → spells [] (word_bytes bs) ≡ ends_word bs
unfolding word_bytes
spells_none [] = refl
spells_none (b ∷ bs) = by_cases (is_blank b) (λ e. rw e) (λ e. rw e)

-- one byte, and those behind it
pub spells_more : (x : ℕ) (xs : List ℕ) (b : ℕ) (bs : List ℕ) → is_blank x ≡ false →
    spells (x ∷ xs) (word_bytes (b ∷ bs)) ≡ (eqb b x && spells xs (word_bytes bs))
unfolding word_bytes
spells_more x xs b bs h = by_cases (is_blank b)
    (λ e. rw (e, ne_eqb b x (λ q. true-false (sym (ap is_blank q) ∙ e) h)))
    (λ e. rw e)

-- at a place of a text
pub spells_at : (text : List ℕ) (at x : ℕ) (xs : List ℕ) → at < length text → is_blank x ≡ false →
    spells (x ∷ xs) (word_at at text) ≡ (eqb (get_or text at 0) x && spells xs (word_at (at + 1) text))
spells_at text at x xs h e =
    ap (λ (l : List ℕ). spells (x ∷ xs) (word_bytes l)) (from_index text at 0 h) ∙ spells_more x xs (get_or text at 0) (drop (at + 1) text) e

-- a word is as long as it is spelled
pub spells_length : (xs w : List ℕ) → spells xs w ≡ true → length w ≡ length xs
spells_length [] [] e = refl
spells_length [] (b ∷ w) e = true-false e refl
spells_length (x ∷ xs) [] e = true-false e refl
spells_length (x ∷ xs) (b ∷ w) e = ap suc (spells_length xs w (and_right (eqb b x) (spells xs w) e))

pub word_short : (bs : List ℕ) → length (word_bytes bs) ≤ length bs
unfolding word_bytes
word_short [] = omega arith
word_short (b ∷ bs) = by_cases (is_blank b) (λ e. rw e (omega arith)) (λ e. rw e (omega (arith, word_short bs)))

-- where too few bytes are left
pub spells_short : (text : List ℕ) (at : ℕ) (xs : List ℕ) → length text - at < length xs → spells xs (word_at at text) ≡ false
spells_short text at xs h = by_cases (spells xs (word_at at text))
    (λ e. absurd (omega (arith, spells_length xs (word_at at text) e, word_short (drop at text), length-drop at text)))
    (λ e. e)

-- ---- p and cnf

module _ (text : List ℕ) (at : ℕ) where
  pub p_spelled : at < length text → spells (112 ∷ []) (word_at at text) ≡ (eqb (get_or text at 0) 112 && ends_word (drop (at + 1) text))
  p_spelled h = spells_at text at 112 [] h refl ∙ rw (spells_none (drop (at + 1) text))

  pub cnf_spelled : at + 3 ≤ length text → spells (99 ∷ 110 ∷ 102 ∷ []) (word_at at text)
      ≡ (eqb (get_or text at 0) 99 && (eqb (get_or text (at + 1) 0) 110 && (eqb (get_or text (at + 2) 0) 102 && ends_word (drop (at + 3) text))))
  cnf_spelled h =
      let second : at + 1 + 1 ≡ at + 2 = omega arith in
      let third : at + 2 + 1 ≡ at + 3 = omega arith in
      let one = spells_at text at 99 (110 ∷ 102 ∷ []) (omega arith) refl in
      let two = spells_at text (at + 1) 110 (102 ∷ []) (omega arith) refl in
      let three = spells_at text (at + 2) 102 [] (omega arith) refl in
      one ∙ rw (two, second, three, third, spells_none (drop (at + 3) text))
