-- A word as the machine has it, byte by byte, and the number that it is.
use mathlib.Core.Path.{◌≡◌, refl, sym, ap, ◌∙◌}
use mathlib.Core.Bool.{Bool, true, false, cond}
use mathlib.Core.List.{List, [], ◌∷◌, ◌++◌}
use mathlib.Core.Option.{Option, none, some}
use Prim.Native.Nat.{ℕ, zero, suc, ◌+◌, ◌-◌, ◌*◌, min}
use native.Mathlib.Omega.{arith}
use lib.Dec.{eqb}
use lib.IntN.{ℤ, pos, negsuc}
use borrow.Author.Tests.{ne_eqb, eqb-true}
use Rattle.rules.specs.Lists.{all_pass}
use Rattle.rules.proofs.Lists.{by_cases, true-false}
use Rattle.text_numbers.specs.Numbers.{is_decimal, said_on, natural_of, minus_of, integer_of}
use Rattle.text_numbers.proofs.Saying.{decimal_bounds}
use Rattle.lrat.specs.Lines.{is_d}
use Rattle.lrat.specs.Machine.{word, grown, begin, is_word, push, pushes, said}
use Rattle.lrat.specs.declared.LineWord.{LineWord}
use Rattle.lrat.specs.declared.LineWord.TheVariants.{Number, Deletion, Other}
use Rattle.lrat.specs.declared.ProofWord.{ProofWord}

-- ---- what a word is heard as

-- 2^32 stands for all numbers from there on
abbrev pub capped : ℕ → ℕ
capped n = min n 4294967296

abbrev pub number_heard : ℤ → LineWord
number_heard (pos n) = Number false (capped n)
number_heard (negsuc n) = Number true (capped (suc n))

abbrev pub heard_as : Option ℤ → Bool → LineWord
heard_as (some z) d = number_heard z
heard_as none d = cond d Deletion Other

abbrev pub heard : List ℕ → LineWord
heard w = heard_as (integer_of w) (is_d w)

-- ---- byte by byte

pub pushes_last : (xs : List ℕ) (w : ProofWord) (b : ℕ) → pushes w (xs ++ (b ∷ [])) ≡ push (pushes w xs) b
unfolding pushes
pushes_last [] w b = refl
pushes_last (x ∷ xs) w b = pushes_last xs (push w x) b

-- what is no number stays none
others_stay : (bs : List ℕ) → pushes (word 4 false 0) bs ≡ word 4 false 0
unfolding pushes push
others_stay [] = refl
others_stay (b ∷ bs) = others_stay bs

grows : (n d : ℕ) → grown (capped n) d ≡ capped (n * 10 + d)
grows n d = omega arith

digits_on : (bs : List ℕ) (minus : Bool) (n : ℕ) →
    pushes (word 2 minus (capped n)) bs ≡ cond (all_pass is_decimal bs) (word 2 minus (capped (said_on n bs))) (word 4 false 0)
unfolding pushes push all_pass said_on
digits_on [] minus n = refl
digits_on (b ∷ bs) minus n = by_cases (is_decimal b)
    (λ e. rw (e, grows n (b - 48)) (digits_on bs minus (n * 10 + (b - 48))))
    (λ e. rw e (others_stay bs))

-- ---- a whole word

-- a word is on its way, and says what its bytes are heard as
pub record Spoken (w : ProofWord) (bytes : List ℕ) : Type 0 where
  pub going : is_word w ≡ true
  pub heard_so : said w ≡ heard bytes

-- behind a digit
by_digit : (b : ℕ) (bs : List ℕ) → is_decimal b ≡ true → Spoken (pushes (begin b) bs) (b ∷ bs)
unfolding all_pass said_on integer_of natural_of said
by_digit b bs d =
    let k = decimal_bounds b d in
    let first : b - 48 ≡ capped (0 * 10 + (b - 48)) = omega (arith, k.0, k.1) in
    let no_minus : eqb b 45 ≡ false = ne_eqb b 45 (λ e. omega (arith, k.0)) in
    let w : pushes (begin b) bs ≡ cond (all_pass is_decimal bs) (word 2 false (capped (said_on (0 * 10 + (b - 48)) bs))) (word 4 false 0) =
    rw d (ap (λ n. pushes (word 2 false n) bs) first ∙ digits_on bs false (0 * 10 + (b - 48))) in
    by_cases (all_pass is_decimal bs)
    (λ a. record { going = rw (w, a); heard_so = rw (w, no_minus, d, a) })
    (λ a. record { going = rw (w, a); heard_so = rw (w, no_minus, d, a) (sym (ap (λ x. cond x Deletion Other) (longer bs a))) })
  where
    longer : (bs : List ℕ) → all_pass is_decimal bs ≡ false → is_d (b ∷ bs) ≡ false
    longer [] a = true-false refl a
    longer (c ∷ bs) a = refl

-- behind a minus
by_minus : (bs : List ℕ) → Spoken (pushes (word 1 true 0) bs) (45 ∷ bs)
unfolding pushes push all_pass said_on integer_of natural_of said
by_minus [] = record { going = refl; heard_so = refl }
by_minus (b ∷ bs) = by_cases (is_decimal b)
    (λ d.
    let w : pushes (word 1 true 0) (b ∷ bs) ≡ cond (all_pass is_decimal bs) (word 2 true (capped (said_on (0 * 10 + (b - 48)) bs))) (word 4 false 0) =
    rw d (digits_on bs true (0 * 10 + (b - 48))) in
    by_cases (all_pass is_decimal bs)
    (λ a. record { going = rw (w, a); heard_so = rw (w, d, a) (negative (said_on (0 * 10 + (b - 48)) bs)) })
    (λ a. record { going = rw (w, a); heard_so = rw (w, d, a) }))
    (λ d. let w : pushes (word 1 true 0) (b ∷ bs) ≡ word 4 false 0 = rw d (others_stay bs) in record { going = rw w; heard_so = rw (w, d) })
  where
    negative : (n : ℕ) → said (word 2 true (capped n)) ≡ heard_as (minus_of (some n)) false
    negative zero = refl
    negative (suc n) = let e : eqb (capped (suc n)) 0 ≡ false = ne_eqb (capped (suc n)) 0 (λ z. omega arith) in rw e

-- behind any first byte
begun_word : (b : ℕ) (bs : List ℕ) → Spoken (pushes (begin b) bs) (b ∷ bs)
unfolding pushes push all_pass integer_of natural_of said
begun_word b bs = by_cases (is_decimal b) (by_digit b bs) λ d. by_cases (eqb b 45)
    (λ e. let is = eqb-true b 45 e in let r = by_minus bs in rw (d, is) r)
    (λ e. by_cases (eqb b 100) (λ f. letter bs d e f)
    (λ f.
    let w : pushes (begin b) bs ≡ word 4 false 0 = rw (d, e, f) (others_stay bs) in
    record { going = rw w; heard_so = rw (w, e, d) (sym (ap (λ x. cond x Deletion Other) (other bs f))) }))
  where
    letter : (bs : List ℕ) → is_decimal b ≡ false → eqb b 45 ≡ false → eqb b 100 ≡ true → Spoken (pushes (begin b) bs) (b ∷ bs)
    letter [] d e f = record { going = rw (d, e, f); heard_so = rw (d, e, f) }
    letter (c ∷ bs) d e f =
        let w : pushes (begin b) (c ∷ bs) ≡ word 4 false 0 = rw (d, e, f) (others_stay bs) in
        record { going = rw w; heard_so = rw (w, e, d) }

    other : (bs : List ℕ) → eqb b 100 ≡ false → is_d (b ∷ bs) ≡ false
    other [] f = f
    other (c ∷ bs) f = refl

-- a word that begins where none is on its way
pub spoken : (w : ProofWord) (b : ℕ) (bs : List ℕ) → is_word w ≡ false → Spoken (pushes w (b ∷ bs)) (b ∷ bs)
unfolding pushes push
spoken w b bs e = rw e (begun_word b bs)
