-- A short word that is read at once: its bytes, pushed one after the other, say the same number.
use mathlib.Core.Path.{◌≡◌, refl, sym, ap, ◌∙◌}
use mathlib.Core.Bool.{Bool, true, false, not, ◌&&◌}
use mathlib.Core.List.{List, [], ◌∷◌}
use mathlib.Core.Option.{Option, some, none-ne-some}
use Prim.Native.Nat.{ℕ, zero, suc, ◌+◌, ◌≤◌, ◌<◌, min}
use native.Mathlib.Omega.{arith}
use lib.Dec.{eqb}
use lib.IntN.{ℤ}
use lib.ListN.{length, take, drop, length-take, length-drop}
use lib.Seq.{slice, take-add, drop_at, length-take-le}
use borrow.Author.Tests.{eqb-true}
use Rattle.rules.specs.Lists.{all_pass}
use Rattle.rules.proofs.Lists.{by_cases, and_left, all_nil, all_cons}
use Rattle.text.specs.Words.{is_blank}
use Rattle.text.specs.Places.{word_bytes, word_at}
use Rattle.text.proofs.Words.{behind_word}
use Rattle.text_numbers.specs.Numbers.{integer_of}
use Rattle.text_numbers.specs.Told.{capped, with_sign}
use Rattle.text_numbers.specs.declared.Integer.{Integer}
use Rattle.text_next.specs.Next.{QuickSaid}
use Rattle.lrat.specs.Lines.{is_d}
use Rattle.lrat.specs.Machine.{word, is_word, pushes, said}
use Rattle.lrat.specs.declared.LineWord.TheVariants.{Number}
use Rattle.lrat.specs.declared.ProofWord.{ProofWord}
use Rattle.lrat.proofs.Heard.{number_heard, heard_as, spoken}
use Rattle.lrat_words.specs.Taken.{in_word, TookWord}

-- ---- the bytes of a word

no_blanks : (bs : List ℕ) → all_pass in_word (word_bytes bs) ≡ true
unfolding word_bytes
no_blanks [] = all_nil in_word
no_blanks (b ∷ bs) = by_cases (is_blank b) (λ t. rw t (all_nil in_word)) (λ f. rw f (all_cons in_word b (word_bytes bs) (ap not f) (no_blanks bs)))

-- they are the first of what is left
first_bytes : (bs : List ℕ) → take (length (word_bytes bs)) bs ≡ word_bytes bs
unfolding word_bytes
first_bytes [] = refl
first_bytes (b ∷ bs) = by_cases (is_blank b) (λ t. rw t) (λ f. rw f (ap (λ (l : List ℕ). b ∷ l) (first_bytes bs)))

module _ (part : List ℕ) (from : ℕ) (h : from ≤ length part) where
  abbrev many : ℕ
  many = length (word_at from part)

  word_inside : from + many ≤ length part
  word_inside = omega (arith, ap length (first_bytes (drop from part)), length-take many (drop from part), length-drop from part)

  word_slice : slice from (from + many) part ≡ word_at from part
  word_slice =
      ap (drop from) (take-add from many part) ∙ drop_at (take from part) (take many (drop from part)) from (length-take-le from part h)
      ∙ first_bytes (drop from part)

-- ---- what they say

-- a word that says a number is one of digits
of_digits : (x : ProofWord) (minus : Bool) (v : ℕ) → said x ≡ Number minus v → x ≡ word 2 minus v
unfolding said
of_digits x minus v e = by_cases (eqb x.kind 3)
    (λ t. let q = rw t at e in let z : ◌≡◌ {A = ℕ} 0 1 = cc in absurd (omega arith))
    (λ f. by_cases (eqb x.kind 2 && not (x.minus && eqb x.value 0))
    (λ t.
    let q = rw (f, t) at e in
    let k = eqb-true x.kind 2 (and_left (eqb x.kind 2) (not (x.minus && eqb x.value 0)) t) in
    let m : x.minus ≡ minus = cc in
    let n : x.value ≡ v = cc in
    rw (← k, ← m, ← n))
    (λ g. let q = rw (f, g) at e in let z : ◌≡◌ {A = ℕ} 0 1 = cc in absurd (omega arith)))

-- a number below 2^32 is heard as it is
heard_so : (minus : Bool) (n v : ℕ) → v ≡ capped n → v < 100000000 → (minus ≡ true → 0 < v) → number_heard (with_sign minus n) ≡ Number minus v
heard_so false n v e h s = let m : min n 4294967296 ≡ v = omega arith in ap (Number false) m
heard_so true zero v e h s = absurd (omega (arith, s refl))
heard_so true (suc n) v e h s = let m : min (suc n) 4294967296 ≡ v = omega arith in ap (Number true) m

pushed_at_once : (w : ProofWord) (bytes : List ℕ) (z : ℤ) (minus : Bool) (v : ℕ) → is_word w ≡ false → integer_of bytes ≡ some z →
    number_heard z ≡ Number minus v → pushes w bytes ≡ word 2 minus v
unfolding integer_of
pushed_at_once w [] z minus v e q m = absurd (none-ne-some z q)
pushed_at_once w (b ∷ bs) z minus v e q m =
    of_digits _ minus v ((spoken w b bs e).heard_so ∙ ap (λ (o : Option ℤ). heard_as o (is_d (b ∷ bs))) q ∙ m)

pub taken_at_once : {part : List ℕ} {from : ℕ} {w : ProofWord} {r : Integer} → from ≤ length part → is_word w ≡ false →
    QuickSaid (word_at from part) from r → TookWord part from w (record { from = r.end; word = word 2 r.minus r.value })
taken_at_once {part} {from} {w} {r} h e q =
    let (n, is, value, ends) = q.number in
    rw ends (record {
      pushed = record {
        low = omega arith;
        high = word_inside part from h;
        no_blank = rw (word_slice part from h) (no_blanks (drop from part));
        read =
            rw (word_slice part from h)
            (sym (pushed_at_once w (word_at from part) (with_sign r.minus n) r.minus r.value e is
            (heard_so r.minus n r.value value q.small q.signed)));
      };
      stops = behind_word part from;
    })
