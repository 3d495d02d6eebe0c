-- What refusal 2 leaves: the lists of a frame are short and its id is positive.
use mathlib.Core.Path.{◌≡◌, refl, subst}
use mathlib.Core.Bool.{Bool, true, false, ◌&&◌, false≢true}
use mathlib.Core.List.{List}
use Prim.Native.Nat.{ℕ, zero, suc, ◌-◌, ◌≤◌, ◌<◌}
use native.Mathlib.Omega.{arith}
use lib.Dec.{leb}
use lib.IntN.{ℤ, pos, negsuc}
use lib.ListN.{length, get_or, take, drop, length-take, length-drop}
use borrow.Author.Tests.{ltb-true, leb-true}
use Rattle.rules.specs.Frames.{Frame, ADD, LEARN, FORGET, PROMOTE, DROP, WEAKEN, RESTORE, SAT, UNSAT, malformed, framed, framed_if, word, number}
use Rattle.rules.specs.Frames.{positive, counts, rows, least_words, parse}
use Rattle.rules.proofs.Lists.{by_cases, and_left, and_right}

abbrev pub Shaped : Frame → Type 0
Shaped (ADD i c) = (0 < i) × (length c ≤ 256)
Shaped (LEARN i c hints) = (0 < i) × (length c ≤ 256)
Shaped (FORGET i) = Unit {0}
Shaped (PROMOTE i) = Unit {0}
Shaped (DROP i hints) = Unit {0}
Shaped (WEAKEN i w ws) = length w ≤ 256
Shaped (RESTORE i) = Unit {0}
Shaped (SAT assumed vs) = Unit {0}
Shaped (UNSAT assumed hints) = Unit {0}

framed_is : (b : Bool) (g f : Frame) → framed_if b g ≡ framed f → (b ≡ true) × (g ≡ f)
unfolding framed_if
framed_is true g f e = (refl, cc)
framed_is false g f e = (cc, cc)

not_framed : (f : Frame) → malformed ≡ framed f → Shaped f
not_framed f e = let z : ◌≡◌ {A = ℕ} 0 1 = cc in absurd (omega arith)

positive_number : (x : ℤ) → positive x ≡ true → 0 < number x
positive_number (pos n) h = ltb-true 0 n h
positive_number (negsuc n) h = absurd (false≢true h)

counts_few : (least : ℕ) (x : ℤ) (left : ℕ) → counts least x left ≡ true → number x ≤ 256
counts_few least (pos n) left h = leb-true n 256 (and_left (leb n 256) (leb n left) (and_right (leb least n) (leb n 256 && leb n left) h))
counts_few least (negsuc n) left h = absurd (false≢true h)

-- a listed row: its list is no longer than its count
few : (least : ℕ) (ws : List ℤ) → counts least (word ws 2) (length ws - 3) ≡ true → length (take (number (word ws 2)) (drop 3 ws)) ≤ 256
few least ws h = let n = number (word ws 2) in omega (arith, length-take n (drop 3 ws), counts_few least (word ws 2) (length ws - 3) h)

row_shaped : (op : ℕ) (ws : List ℤ) (f : Frame) → get_or rows op (λ ws. malformed) ws ≡ framed f → Shaped f
row_shaped zero ws f e = not_framed f e
row_shaped (suc zero) ws f e =
    let r = framed_is _ _ f e in
    subst Shaped r.1 (
      positive_number (word ws 1) (and_left (positive (word ws 1)) (leb (length ws - 2) 256) r.0),
      omega (arith, length-drop 2 ws, leb-true (length ws - 2) 256 (and_right (positive (word ws 1)) (leb (length ws - 2) 256) r.0)),
    )
row_shaped (suc (suc zero)) ws f e =
    let r = framed_is _ _ f e in
    let k = counts 0 (word ws 2) (length ws - 3) in
    subst Shaped r.1 (positive_number (word ws 1) (and_left (positive (word ws 1)) k r.0), few 0 ws (and_right (positive (word ws 1)) k r.0))
row_shaped (suc (suc (suc zero))) ws f e = let r = framed_is _ _ f e in subst Shaped r.1 tt
row_shaped (suc (suc (suc (suc zero)))) ws f e = let r = framed_is _ _ f e in subst Shaped r.1 tt
row_shaped (suc (suc (suc (suc (suc zero))))) ws f e = let r = framed_is _ _ f e in subst Shaped r.1 tt
row_shaped (suc (suc (suc (suc (suc (suc zero)))))) ws f e =
    let r = framed_is _ _ f e in
    subst Shaped r.1 (few 1 ws (and_right (positive (word ws 1)) (counts 1 (word ws 2) (length ws - 3)) r.0))
row_shaped (suc (suc (suc (suc (suc (suc (suc zero))))))) ws f e = let r = framed_is _ _ f e in subst Shaped r.1 tt
row_shaped (suc (suc (suc (suc (suc (suc (suc (suc zero)))))))) ws f e = let r = framed_is _ _ f e in subst Shaped r.1 tt
row_shaped (suc (suc (suc (suc (suc (suc (suc (suc (suc zero))))))))) ws f e = let r = framed_is _ _ f e in subst Shaped r.1 tt
row_shaped (suc (suc (suc (suc (suc (suc (suc (suc (suc (suc n)))))))))) ws f e = not_framed f e

pub shaped : (ws : List ℤ) (f : Frame) → parse ws ≡ framed f → Shaped f
unfolding parse
shaped ws f e =
    let op = number (word ws 0) in
    by_cases (leb (get_or least_words (op - 1) 0) (length ws) && leb (length ws) 4096)
    (λ t. row_shaped op ws f (rw t at e))
    (λ u. not_framed f (rw u at e))
