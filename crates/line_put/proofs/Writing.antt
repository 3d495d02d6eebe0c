-- Bytes put one after the other, and the digits of numbers.
use mathlib.Core.Path.{◌≡◌, refl, sym, ap, ◌∙◌}
use mathlib.Core.List.{List, [], ◌∷◌, ◌++◌, append_assoc, append-nil}
use Prim.Native.Nat.{ℕ, zero, suc, ◌+◌, ◌-◌, ◌*◌, ◌/◌, ◌%◌, ◌^◌, ◌≤◌, ◌<◌}
use native.Mathlib.Omega.{arith}
use native.Mathlib.Numerals.{add-one}
use native.Mathlib.Nat.{pow-suc}
use lib.ListN.{length, take, drop, set, length-append, length-set, length-take}
use lib.Seq.{take-suc-set, drop-set-lt}
use lib.Pow.{pow-add}
use Rattle.line_hex.specs.Hex.{glyph, hex}
use Rattle.line_hex.proofs.Digits.{hex_length}
use Rattle.line_read.specs.Lent.{Wrote}
use Rattle.text.proofs.Slices.{drop_further}

pub wrote_none : (o : List ℕ) (a : ℕ) → Wrote o a [] o a
wrote_none o a = record { place = omega arith; bytes = sym (append-nil (take a o)); behind = refl }

pub wrote_then : {o xs o₁ ys o₂ : List ℕ} {a a₁ a₂ : ℕ} → Wrote o a xs o₁ a₁ → Wrote o₁ a₁ ys o₂ a₂ → Wrote o a (xs ++ ys) o₂ a₂
wrote_then {o} {xs} {o₁} {ys} {o₂} {a} {a₁} {a₂} p q = record {
  place = omega (arith, length-append xs ys, p.place, q.place);
  bytes = q.bytes ∙ ap (λ (l : List ℕ). l ++ ys) p.bytes ∙ append_assoc (take a o) xs ys;
  behind = q.behind ∙ drop_further a₁ a₂ o₁ o (omega (arith, q.place)) p.behind;
}

pub wrote_as : {o xs ys o₁ : List ℕ} {a a₁ : ℕ} → xs ≡ ys → Wrote o a xs o₁ a₁ → Wrote o a ys o₁ a₁
wrote_as {o} {xs} {ys} {o₁} {a} {a₁} e w = rw e at w

-- what was put from the start of a buffer on lies inside it
pub wrote_first : {o xs o₁ : List ℕ} {a : ℕ} → Wrote o 0 xs o₁ a → (a ≤ length o₁) × (a ≡ length (take a o₁))
wrote_first {o} {xs} {o₁} {a} w =
    let e : a ≡ length (take a o₁) = omega (arith, w.place, ap length w.bytes) in
    (omega (arith, e, length-take a o₁), e)

-- ---- a number

pub hex_end : {o : List ℕ} {at : ℕ} (k n : ℕ) {o' : List ℕ} {a : ℕ} → Wrote o at (hex k n) o' a → a ≡ at + k
hex_end k n w = omega (arith, w.place, hex_length k n)

sixteens : (k : ℕ) → 2 ^ (4 * k) ≡ 16 ^ k
sixteens zero = refl
sixteens (suc k) = let e : 4 * suc k ≡ 4 * k + 4 = omega arith in rw (e, pow-add 2 (4 * k) 4, pow-suc 16 k, sixteens k) (omega arith)

-- k digits are still to come
pub record Digiting (o : List ℕ) (at n : ℕ) (o' : List ℕ) (k : ℕ) : Type 0 where
  pub few : k ≤ 8
  pub size : length o' ≡ length o
  pub rest : take (at + 8 - k) o' ++ hex k n ≡ take at o ++ hex 8 n
  pub behind : drop (at + 8 - k) o' ≡ drop (at + 8 - k) o

pub digiting_more : (k : ℕ) {o : List ℕ} {at n : ℕ} {o' : List ℕ} → Digiting o at n o' k → at + 8 ≤ length o → 0 < k
    → Digiting o at n (set o' (at + 7 - (k - 1)) (glyph (n / 2 ^ (4 * (k - 1)) % 16))) (k - 1)
unfolding hex
digiting_more zero d h p = absurd (omega arith)
digiting_more (suc k) {o} {at} {n} {o'} d h p =
    let e : suc k - 1 ≡ k = omega arith in
    let a = at + 8 - suc k in
    let here : at + 7 - k ≡ a = omega arith in
    let next : at + 8 - k ≡ a + 1 = omega (arith, d.few) in
    let inside : a < length o' = omega (arith, d.few, d.size) in
    let g = glyph (n / 16 ^ k % 16) in
    rw (e, sixteens k, here) record {
      few = omega (arith, d.few);
      size = length-set o' a g ∙ d.size;
      rest = rw (next, add-one, take-suc-set o' a g inside, append_assoc (take a o') (g ∷ []) (hex k n)) d.rest;
      behind = rw next (drop-set-lt (a + 1) o' a g (omega arith) ∙ drop_further a (a + 1) o' o (omega arith) d.behind);
    }

pub digiting_end : {o : List ℕ} {at n : ℕ} {o' : List ℕ} {k : ℕ} → Digiting o at n o' k → k ≡ 0 → Wrote o at (hex 8 n) o' (at + 8)
unfolding hex
digiting_end {o} {at} {n} {o'} {k} d e =
    let last : at + 8 - k ≡ at + 8 = omega arith in
    let r = d.rest in
    let b = d.behind in
    record { place = omega (arith, hex_length 8 n); bytes = sym (append-nil (take (at + 8) o')) ∙ rw (last, e) at r; behind = rw last at b }
