-- The parts of the pool, as a loop judges them: no two of the first i overlap, and their words are marked. Two parts overlap where they have a word in
-- common: the start of the later one.
use mathlib.Core.Path.{◌≡◌, refl, sym, ◌∙◌}
use mathlib.Core.Logic.{inl, inr, ⊎_elim}
use mathlib.Core.Bool.{Bool, true, false}
use mathlib.Core.List.{List, [], ◌∷◌}
use Prim.Native.Nat.{ℕ, zero, suc, ◌+◌, ◌<◌, ◌≤◌}
use native.Mathlib.Omega.{arith}
use lib.Dec.{eqb, ltb, leb}
use lib.ListN.{length, get_or, take, replicate, length-replicate}
use lib.Seq.{take_all}
use borrow.Author.Tests.{ltb-true, leb-true, leb-false, lt-ltb, le-leb, eqb-true, eqb-false}
use Rattle.rules.specs.Lists.{any_passes}
use Rattle.rules.proofs.Lists.{by_cases, true-false, or-false, and_left, and_right, and_both, any_last}
use Rattle.std.proofs.lemmas.List.{take_more}
use Rattle.table.specs.Facts.{All, none, both, Pairs, alone}
use Rattle.table.specs.Spelled.{Row, row_at, start_of, size, Clear}
use Rattle.table.proofs.Facts.{all_more}
use Rattle.lent.specs.State.{every_two, clear}
use Rattle.lent.specs.Marks.{between, PartMarked, Takes}
use Rattle.lent.proofs.Tests.{two_test, pairs_last, pairs_behind, fails_any}
use Rattle.lent.proofs.Judged.{clear_test, clears_fact}

-- ---- a part's words

module _ (start end w : ℕ) where
  between_fact : between start end w ≡ true → (start ≤ w) × (w < end)
  between_fact h = (leb-true start w (and_left (leb start w) (ltb w end) h), ltb-true w end (and_right (leb start w) (ltb w end) h))

  between_test : start ≤ w → w < end → between start end w ≡ true
  between_test a b = and_both (le-leb start w a) (lt-ltb w end b)

  between_fails : (start ≤ w → w < end → ⊥) → between start end w ≡ false
  between_fails n = by_cases (between start end w) (λ e. let t = between_fact e in absurd (n t.0 t.1)) (λ e. e)

-- a row's part
pub takes_row : (row : Row) (marks marks' : List Bool) {start n : ℕ} {b b' : Bool} → start ≡ start_of row → n ≡ size row → b ≡ b' → Takes marks start (start + n) b marks' →
    Takes marks (start_of row) (start_of row + size row) b' marks'
takes_row row marks marks' p q r t = rw (p, q, r) at t

-- ---- two parts

-- the word is the row's
abbrev covers : ℕ → Row → Bool
covers w r = between (start_of r) (start_of r + size r) w

module _ (r x : Row) where
  clear_apart : Clear r x → (w : ℕ) → covers w x ≡ true → covers w r ≡ false
  clear_apart c w h =
      let t = between_fact (start_of x) (start_of x + size x) w h in
      let low = t.0 in
      let high = t.1 in
      between_fails (start_of r) (start_of r + size r) w (λ a b. ⊎_elim
      (λ e. ⊎_elim (λ (z : size r ≡ 0). omega arith) (λ (z : size x ≡ 0). omega arith) e)
      (λ e. ⊎_elim (λ (z : start_of r + size r ≤ start_of x). omega arith) (λ (z : start_of x + size x ≤ start_of r). omega arith) e)
      c)

  apart_clear : ((w : ℕ) → covers w x ≡ true → covers w r ≡ false) → Clear r x
  apart_clear f = by_cases (eqb (size r) 0) (λ e. inl (inl (eqb-true (size r) 0 e))) λ a.
      by_cases (eqb (size x) 0) (λ e. inl (inr (eqb-true (size x) 0 e))) λ b.
      by_cases (leb (start_of r + size r) (start_of x)) (λ e. inr (inl (leb-true (start_of r + size r) (start_of x) e))) λ c.
      by_cases (leb (start_of x + size x) (start_of r)) (λ e. inr (inr (leb-true (start_of x + size x) (start_of r) e))) λ d.
      let nr = eqb-false (size r) 0 a in
      let nx = eqb-false (size x) 0 b in
      let p = leb-false (start_of r + size r) (start_of x) c in
      let q = leb-false (start_of x + size x) (start_of r) d in
      by_cases (leb (start_of r) (start_of x))
      (λ e. let l = leb-true (start_of r) (start_of x) e in common (start_of x) (omega arith) (omega arith) (omega arith) (omega arith))
      (λ e. let l = leb-false (start_of r) (start_of x) e in common (start_of r) (omega arith) (omega arith) (omega arith) (omega arith))
    where
      common : (w : ℕ) → start_of x ≤ w → w < start_of x + size x → start_of r ≤ w → w < start_of r + size r → Clear r x
      common w xl xh rl rh =
          true-false (between_test (start_of r) (start_of r + size r) w rl rh) (f w (between_test (start_of x) (start_of x + size x) w xl xh))

apart_clears : (rs : List Row) (x : Row) → ((w : ℕ) → covers w x ≡ true → any_passes (covers w) rs ≡ false) → All (λ r. Clear r x) rs
unfolding any_passes
apart_clears [] x f = none
apart_clears (r ∷ rs) x f =
    both (apart_clear r x (λ w h. (or-false (covers w r) (any_passes (covers w) rs) (f w h)).0))
    (apart_clears rs x (λ w h. (or-false (covers w r) (any_passes (covers w) rs) (f w h)).1))

-- ---- a loop over the rows

pub record Parted (rows : List Row) (marks : List Bool) (i : ℕ) : Type 0 where
  pub within : i ≤ length rows
  pub room : length marks ≡ 8192
  pub marked : (w : ℕ) → get_or marks w false ≡ any_passes (covers w) (take i rows)
  pub apart : Pairs Clear (take i rows)

unmarked : (n w : ℕ) → get_or (replicate n false) w false ≡ false
unmarked zero w = refl
unmarked (suc n) zero = refl
unmarked (suc n) (suc w) = unmarked n w

module _ (rows : List Row) where
  pub parted_start : Parted rows (replicate 8192 false) 0
  unfolding any_passes
  parted_start = record { within = omega arith; room = length-replicate 8192 false; marked = unmarked 8192; apart = alone }

  module _ {marks : List Bool} {i : ℕ} (t : Parted rows marks i) where
    pub parted_end : length rows ≤ i → true ≡ every_two clear rows
    parted_end h = let e = take_all i rows h in sym (two_test clear_test (rw e at t.apart))

    module _ (more : i < length rows) where
      abbrev x : Row
      x = row_at rows i

      abbrev end : ℕ
      end = start_of x + size x

      pub parted_overlap : (marks' : List Bool) → Takes marks (start_of x) end false marks' → false ≡ every_two clear rows
      parted_overlap marks' o =
          let w = o.0 in
          by_cases (every_two clear rows)
          (λ e. true-false (sym (t.marked w) ∙ o.2)
          (fails_any (covers w) (all_more (λ r c. clear_apart r x c w o.1) (pairs_behind rows i [] more (clears_fact rows e)))))
          sym

      pub parted_next : {marks' : List Bool} → PartMarked marks (start_of x) end marks' → Parted rows marks' (i + 1)
      parted_next {marks'} k =
          let e = take_more rows i [] more in
          record {
            within = omega arith;
            room = k.long ∙ t.room;
            marked = λ w. let a = any_last (covers w) (take i rows) x in let b = t.marked w in rw (e, a) (k.marked w ∙ rw b);
            apart = rw e (pairs_last t.apart (apart_clears (take i rows) x (λ w h. sym (t.marked w) ∙ k.free w h)));
          }
