-- Slices after a store, a part of one, and what the small writers leave. Nothing here knows of clauses.
use mathlib.Core.Path.{◌≡◌, refl, sym, ◌∙◌, ap}
use mathlib.Core.Logic.{⊎_elim}
use mathlib.Core.List.Memᴰ
use mathlib.Core.List.{List, [], ◌∷◌, ◌++◌, reverse, reverse-cons, Memᴰ}
use mathlib.Core.List.{append_assoc, append-nil}
use Prim.Native.Nat.{ℕ, zero, suc, ◌+◌, ◌-◌, ◌<◌, ◌≤◌}
use native.Mathlib.Nat.{add-sub_of_le}
use native.Mathlib.Numerals.{add-one}
use native.Mathlib.Omega.{arith}
use lib.ListN.{length, get_or, set, take, drop, length-append, length-drop}
use lib.Seq.{length-take-le, take-nil, take_all, take-length, take-append-le, take-append_seam, drop-length, take-suc, drop-cons, take_at, drop_at, set_at}
use lib.Seq.{append_snoc, take-take, drop-drop, take-suc-set, take-set-lt, set_split}
use borrow.Rule.Slice.PartMut.{mid_of, post_of, put_mid}
use Rattle.table_slices.specs.Writes.{over, written, closed, Among}

module _ {A : Type 0} where
  drop_take : (i n : ℕ) (l : List A) → drop i (take n l) ≡ take (n - i) (drop i l)
  drop_take zero n l = let e : n - zero ≡ n = omega arith in rw e
  drop_take (suc i) n [] = rw (take-nil n, take-nil (n - suc i))
  drop_take (suc i) zero (x ∷ xs) = let e : zero - suc i ≡ zero = omega arith in rw e
  drop_take (suc i) (suc n) (x ∷ xs) = let e : suc n - suc i ≡ n - i = omega arith in rw e (drop_take i n xs)

  -- ---- a part of lists that agree below u

  part_within : (l : List A) (u s n : ℕ) → s + n ≤ u → take n (drop s (take u l)) ≡ take n (drop s l)
  part_within l u s n h = ap (take n) (drop_take s u l) ∙ take-take n (u - s) (drop s l) (omega arith)

  pub part_same : (l k : List A) (u s n : ℕ) → take u k ≡ take u l → s + n ≤ u → take n (drop s k) ≡ take n (drop s l)
  part_same l k u s n e h = sym (part_within k u s n h) ∙ ap (λ (z : List A). take n (drop s z)) e ∙ part_within l u s n h

  -- a list split in two ways at one place
  pub split_same : (us vs : List A) (e d : A) (fs gs : List A) → us ++ e ∷ fs ≡ vs ++ d ∷ gs → length us ≡ length vs → (us ≡ vs) × (e ≡ d) × (fs ≡ gs)
  split_same [] [] e d fs gs p l = (refl, cc, cc)
  split_same [] (v ∷ vs) e d fs gs p l = absurd (omega arith)
  split_same (u ∷ us) [] e d fs gs p l = absurd (omega arith)
  split_same (u ∷ us) (v ∷ vs) e d fs gs p l =
      let h : u ≡ v = cc in
      let t : us ++ e ∷ fs ≡ vs ++ d ∷ gs = cc in
      let r = split_same us vs e d fs gs t (omega arith) in
      let z = r.0 in
      (cc, r.1, r.2)

  -- ---- the first n, and one more; and after a store

  pub taken_on : (l : List A) (i : ℕ) (d : A) → i < length l → take (i + 1) l ≡ take i l ++ get_or l i d ∷ []
  taken_on l i d h = rw add-one (take-suc l i d h)

  pub take_next : (l : List A) (n : ℕ) (x : A) → n < length l → take (n + 1) (set l n x) ≡ take n l ++ x ∷ []
  take_next l n x h = rw add-one (take-suc-set l n x h)

  pub take_swap : (l : List A) (i n : ℕ) (x : A) → i < n → n ≤ length l → take n (set l i x) ≡ take i (take n l) ++ x ∷ drop (suc i) (take n l)
  take_swap l i n x h k = take-set-lt n l i x h ∙ set_split (take n l) i x (let e = length-take-le n l k in omega arith)

  -- ---- over, written

  -- a turn of the loop that copies
  pub over_next : (d s : List A) (j : ℕ) (z : A) → j < length d → j < length s → set (take j s ++ drop j d) j (get_or s j z) ≡ take (j + 1) s ++ drop (j + 1) d
  over_next d s j z hd hs =
      ap (λ (r : List A). set (take j s ++ r) j (get_or s j z)) (drop-cons d j z hd)
      ∙ set_at (take j s) (get_or d j z) (drop (suc j) d) (get_or s j z) j (length-take-le j s (omega arith))
      ∙ sym (append_snoc (take j s) (get_or s j z) (drop (suc j) d))
      ∙ ap (λ (r : List A). r ++ drop (suc j) d) (sym (take-suc s j z hs))
      ∙ ap (λ (k : ℕ). take k s ++ drop k d) (sym (add-one j))

  pub over_last : (d s : List A) (j : ℕ) → j ≡ length s → take j s ++ drop j d ≡ over d s
  over_last d s j e = rw (e, take-length s)

  -- what goes over the front of a list is its front
  pub take_over : (d s : List A) (n : ℕ) → n ≤ length s → take n (over d (take n s)) ≡ take n s
  take_over d s n h =
      let l = length-take-le n s h in
      take-append-le n (take n s) (drop (length (take n s)) d) (omega arith) ∙ take_all n (take n s) (omega arith)

  pub length_over : (d s : List A) → length s ≤ length d → length (over d s) ≡ length d
  length_over d s h = omega (arith, length-append s (drop (length s) d), length-drop (length s) d)

  -- `&z[0..n]`, of what was written over the front
  pub over_front : (s y : List A) {z c : List A} {n : ℕ} → z ≡ s ++ y → s ≡ c → n ≡ length c → take (n - 0) z ≡ c
  over_front s y {c} {n} e h k = let w : n - 0 ≡ length c = omega arith in rw (w, e, h) (take-append_seam c y)

  pub length_tail : (l : List A) (u : ℕ) → length (mid_of u (length l - u) l) ≡ length l - u
  length_tail l u = length-take-le (length l - u) (drop u l) (omega (arith, length-drop u l))

  -- `&mut l[u..]`, lent to one who writes s over it
  pub tail_written : (l s : List A) (u : ℕ) → u ≤ length l → (z : List A) → z ≡ over (mid_of u (length l - u) l) s → put_mid u (length l - u) l z ≡ written l u s
  tail_written l s u h z e =
      let mid : mid_of u (length l - u) l ≡ drop u l = take_all (length l - u) (drop u l) (omega (arith, length-drop u l)) in
      let post : post_of u (length l - u) l ≡ [] = drop-drop (length l - u) u l ∙ ap (λ (k : ℕ). drop k l) (add-sub_of_le h) ∙ drop-length l in
      ap (λ (r : List A). take u l ++ (z ++ r)) post ∙ ap (λ (r : List A). take u l ++ r) (append-nil z ∙ e) ∙ ap (λ (r : List A). take u l ++ over r s) mid

  module _ (d : List A) (at : ℕ) (s : List A) (h : at ≤ length d) where
    pub written_before : take at (written d at s) ≡ take at d
    written_before = take_at (take at d) (over (drop at d) s) at (length-take-le at d h)

    written_from : drop at (written d at s) ≡ over (drop at d) s
    written_from = drop_at (take at d) (over (drop at d) s) at (length-take-le at d h)

    pub written_part : take (length s) (drop at (written d at s)) ≡ s
    written_part = ap (take (length s)) written_from ∙ take-append_seam s (drop (length s) (drop at d))

    pub length_written : at + length s ≤ length d → length (written d at s) ≡ length d
    length_written k =
        omega (
          arith,
          length-append (take at d) (over (drop at d) s),
          length-take-le at d h,
          length_over (drop at d) s (omega (arith, length-drop at d)),
          length-drop at d,
        )

  -- ---- closed

  module _ (l : List A) (i : ℕ) where
    -- what stands before j
    abbrev front : ℕ → List A
    front j = take i l ++ take (j - i) (drop (suc i) l)

    closed_is : (j : ℕ) → closed l i j ≡ front j ++ drop j l
    closed_is j = sym (append_assoc (take i l) (take (j - i) (drop (suc i) l)) (drop j l))

    length_front : (j : ℕ) → i ≤ j → j < length l → length (front j) ≡ j
    length_front j ij jl =
        let a : length (take i l) ≡ i = length-take-le i l (omega arith) in
        let b : length (take (j - i) (drop (suc i) l)) ≡ j - i = length-take-le (j - i) (drop (suc i) l) (omega (arith, length-drop (suc i) l)) in
        omega (arith, length-append (take i l) (take (j - i) (drop (suc i) l)))

    pub length_closed : (j : ℕ) → i ≤ j → j < length l → length (closed l i j) ≡ length l
    length_closed j ij jl = ap length (closed_is j) ∙ omega (arith, length-append (front j) (drop j l), length_front j ij jl, length-drop j l)

    -- the first n, with the one at i gone
    pub take_closed : (n : ℕ) → i < n → n ≤ length l → take (n - 1) (closed l i (n - 1)) ≡ take i (take n l) ++ drop (suc i) (take n l)
    take_closed n h k =
        let j : n - 1 - i ≡ n - suc i = omega arith in
        let a = take-take i n l (omega arith) in
        let b = drop_take (suc i) n l in
        ap (take (n - 1)) (closed_is (n - 1)) ∙ take_at (front (n - 1)) (drop (n - 1) l) (n - 1) (length_front (n - 1) (omega arith) (omega arith))
        ∙ rw (a, b, j)

-- ---- the search for a number that is there

pub in_reverse : {A : Type 0} {x : A} (l : List A) → Memᴰ x (reverse l) → Memᴰ x l
in_reverse [] m = m
in_reverse {x} (y ∷ l) m = ⊎_elim
    (λ n. Memᴰ.tail (in_reverse l n))
    (λ n. Memᴰ.head (Memᴰ.eq_of_singleton n))
    (Memᴰ.append_cases (reverse l) (rw reverse-cons at m))

pub among_of : {i : ℕ} (n : ℕ) (ids : List ℕ) → Memᴰ i (take n ids) → Among ids n i
among_of zero ids m = absurd (Memᴰ.not-nil m)
among_of (suc n) [] m = absurd (Memᴰ.not-nil m)
among_of {i} (suc n) (j ∷ ids) m = ⊎_elim
    (λ e. record { index = 0; low = omega arith; named = sym e })
    (λ (k : Memᴰ i (take n ids)). let a : Among ids n i = among_of n ids k in let l = a.low in record { index = suc a.index; low = omega arith; named = a.named })
    (Memᴰ.cases_cons m)
