-- Laws of the tests over lists, for any length. Nothing here knows of literals.
use mathlib.Core.Path.{◌≡◌, refl, sym, ◌∙◌}
use mathlib.Core.Logic.{⊎_elim}
use Prim.Native.Nat.{ℕ, zero, suc, ◌+◌, ◌≤◌, ◌<◌}
use native.Mathlib.Numerals.{add-one}
use native.Mathlib.Nat.{le_of_suc-le-suc, not-suc-le-zero}
use lib.ListN.{length, get_or, drop, drop_of_length-le}
use lib.Seq.{drop-cons}
use Rattle.rules.specs.Lists.{any_passes, all_pass, only}
use mathlib.Core.Bool.{Bool, true, false, not, ◌&&◌, ◌||◌, true≢false, false≢true}
use mathlib.Core.List.Memᴰ
use mathlib.Core.List.{List, [], ◌∷◌, ◌++◌, Memᴰ}

-- a proof by cases on a test, with the equation of each case
pub by_cases {ℓ} : {P : Type ℓ} (b : Bool) → (b ≡ true → P) → (b ≡ false → P) → P
by_cases true f g = f refl
by_cases false f g = g refl

pub true-false {ℓ} : {P : Type ℓ} {b : Bool} → b ≡ true → b ≡ false → P
true-false t f = absurd (true≢false (sym t ∙ f))

pub not-true : {b : Bool} → not b ≡ true → b ≡ false
not-true {b = true} h = absurd (false≢true h)
not-true {b = false} h = refl

pub not-false : {b : Bool} → not b ≡ false → b ≡ true
not-false {b = true} h = refl
not-false {b = false} h = absurd (true≢false h)

pub or-false : (a b : Bool) → (a || b) ≡ false → (a ≡ false) × (b ≡ false)
or-false true b h = absurd (true≢false h)
or-false false b h = (refl, h)

pub and_left : (a b : Bool) → (a && b) ≡ true → a ≡ true
and_left true b h = refl
and_left false b h = h

pub and_right : (a b : Bool) → (a && b) ≡ true → b ≡ true
and_right true b h = h
and_right false b h = absurd (false≢true h)

pub and_both : {a b : Bool} → a ≡ true → b ≡ true → (a && b) ≡ true
and_both {a = true} s h = h
and_both {a = false} s h = s

pub or_left : (a b : Bool) → a ≡ true → (a || b) ≡ true
or_left true b h = refl
or_left false b h = absurd (false≢true h)

pub or_right : (a b : Bool) → b ≡ true → (a || b) ≡ true
or_right true b h = refl
or_right false b h = h

module _ {A : Type 0} where
  -- a list from an index on, for a loop that passes it
  pub from_index : (xs : List A) (i : ℕ) (d : A) → i < length xs → drop i xs ≡ get_or xs i d ∷ drop (i + 1) xs
  from_index xs i d h = rw (add-one, drop-cons xs i d)

  module _ (p : A → Bool) where
    pub any_in : {x : A} {xs : List A} → Memᴰ x xs → p x ≡ true → any_passes p xs ≡ true
    unfolding any_passes
    any_in (Memᴰ.head {x = y} {xs = ys} e) h = or_left (p y) (any_passes p ys) (rw (← e) h)
    any_in (Memᴰ.tail {x = y} {xs = ys} m) h = or_right (p y) (any_passes p ys) (any_in m h)

    pub any_find : (xs : List A) → any_passes p xs ≡ true → (x : A) × Memᴰ x xs × (p x ≡ true)
    unfolding any_passes
    any_find [] h = absurd (false≢true h)
    any_find (x ∷ xs) h = by_cases (p x) (λ e. (x, Memᴰ.head refl, e)) λ e.
        let r = any_find xs (rw e at h) in
        (r.0, Memᴰ.tail r.1, r.2)

    pub all_nil : all_pass p [] ≡ true
    unfolding all_pass
    all_nil = refl

    pub all_cons : (x : A) (xs : List A) → p x ≡ true → all_pass p xs ≡ true → all_pass p (x ∷ xs) ≡ true
    unfolding all_pass
    all_cons x xs h k = and_both h k

    pub all_head : (x : A) (xs : List A) → all_pass p (x ∷ xs) ≡ true → p x ≡ true
    unfolding all_pass
    all_head x xs h = and_left (p x) (all_pass p xs) h

    pub all_tail : (x : A) (xs : List A) → all_pass p (x ∷ xs) ≡ true → all_pass p xs ≡ true
    unfolding all_pass
    all_tail x xs h = and_right (p x) (all_pass p xs) h

    pub all_at : {x : A} {xs : List A} → all_pass p xs ≡ true → Memᴰ x xs → p x ≡ true
    unfolding all_pass
    all_at h (Memᴰ.head {x = y} {xs = ys} e) = rw e (and_left (p y) (all_pass p ys) h)
    all_at h (Memᴰ.tail {x = y} {xs = ys} m) = all_at (and_right (p y) (all_pass p ys) h) m

    pub all_of : (xs : List A) → ((x : A) → Memᴰ x xs → p x ≡ true) → all_pass p xs ≡ true
    unfolding all_pass
    all_of [] f = refl
    all_of (x ∷ xs) f = and_both (f x (Memᴰ.head refl)) (all_of xs (λ y m. f y (Memᴰ.tail m)))

    pub only_in : {x : A} {xs : List A} → Memᴰ x xs → p x ≡ true → Memᴰ x (only p xs)
    unfolding only
    only_in {x} (Memᴰ.head {x = y} e) h = let k : p y ≡ true = rw (← e) h in rw k (Memᴰ.head e)
    only_in {x} (Memᴰ.tail {x = y} {xs = ys} m) h =
        let r = only_in m h in
        by_cases (p y) (λ e. rw e (Memᴰ.tail r)) (λ e. rw e r)

    pub only_out : {x : A} (xs : List A) → Memᴰ x (only p xs) → Memᴰ x xs × (p x ≡ true)
    unfolding only
    only_out [] m = absurd (Memᴰ.not-nil m)
    only_out {x} (y ∷ xs) m = by_cases (p y)
        (λ e. ⊎_elim (λ q. (Memᴰ.head q, rw q e)) (λ n. let r = only_out xs n in (Memᴰ.tail r.0, r.1)) (Memᴰ.cases_cons (rw e at m)))
        (λ e. let r = only_out xs (rw e at m) in (Memᴰ.tail r.0, r.1))

    pub any_none : {x : A} {xs : List A} → any_passes p xs ≡ false → Memᴰ x xs → p x ≡ false
    any_none {x} f m = by_cases (p x) (λ t. true-false (any_in m t) f) (λ e. e)

    pub any_last : (xs : List A) (y : A) → any_passes p (xs ++ y ∷ []) ≡ (any_passes p xs || p y)
    unfolding any_passes
    any_last [] y = by_cases (p y) (λ e. rw e) (λ e. rw e)
    any_last (x ∷ xs) y = let r = any_last xs y in by_cases (p x) (λ e. rw e) (λ e. rw (e, r))

    pub all_append : (xs ys : List A) → all_pass p xs ≡ true → all_pass p ys ≡ true → all_pass p (xs ++ ys) ≡ true
    unfolding all_pass
    all_append [] ys h k = k
    all_append (x ∷ xs) ys h k = and_both (and_left (p x) (all_pass p xs) h) (all_append xs ys (and_right (p x) (all_pass p xs) h) k)

    -- what is left of a list from an index on, for a loop that passes it
    pub any_on : (xs : List A) (i : ℕ) (d : A) → i < length xs → any_passes p (drop i xs) ≡ (p (get_or xs i d) || any_passes p (drop (i + 1) xs))
    unfolding any_passes
    any_on xs i d h = rw (add-one, drop-cons xs i d)

    pub any_past : (xs : List A) (i : ℕ) → length xs ≤ i → any_passes p (drop i xs) ≡ false
    unfolding any_passes
    any_past xs i h = rw drop_of_length-le

    pub all_on : (xs : List A) (i : ℕ) (d : A) → i < length xs → all_pass p (drop i xs) ≡ (p (get_or xs i d) && all_pass p (drop (i + 1) xs))
    unfolding all_pass
    all_on xs i d h = let e = from_index xs i d h in rw e

    pub all_past : (xs : List A) (i : ℕ) → length xs ≤ i → all_pass p (drop i xs) ≡ true
    unfolding all_pass
    all_past xs i h = rw drop_of_length-le

    pub all_index : (xs : List A) (i : ℕ) (d : A) → i < length xs → all_pass p xs ≡ true → p (get_or xs i d) ≡ true
    all_index [] i d h a = absurd (not-suc-le-zero h)
    all_index (x ∷ xs) zero d h a = all_head x xs a
    all_index (x ∷ xs) (suc i) d h a = all_index xs i d (le_of_suc-le-suc h) (all_tail x xs a)

    pub all_split : (xs ys : List A) → all_pass p (xs ++ ys) ≡ true → (all_pass p xs ≡ true) × (all_pass p ys ≡ true)
    unfolding all_pass
    all_split [] ys h = (refl, h)
    all_split (x ∷ xs) ys h =
        let r = all_split xs ys (and_right (p x) (all_pass p (xs ++ ys)) h) in
        (and_both (and_left (p x) (all_pass p (xs ++ ys)) h) r.0, r.1)
