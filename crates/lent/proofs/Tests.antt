-- A test of each element of a list, or of every two, and the fact that it decides. Nothing here knows of clauses.
use mathlib.Core.Path.{◌≡◌, refl, sym, ◌∙◌}
use mathlib.Core.Logic.{◌⊎◌, inl, inr, ⊎_elim}
use mathlib.Core.Bool.{Bool, true, false, ◌||◌, or-false as or-none}
use mathlib.Core.List.{List, [], ◌∷◌, ◌++◌, reverse, reverse-cons, reverse-reverse, append-nil}
use Prim.Native.Nat.{ℕ, suc, ◌+◌, ◌<◌, ◌≤◌}
use native.Mathlib.Omega.{arith}
use lib.ListN.{length, get_or, set, take, drop, drop_of_length-le}
use lib.Seq.{split_at, get_or-set_same, get_or-set_other}
use lib.Dec.{eqb}
use borrow.Author.Tests.{eqb-true, eqb-false, eq-eqb}
use Rattle.rules.specs.Lists.{any_passes, all_pass, only}
use Rattle.rules.proofs.Lists.{by_cases, or-false, from_index, and_left, and_right, and_both, or_left, or_right, all_nil, all_cons, all_head, all_tail}
use Rattle.table.specs.Facts.{All, none, both, Pairs, alone, ahead}
use Rattle.table.proofs.Facts.{all_join, all_unreverse, all_more, pairs_before, pairs_put}
use Rattle.lent.specs.State.{every_two}

-- one of two
module _ {P Q : Type 0} where
  pub or_fact : (a b : Bool) → (a ≡ true → P) → (b ≡ true → Q) → (a || b) ≡ true → P ⊎ Q
  or_fact true b f g h = inl (f h)
  or_fact false b f g h = inr (g h)

  pub or_test : (a b : Bool) → (P → a ≡ true) → (Q → b ≡ true) → P ⊎ Q → (a || b) ≡ true
  or_test a b f g h = ⊎_elim (λ p. or_left a b (f p)) (λ q. or_right a b (g q)) h

-- each
module _ {A : Type 0} {p : A → Bool} {P : A → Type 0} where
  pub all_fact : ((x : A) → p x ≡ true → P x) → (xs : List A) → all_pass p xs ≡ true → All P xs
  all_fact f [] h = none
  all_fact f (x ∷ xs) h = both (f x (all_head p x xs h)) (all_fact f xs (all_tail p x xs h))

  pub all_test : {xs : List A} → ((x : A) → P x → p x ≡ true) → All P xs → all_pass p xs ≡ true
  all_test f none = all_nil p
  all_test f (both {x} {xs} h a) = all_cons p x xs (f x h) (all_test f a)

-- every two
module _ {A : Type 0} {p : A → A → Bool} {R : A → A → Type 0} where
  pub two_fact : ((x y : A) → p x y ≡ true → R x y) → (xs : List A) → every_two p xs ≡ true → Pairs R xs
  unfolding every_two
  two_fact f [] h = alone
  two_fact f (x ∷ xs) h =
      ahead (all_fact (f x) xs (and_left (all_pass (p x) xs) (every_two p xs) h)) (two_fact f xs (and_right (all_pass (p x) xs) (every_two p xs) h))

  pub two_test : {xs : List A} → ((x y : A) → R x y → p x y ≡ true) → Pairs R xs → every_two p xs ≡ true
  unfolding every_two
  two_test f alone = refl
  two_test f (ahead {x} a r) = and_both (all_test (f x) a) (two_test f r)

-- ---- a list from its other end

module _ {A : Type 0} where
  pub all_reverse : {P : A → Type 0} {xs : List A} → All P xs → All P (reverse xs)
  all_reverse {xs} a = let e = reverse-reverse xs in all_unreverse (reverse xs) (rw e a)

  pub pairs_reverse : {R S : A → A → Type 0} {xs : List A} → ((x y : A) → R x y → S y x) → Pairs R xs → Pairs S (reverse xs)
  pairs_reverse f alone = alone
  pairs_reverse f (ahead {x} {xs} a r) =
      let e = reverse-cons x xs in
      let n = append-nil (reverse xs) in
      rw e (pairs_put (reverse xs) x [] (rw n (pairs_reverse f r)) (all_more (λ y h. f x y h) (all_reverse a)) none)

-- ---- a list up to an index, and from it on, for a loop that passes it

module _ {A : Type 0} where
  pub all_last : {P : A → Type 0} {xs : List A} {y : A} → All P xs → P y → All P (xs ++ y ∷ [])
  all_last a p = all_join a (both p none)

  pub pairs_last : {R : A → A → Type 0} {xs : List A} {y : A} → Pairs R xs → All (λ x. R x y) xs → Pairs R (xs ++ y ∷ [])
  pairs_last {xs} {y} r a = let e = append-nil xs in pairs_put xs y [] (rw e r) a none

  -- an element, and those before it
  pub pairs_behind : {R : A → A → Type 0} (xs : List A) (i : ℕ) (d : A) → i < length xs → Pairs R xs → All (λ x. R x (get_or xs i d)) (take i xs)
  pairs_behind xs i d h r = let e = split_at xs i d h in pairs_before (take i xs) (get_or xs i d) (drop (suc i) xs) (rw e at r)

  module _ (p : A → Bool) where
    pub any_fails : (xs : List A) → any_passes p xs ≡ false → All (λ x. p x ≡ false) xs
    unfolding any_passes
    any_fails [] h = none
    any_fails (x ∷ xs) h = let r = or-false (p x) (any_passes p xs) h in both r.0 (any_fails xs r.1)

    pub fails_any : {xs : List A} → All (λ x. p x ≡ false) xs → any_passes p xs ≡ false
    unfolding any_passes
    fails_any none = refl
    fails_any (both {x} {xs} e a) = let r = fails_any a in rw (e, r)

    -- how many are left to count
    module _ (xs : List A) (i : ℕ) where
      pub only_passes : (d : A) → i < length xs → p (get_or xs i d) ≡ true → length (only p (drop i xs)) ≡ 1 + length (only p (drop (i + 1) xs))
      unfolding only
      only_passes d h e = rw (from_index xs i d h, e) (omega arith)

      pub only_fails : (d : A) → i < length xs → p (get_or xs i d) ≡ false → length (only p (drop i xs)) ≡ length (only p (drop (i + 1) xs))
      unfolding only
      only_fails d h e = rw (from_index xs i d h, e)

      pub only_past : length xs ≤ i → length (only p (drop i xs)) ≡ 0
      unfolding only
      only_past h = let e = drop_of_length-le xs h in rw e

-- ---- a list of marks

-- one more is marked
pub set_mark : (marks : List Bool) (k m : ℕ) → k < length marks → get_or (set marks k true) m false ≡ (get_or marks m false || eqb m k)
set_mark marks k m h = by_cases (eqb m k)
    (λ e. let q = eqb-true m k e in rw q (get_or-set_same marks k true false h ∙ sym (or_right (get_or marks k false) (eqb k k) (eq-eqb k k refl))))
    (λ e. rw e (get_or-set_other marks k m true false (eqb-false m k e) ∙ sym (or-none (get_or marks m false))))
