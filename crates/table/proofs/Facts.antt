-- Laws of a fact of each element, and of every two. Nothing here knows of clauses.
use mathlib.Core.Path.{◌≡◌, refl}
use mathlib.Core.List.{List, [], ◌∷◌, ◌++◌, map, reverse, reverse-cons}
use Prim.Native.Nat.{ℕ, zero, suc, ◌+◌, ◌<◌}
use native.Mathlib.Omega.{arith}
use native.Mathlib.Nat.{le_of_suc-le-suc, not-suc-le-zero}
use lib.ListN.{length, get_or, drop}
use Rattle.rules.proofs.Lists.{from_index}
use Rattle.table.specs.Facts.{All, none, both, Pairs, alone, ahead, total}

-- ---- each element

module _ {A : Type 0} {P : A → Type 0} where
  pub all_index : {xs : List A} → All P xs → (k : ℕ) (d : A) → k < length xs → P (get_or xs k d)
  all_index none k d h = absurd (not-suc-le-zero h)
  all_index (both p a) zero d h = p
  all_index (both p a) (suc k) d h = all_index a k d (le_of_suc-le-suc h)

  pub all_indexed : (xs : List A) (d : A) → ((k : ℕ) → k < length xs → P (get_or xs k d)) → All P xs
  all_indexed [] d f = none
  all_indexed (x ∷ xs) d f = both (f 0 (omega arith)) (all_indexed xs d (λ k h. f (suc k) (omega arith)))

  pub all_head : {x : A} {xs : List A} → All P (x ∷ xs) → P x
  all_head (both p a) = p

  all_tail : {x : A} {xs : List A} → All P (x ∷ xs) → All P xs
  all_tail (both p a) = a

  pub all_join : {xs ys : List A} → All P xs → All P ys → All P (xs ++ ys)
  all_join none b = b
  all_join (both p a) b = both p (all_join a b)

  pub all_left : (xs ys : List A) → All P (xs ++ ys) → All P xs
  all_left [] ys a = none
  all_left (x ∷ xs) ys (both p a) = both p (all_left xs ys a)

  pub all_right : (xs ys : List A) → All P (xs ++ ys) → All P ys
  all_right [] ys a = a
  all_right (x ∷ xs) ys (both p a) = all_right xs ys a

  pub all_here : (xs : List A) (y : A) (ys : List A) → All P (xs ++ y ∷ ys) → P y
  all_here xs y ys a = all_head (all_right xs (y ∷ ys) a)

  -- one element goes
  pub all_cut : (xs : List A) (y : A) (ys : List A) → All P (xs ++ y ∷ ys) → All P (xs ++ ys)
  all_cut xs y ys a = all_join (all_left xs (y ∷ ys) a) (all_tail (all_right xs (y ∷ ys) a))

  -- one element comes
  pub all_put : (xs : List A) (z : A) (ys : List A) → All P (xs ++ ys) → P z → All P (xs ++ z ∷ ys)
  all_put xs z ys a p = all_join (all_left xs ys a) (both p (all_right xs ys a))

  pub all_unreverse : (xs : List A) → All P (reverse xs) → All P xs
  all_unreverse [] a = none
  all_unreverse (x ∷ xs) a =
      let b : All P (reverse xs ++ (x ∷ [])) = rw (reverse-cons x xs) at a in
      both (all_here (reverse xs) x [] b) (all_unreverse xs (all_left (reverse xs) (x ∷ []) b))

  pub all_more : {Q : A → Type 0} {xs : List A} → ((x : A) → P x → Q x) → All P xs → All Q xs
  all_more f none = none
  all_more f (both {x} p a) = both (f x p) (all_more f a)

  pub all_both : {Q R : A → Type 0} {xs : List A} → ((x : A) → P x → Q x → R x) → All P xs → All Q xs → All R xs
  all_both f none b = none
  all_both f (both {x} p a) (both q b) = both (f x p q) (all_both f a b)

pub all_map : {A B : Type 0} {P : B → Type 0} (f : A → B) (xs : List A) → All (λ x. P (f x)) xs → All P (map f xs)
all_map f [] a = none
all_map f (x ∷ xs) (both p a) = both p (all_map f xs a)

pub all_unmap : {A B : Type 0} {P : B → Type 0} (f : A → B) (xs : List A) → All P (map f xs) → All (λ x. P (f x)) xs
all_unmap f [] a = none
all_unmap f (x ∷ xs) (both p a) = both p (all_unmap f xs a)

pub map_same : {A B : Type 0} {f g : A → B} {xs : List A} → All (λ x. f x ≡ g x) xs → map f xs ≡ map g xs
map_same none = refl
map_same {f} {g} (both {x} {xs} p a) = let t : map f xs ≡ map g xs = map_same a in rw (p, t)

-- ---- every two elements

module _ {A : Type 0} {R : A → A → Type 0} where
  pub pairs_index : {xs : List A} → Pairs R xs → (j k : ℕ) (d : A) → j < k → k < length xs → R (get_or xs j d) (get_or xs k d)
  pairs_index alone j k d h l = absurd (not-suc-le-zero l)
  pairs_index (ahead a r) j zero d h l = absurd (not-suc-le-zero h)
  pairs_index (ahead a r) zero (suc k) d h l = all_index a k d (le_of_suc-le-suc l)
  pairs_index (ahead a r) (suc j) (suc k) d h l = pairs_index r j k d (le_of_suc-le-suc h) (le_of_suc-le-suc l)

  -- what stands before an element, and what stands behind it
  pub pairs_before : (xs : List A) (y : A) (ys : List A) → Pairs R (xs ++ y ∷ ys) → All (λ x. R x y) xs
  pairs_before [] y ys r = none
  pairs_before (x ∷ xs) y ys (ahead a r) = both (all_here xs y ys a) (pairs_before xs y ys r)

  pub pairs_after : (xs : List A) (y : A) (ys : List A) → Pairs R (xs ++ y ∷ ys) → All (R y) ys
  pairs_after [] y ys (ahead a r) = a
  pairs_after (x ∷ xs) y ys (ahead a r) = pairs_after xs y ys r

  -- one element goes
  pub pairs_cut : (xs : List A) (y : A) (ys : List A) → Pairs R (xs ++ y ∷ ys) → Pairs R (xs ++ ys)
  pairs_cut [] y ys (ahead a r) = r
  pairs_cut (x ∷ xs) y ys (ahead a r) = ahead (all_cut xs y ys a) (pairs_cut xs y ys r)

  -- one element comes
  pub pairs_put : (xs : List A) (z : A) (ys : List A) → Pairs R (xs ++ ys) → All (λ x. R x z) xs → All (R z) ys → Pairs R (xs ++ z ∷ ys)
  pairs_put [] z ys r b a = ahead a r
  pairs_put (x ∷ xs) z ys (ahead h r) (both p b) a = ahead (all_put xs z ys h p) (pairs_put xs z ys r b a)

-- ---- sums

module _ {A : Type 0} (f : A → ℕ) where
  pub total_join : (xs ys : List A) → total f (xs ++ ys) ≡ total f xs + total f ys
  total_join [] ys = omega arith
  total_join (x ∷ xs) ys = omega (arith, total_join xs ys)

  pub total_cut : (xs : List A) (y : A) (ys : List A) → total f (xs ++ y ∷ ys) ≡ f y + total f (xs ++ ys)
  total_cut xs y ys = omega (arith, total_join xs (y ∷ ys), total_join xs ys)

  -- what is left from an index on, for a loop that passes the list
  pub total_on : (xs : List A) (i : ℕ) (d : A) → i < length xs → total f (drop i xs) ≡ f (get_or xs i d) + total f (drop (i + 1) xs)
  total_on xs i d h = let e = from_index xs i d h in rw e
