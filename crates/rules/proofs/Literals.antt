-- Laws of literals, of sets of them, and of assignments that make them true.
use mathlib.Core.Path.{◌≡◌, refl, sym, ◌∙◌, ap}
use mathlib.Core.Bool.{Bool, true, false, not, ◌&&◌, ◌||◌, false≢true}
use mathlib.Core.List.Memᴰ
use mathlib.Core.List.{List, [], ◌∷◌, Memᴰ}
use Prim.Native.Nat.{ℕ, zero, suc}
use lib.Dec.{eqb, eqb-suc-suc, eqb-zero-suc}
use lib.IntN.{ℤ, pos, negsuc, neg_ℤ, nat_abs}
use borrow.Author.Tests.{eqb-true, eqb-false, eq-eqb, ne_eqb}
use Rattle.rules.specs.Lists.{any_passes, all_pass}
use Rattle.rules.specs.Terms.{same, Literals, in_range, holds, opposes, mentions, distinct, Assignment, upd, lit, sat}
use Rattle.rules.specs.Frames.{put, make}
use Rattle.rules.proofs.Lists.{by_cases, true-false, not-true, not-false, or-false, and_left, and_right, any_in, any_find, any_none, all_head, all_tail}

pub same_eq : (m l : ℤ) → same m l ≡ true → m ≡ l
same_eq (pos a) (pos b) h = ap pos (eqb-true a b h)
same_eq (pos a) (negsuc b) h = absurd (false≢true h)
same_eq (negsuc a) (pos b) h = absurd (false≢true h)
same_eq (negsuc a) (negsuc b) h = ap negsuc (eqb-true a b h)

pub same_refl : (l : ℤ) → same l l ≡ true
same_refl (pos a) = eq-eqb a a refl
same_refl (negsuc a) = eq-eqb a a refl

pub holds_in : {c : List ℤ} {l : ℤ} → Memᴰ l c → holds c l ≡ true
holds_in {l} m = any_in (λ x. same x l) m (same_refl l)

pub in_holds : (c : List ℤ) (l : ℤ) → holds c l ≡ true → Memᴰ l c
in_holds c l h = let r = any_find (λ x. same x l) c h in Memᴰ.cast (sym (same_eq r.0 l r.2)) r.1

pub eqb_sym : (a b : ℕ) → eqb a b ≡ eqb b a
eqb_sym a b = by_cases (eqb a b)
    (λ e. rw (e, eq-eqb b a (sym (eqb-true a b e))))
    (λ e. rw (e, ne_eqb b a (λ q. eqb-false a b e (sym q))))

-- ---- opposites

-- m is the opposite of l
abbrev pub clash : ℤ → ℤ → Bool
clash m l = opposes (same m) l

pub clash_sym : (m l : ℤ) → clash m l ≡ clash l m
clash_sym (pos zero) (pos zero) = refl
clash_sym (pos zero) (pos (suc b)) = refl
clash_sym (pos zero) (negsuc b) = eqb-zero-suc b
clash_sym (pos (suc a)) (pos zero) = refl
clash_sym (pos (suc a)) (pos (suc b)) = refl
clash_sym (pos (suc a)) (negsuc b) = eqb-suc-suc a b ∙ eqb_sym a b
clash_sym (negsuc a) (pos zero) = sym (eqb-zero-suc a)
clash_sym (negsuc a) (pos (suc b)) = eqb_sym a b ∙ sym (eqb-suc-suc b a)
clash_sym (negsuc a) (negsuc b) = refl

-- the opposites of a set with one literal more
pub opposes_also : (x : ℤ) (S : Literals) (l : ℤ) → opposes (λ m. same x m || S m) l ≡ (clash x l || opposes S l)
opposes_also x S (pos zero) = refl
opposes_also x S (pos (suc n)) = refl
opposes_also x S (negsuc n) = refl

pub opposes_none : (l : ℤ) → opposes (λ m. false) l ≡ false
opposes_none (pos zero) = refl
opposes_none (pos (suc n)) = refl
opposes_none (negsuc n) = refl

-- a literal and its opposite are not both true
pub opposite_false : (α : Assignment) (l : ℤ) → lit α l ≡ true → lit α (neg_ℤ l) ≡ false
unfolding lit
opposite_false α (pos zero) h = refl
opposite_false α (pos (suc n)) h = rw h
opposite_false α (negsuc n) h = not-true h

-- where no literal of the set is true, none whose opposite it holds is false
pub opposed_true : (α : Assignment) (S : Literals) (l : ℤ) → ((m : ℤ) → S m ≡ true → lit α m ≡ false) → opposes S l ≡ true → lit α l ≡ true
unfolding lit
opposed_true α S (pos zero) f h = h
opposed_true α S (pos (suc n)) f h = not-false (f (negsuc n) h)
opposed_true α S (negsuc n) f h = let e : α (suc n) ≡ false = f (pos (suc n)) h in rw e

-- a list with a literal and its opposite has a true literal
pub sat_opposed : (α : Assignment) (c : List ℤ) → any_passes (opposes (holds c)) c ≡ true → sat α c ≡ true
sat_opposed α c h =
    let r = any_find (opposes (holds c)) c h in
    by_cases (sat α c) (λ t. t) λ f.
    any_in (lit α) r.1 (opposed_true α (holds c) r.0 (λ m k. any_none (lit α) f (in_holds c m k)) r.2)

-- ---- a literal becomes true

upd_self : (α : Assignment) (v : ℕ) (b : Bool) → upd α v b v ≡ b
unfolding upd
upd_self α v b = rw (eq-eqb v v refl)

pub upd_other : (α : Assignment) (v : ℕ) (b : Bool) (u : ℕ) → eqb v u ≡ false → upd α v b u ≡ α u
unfolding upd
upd_other α v b u e = rw e

-- what has the value already keeps it
upd_keeps : (α : Assignment) (v u : ℕ) (b : Bool) → α u ≡ b → upd α v b u ≡ b
unfolding upd
upd_keeps α v u b h = by_cases (eqb v u) (λ e. rw e) (λ e. rw e h)

-- every true literal but its opposite stays true
put_keeps : (α : Assignment) (x l : ℤ) → clash x l ≡ false → lit α l ≡ true → lit (put α x) l ≡ true
unfolding lit put
put_keeps α x (pos zero) o h = h
put_keeps α (pos zero) (pos (suc b)) o h = h
put_keeps α (pos zero) (negsuc b) o h = h
put_keeps α (pos (suc a)) (pos (suc b)) o h = upd_keeps α (suc a) (suc b) true h
put_keeps α (pos (suc a)) (negsuc b) o h = rw (upd_other α (suc a) true (suc b) o) h
put_keeps α (negsuc a) (pos (suc b)) o h = upd_other α (suc a) false (suc b) (eqb-suc-suc a b ∙ o) ∙ h
put_keeps α (negsuc a) (negsuc b) o h = rw (upd_keeps α (suc a) (suc b) false (not-true h))

put_self : (vars : ℕ) (α : Assignment) (l : ℤ) → in_range vars l ≡ true → lit (put α l) l ≡ true
unfolding lit put
put_self vars α (pos zero) h = h
put_self vars α (pos (suc n)) h = upd_self α (suc n) true
put_self vars α (negsuc n) h = rw (upd_self α (suc n) false)

-- all the literals of w become true: a true literal whose opposite is not among them stays true
pub make_keeps : (w : List ℤ) (α : Assignment) (l : ℤ) → opposes (holds w) l ≡ false → lit α l ≡ true → lit (make α w) l ≡ true
unfolding any_passes make
make_keeps [] α l o h = h
make_keeps (x ∷ w) α l o h =
    let r = or-false (clash x l) (opposes (holds w) l) (sym (opposes_also x (holds w) l) ∙ o) in
    make_keeps w (put α x) l r.1 (put_keeps α x l r.0 h)

-- no literal stands beside its opposite
unfoldable pub apart : List ℤ → Bool
apart [] = true
apart (l ∷ c) = not (opposes (holds c) l) && apart c

-- they are true then: here `apart` is needed, and that 0 is not among them
pub make_true : (vars : ℕ) (l : ℤ) (w : List ℤ) (α : Assignment) → all_pass (in_range vars) w ≡ true → apart w ≡ true → Memᴰ l w → lit (make α w) l ≡ true
unfolding make apart
make_true vars l w α r a (Memᴰ.head {x = x} {xs = v} e) =
    let o = not-true (and_left (not (opposes (holds v) x)) (apart v) a) in
    rw e (make_keeps v (put α x) x o (put_self vars α x (all_head (in_range vars) _ _ r)))
make_true vars l w α r a (Memᴰ.tail {x = x} {xs = v} m) =
    make_true vars l v (put α x) (all_tail (in_range vars) _ _ r) (and_right (not (opposes (holds v) x)) (apart v) a) m

put_other : (α : Assignment) (l : ℤ) (v : ℕ) → eqb (nat_abs l) v ≡ false → put α l v ≡ α v
unfolding put
put_other α (pos zero) v h = refl
put_other α (pos (suc n)) v h = upd_other α (suc n) true v h
put_other α (negsuc n) v h = upd_other α (suc n) false v h

-- other variables keep their values
pub make_other : (w : List ℤ) (α : Assignment) (v : ℕ) → mentions w v ≡ false → make α w v ≡ α v
unfolding make any_passes
make_other [] α v h = refl
make_other (l ∷ w) α v h =
    let r = or-false (eqb (nat_abs l) v) (mentions w v) h in
    make_other w (put α l) v r.1 ∙ put_other α l v r.0

-- ---- lists with no variable twice

same_variable : (m l : ℤ) → same m l ≡ true → eqb (nat_abs m) (nat_abs l) ≡ true
same_variable m l h = eq-eqb (nat_abs m) (nat_abs l) (ap nat_abs (same_eq m l h))

-- the opposite has the same variable
pub opposite_mentioned : (c : List ℤ) (l : ℤ) → opposes (holds c) l ≡ true → mentions c (nat_abs l) ≡ true
opposite_mentioned c (pos zero) h = absurd (false≢true h)
opposite_mentioned c (pos (suc n)) h = let r = any_find (λ m. same m (negsuc n)) c h in any_in _ r.1 (same_variable r.0 (negsuc n) r.2)
opposite_mentioned c (negsuc n) h = let r = any_find (λ m. same m (pos (suc n))) c h in any_in _ r.1 (same_variable r.0 (pos (suc n)) r.2)

pub distinct_apart : (c : List ℤ) → distinct c ≡ true → apart c ≡ true
unfolding distinct apart
distinct_apart [] h = refl
distinct_apart (l ∷ c) h =
    let n = not-true (and_left (not (mentions c (nat_abs l))) (distinct c) h) in
    by_cases (opposes (holds c) l)
    (λ e. true-false (opposite_mentioned c l e) n)
    (λ e. rw e (distinct_apart c (and_right (not (mentions c (nat_abs l))) (distinct c) h)))
