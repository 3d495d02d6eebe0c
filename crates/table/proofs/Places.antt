-- Laws of places by rising id, where a clause comes by `place` and goes by `without`.
use mathlib.Core.Path.{◌≡◌, refl, sym, ◌∙◌}
use mathlib.Core.Bool.{true, false, ◌||◌}
use mathlib.Core.List.{List, [], ◌∷◌}
use Prim.Native.Nat.{ℕ, ◌+◌, ◌≤◌}
use native.Mathlib.Omega.{arith}
use lib.Dec.{eqb, ltb}
use lib.ListN.{length}
use borrow.Author.Tests.{ltb-true, eqb-true, lt-ltb, eq-eqb}
use Rattle.rules.specs.Lists.{any_passes, all_pass}
use Rattle.rules.specs.Terms.{Held, has, room, tally, rising}
use Rattle.rules.specs.Frames.{without, place}
use Rattle.rules.proofs.Lists.{by_cases, all_head}
use Rattle.rules.proofs.Places.{later, tally_place, length_place, room_place, rising_each, rising_place}
use Rattle.table.specs.Spelled.{by_id}

has_place : (x : Held) (hs : List Held) (i : ℕ) → has (place x hs) i ≡ (eqb x.id i || has hs i)
unfolding place any_passes
has_place x [] i = refl
has_place x (h ∷ hs) i =
    let r = has_place x hs i in
    by_cases (ltb x.id h.id) (λ e. rw e) (λ e. by_cases (eqb x.id i)
    (λ q. by_cases (eqb h.id i) (λ p. rw (e, q, p)) (λ p. rw (e, q, p, r, q)))
    (λ q. rw (e, q, r, q)))

-- ---- a clause goes from where one came

without_placed : (x : Held) (hs : List Held) → tally x.id hs ≡ 0 → without (place x hs) x.id ≡ hs
unfolding place without tally
without_placed x [] n = let self = eq-eqb x.id x.id refl in rw self
without_placed x (h ∷ hs) n =
    let self = eq-eqb x.id x.id refl in
    by_cases (ltb x.id h.id) (λ e. rw (e, self)) (λ e. by_cases (eqb h.id x.id)
    (λ q. absurd (let z : 1 + tally x.id hs ≡ 0 = rw q at n in omega arith))
    (λ q. let r = without_placed x hs (omega arith) in rw (e, q, r)))

-- a clause earlier than the first of them comes first
place_front : (x h : Held) (hs : List Held) → later x h ≡ true → all_pass (later h) hs ≡ true → place x hs ≡ x ∷ hs
unfolding place
place_front x h [] e a = refl
place_front x h (y ∷ hs) e a =
    let p = ltb-true x.id h.id e in
    let q = ltb-true h.id y.id (all_head (later h) _ _ a) in
    let l = lt-ltb x.id y.id (omega arith) in
    rw l

without_other : (x : Held) (hs : List Held) (i : ℕ) → rising hs ≡ true → eqb x.id i ≡ false → without (place x hs) i ≡ place x (without hs i)
unfolding place without
without_other x [] i s n = rw n
without_other x (h ∷ hs) i s n =
    let t = rising_each h hs s in
    let r = without_other x hs i t.1 n in
    by_cases (ltb x.id h.id)
    (λ e. by_cases (eqb h.id i) (λ q. let front = place_front x h hs e t.0 in simp (e, n, q, front)) (λ q. simp (e, n, q)))
    (λ e. by_cases (eqb h.id i) (λ q. simp (e, q)) (λ q. simp (e, q, r)))

-- ---- clauses brought to rising id

pub has_settled : (hs : List Held) (i : ℕ) → has (by_id hs) i ≡ has hs i
unfolding any_passes
has_settled [] i = refl
has_settled (h ∷ hs) i = let r = has_settled hs i in has_place h (by_id hs) i ∙ rw r

pub length_settled : (hs : List Held) → length (by_id hs) ≡ length hs
length_settled [] = refl
length_settled (h ∷ hs) = omega (arith, length_place h (by_id hs), length_settled hs)

pub room_settled : (hs : List Held) → room (by_id hs) ≡ room hs
unfolding room
room_settled [] = refl
room_settled (h ∷ hs) = omega (arith, room_place h (by_id hs), room_settled hs)

pub tally_settled : (i : ℕ) (hs : List Held) → tally i (by_id hs) ≡ tally i hs
unfolding tally
tally_settled i [] = refl
tally_settled i (h ∷ hs) = omega (arith, tally_place i h (by_id hs), tally_settled i hs)

-- no id twice
abbrev pub Single : List Held → Type 0
Single hs = (i : ℕ) → tally i hs ≤ 1

single_each : (h : Held) (hs : List Held) → Single (h ∷ hs) → (tally h.id (by_id hs) ≡ 0) × Single hs
unfolding tally
single_each h hs s =
    let self = eq-eqb h.id h.id refl in
    let n : 1 + tally h.id hs ≤ 1 = rw self at (s h.id) in
    (omega (arith, tally_settled h.id hs), λ i. let m = s i in omega arith)

rising_settled : (hs : List Held) → Single hs → rising (by_id hs) ≡ true
unfolding rising
rising_settled [] s = refl
rising_settled (h ∷ hs) s = let t = single_each h hs s in rising_place h (by_id hs) t.0 (rising_settled hs t.1)

pub settled_without : (hs : List Held) (i : ℕ) → Single hs → by_id (without hs i) ≡ without (by_id hs) i
unfolding without
settled_without [] i s = refl
settled_without (h ∷ hs) i s =
    let t = single_each h hs s in
    let r = settled_without hs i t.1 in
    by_cases (eqb h.id i)
    (λ e. let q = eqb-true h.id i e in let w = without_placed h (by_id hs) t.0 in rw e (sym w ∙ rw q))
    (λ e. let w = without_other h (by_id hs) i (rising_settled hs t.1) e in rw (e, w, r))
