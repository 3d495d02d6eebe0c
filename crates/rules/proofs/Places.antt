-- How many clauses of an id, how many clauses, how many words, and the order by id, when a clause comes to a place or goes from it.
use mathlib.Core.Path.{◌≡◌, refl}
use mathlib.Core.Bool.{Bool, true, cond, false≢true}
use mathlib.Core.List.{List, [], ◌∷◌, ◌++◌}
use Prim.Native.Nat.{ℕ, ◌+◌, ◌≤◌}
use native.Mathlib.Omega.{arith}
use lib.Dec.{eqb, ltb}
use lib.ListN.{length}
use borrow.Author.Tests.{ltb-true, ltb-false, lt-ltb, eqb-true, eqb-false, eq-eqb}
use Rattle.rules.specs.Lists.{any_passes, all_pass}
use Rattle.rules.specs.Terms.{Held, has, fetch, room, tally, rising}
use Rattle.rules.specs.Frames.{without, place}
use Rattle.rules.proofs.Lists.{by_cases, and_left, and_right, and_both, all_nil, all_cons, all_at, all_of}
use Rattle.rules.proofs.Held.{without_all, place_all}

pub fetch_id : (hs : List Held) (i : ℕ) → has hs i ≡ true → (fetch hs i).id ≡ i
unfolding any_passes fetch
fetch_id [] i m = absurd (false≢true m)
fetch_id (h ∷ hs) i m = by_cases (eqb h.id i) (λ e. rw e (eqb-true h.id i e)) (λ e. rw e (fetch_id hs i (rw e at m)))

-- ---- how many

-- 1 where the ids are the same, else 0
abbrev pub one : ℕ → ℕ → ℕ
one i j = cond (eqb i j) 1 0

pub tally_append : (i : ℕ) (hs gs : List Held) → tally i (hs ++ gs) ≡ tally i hs + tally i gs
unfolding tally
tally_append i [] gs = omega arith
tally_append i (h ∷ hs) gs = omega (arith, tally_append i hs gs)

pub tally_place : (i : ℕ) (x : Held) (hs : List Held) → tally i (place x hs) ≡ one x.id i + tally i hs
unfolding tally place
tally_place i x [] = refl
tally_place i x (h ∷ hs) = by_cases (ltb x.id h.id) (λ e. rw e) (λ e. rw e (omega (arith, tally_place i x hs)))

pub tally_without : (i j : ℕ) (hs : List Held) → has hs j ≡ true → tally i hs ≡ one j i + tally i (without hs j)
unfolding tally without any_passes
tally_without i j [] m = absurd (false≢true m)
tally_without i j (h ∷ hs) m = by_cases (eqb h.id j)
    (λ e. let q = eqb-true h.id j e in rw (e, q))
    (λ e. rw e (omega (arith, tally_without i j hs (rw e at m))))

pub tally_has : (i : ℕ) (hs : List Held) → has hs i ≡ true → 1 ≤ tally i hs
tally_has i hs m = let e = eq-eqb i i refl in let t = tally_without i i hs m in rw t (rw e (omega arith))

-- ---- clauses and words

-- the words of a clause and its witness
abbrev pub words_of : Held → ℕ
words_of h = length h.lits + length h.witness

pub length_place : (x : Held) (hs : List Held) → length (place x hs) ≡ 1 + length hs
unfolding place
length_place x [] = refl
length_place x (h ∷ hs) = by_cases (ltb x.id h.id) (λ e. rw e (omega arith)) (λ e. rw e (omega (arith, length_place x hs)))

pub length_without : (j : ℕ) (hs : List Held) → has hs j ≡ true → length hs ≡ 1 + length (without hs j)
unfolding without any_passes
length_without j [] m = absurd (false≢true m)
length_without j (h ∷ hs) m = by_cases (eqb h.id j) (λ e. rw e (omega arith)) (λ e. rw e (omega (arith, length_without j hs (rw e at m))))

pub room_append : (hs gs : List Held) → room (hs ++ gs) ≡ room hs + room gs
unfolding room
room_append [] gs = omega arith
room_append (h ∷ hs) gs = omega (arith, room_append hs gs)

pub room_place : (x : Held) (hs : List Held) → room (place x hs) ≡ words_of x + room hs
unfolding room place
room_place x [] = refl
room_place x (h ∷ hs) = by_cases (ltb x.id h.id) (λ e. rw e) (λ e. rw e (omega (arith, room_place x hs)))

pub room_without : (j : ℕ) (hs : List Held) → has hs j ≡ true → room hs ≡ words_of (fetch hs j) + room (without hs j)
unfolding room without fetch any_passes
room_without j [] m = absurd (false≢true m)
room_without j (h ∷ hs) m = by_cases (eqb h.id j) (λ e. rw e) (λ e. rw e (omega (arith, room_without j hs (rw e at m))))

-- ---- by rising id

abbrev pub later : Held → Held → Bool
later h x = ltb h.id x.id

pub rising_each : (h : Held) (hs : List Held) → rising (h ∷ hs) ≡ true → (all_pass (later h) hs ≡ true) × (rising hs ≡ true)
unfolding rising
rising_each h hs s = (and_left (all_pass (later h) hs) (rising hs) s, and_right (all_pass (later h) hs) (rising hs) s)

rising_cons : (h : Held) (hs : List Held) → all_pass (later h) hs ≡ true → rising hs ≡ true → rising (h ∷ hs) ≡ true
unfolding rising
rising_cons h hs a s = and_both a s

ltb_trans : (a b c : ℕ) → ltb a b ≡ true → ltb b c ≡ true → ltb a c ≡ true
ltb_trans a b c p q = let r = ltb-true a b p in let s = ltb-true b c q in lt-ltb a c (omega arith)

-- what is later than h is later than what stands before h
all_later : (x h : Held) (hs : List Held) → later x h ≡ true → all_pass (later h) hs ≡ true → all_pass (later x) hs ≡ true
all_later x h hs e a = all_of _ hs (λ y m. ltb_trans x.id h.id y.id e (all_at (later h) a m))

pub rising_place : (x : Held) (hs : List Held) → tally x.id hs ≡ 0 → rising hs ≡ true → rising (place x hs) ≡ true
unfolding place tally
rising_place x [] n s = rising_cons x [] (all_nil _) s
rising_place x (h ∷ hs) n s =
    let t = rising_each h hs s in
    by_cases (ltb x.id h.id)
    (λ e. rw e (rising_cons x _ (all_cons (later x) _ _ e (all_later x h hs e t.0)) s))
    (λ e. by_cases (eqb h.id x.id)
    (λ q. absurd (let z : 1 + tally x.id hs ≡ 0 = rw q at n in omega arith))
    (λ q.
    let rest : tally x.id hs ≡ 0 = omega arith in
    let before = ltb-false x.id h.id e in
    let differ = eqb-false h.id x.id q in
    rw e (rising_cons h _ (place_all (later h) x hs (lt-ltb h.id x.id (omega arith)) t.0) (rising_place x hs rest t.1))))

pub rising_without : (hs : List Held) (i : ℕ) → rising hs ≡ true → rising (without hs i) ≡ true
unfolding without
rising_without [] i s = s
rising_without (h ∷ hs) i s =
    let t = rising_each h hs s in
    by_cases (eqb h.id i) (λ e. rw e t.1) (λ e. rw e (rising_cons h _ (without_all (later h) hs i t.0) (rising_without hs i t.1)))
