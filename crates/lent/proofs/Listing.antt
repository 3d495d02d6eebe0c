-- "the stack lists each stacked clause once", as a test and as what the working table keeps. The test counts: as many ids as clauses, no id twice, each
-- a clause's, so none is missing.
use mathlib.Core.Path.{◌≡◌, refl, sym, ◌∙◌, ap}
use mathlib.Core.Bool.{Bool, true, false, not, ◌&&◌, false≢true}
use mathlib.Core.List.{List, [], ◌∷◌, map, reverse, reverse-reverse}
use Prim.Native.Nat.{ℕ}
use native.Mathlib.Omega.{arith}
use lib.Dec.{eqb}
use lib.IntN.{ℤ}
use lib.ListN.{length, length-map, length-reverse}
use borrow.Author.Tests.{ltb-true, le-ltb, eqb-true, eqb-false, eq-eqb, ne_eqb}
use Rattle.rules.specs.Lists.{any_passes, all_pass}
use Rattle.rules.specs.Terms.{Held, has, fetch, rising}
use Rattle.rules.specs.Frames.{without, place}
use Rattle.rules.proofs.Lists.{by_cases, not-true, and_left, and_right, and_both, all_head}
use Rattle.rules.proofs.Held.{fetch_all}
use Rattle.rules.proofs.Places.{later, length_without, rising_each, rising_without}
use Rattle.table.specs.Facts.{All, both, Pairs, ahead}
use Rattle.table.specs.Spelled.{Row, clauses, by_id, Rising, Listed}
use Rattle.table.proofs.Facts.{all_unreverse, all_more, all_both, map_same}
use Rattle.table.proofs.Places.{length_settled}
use Rattle.table.proofs.Clauses.{clauses_rising}
use Rattle.lent.specs.State.{every_two, lists}
use Rattle.lent.proofs.Tests.{all_fact, all_test, two_fact, two_test, all_reverse, pairs_reverse}

-- ---- clauses by rising id

-- a clause before all others comes first
place_first : (h : Held) (hs : List Held) → all_pass (later h) hs ≡ true → place h hs ≡ h ∷ hs
unfolding place
place_first h [] a = refl
place_first h (x ∷ hs) a = let l = all_head (later h) x hs a in rw l

-- they are settled
pub settled_rising : (hs : List Held) → rising hs ≡ true → by_id hs ≡ hs
settled_rising [] s = refl
settled_rising (h ∷ hs) s = let t = rising_each h hs s in ap (place h) (settled_rising hs t.1) ∙ place_first h hs t.0

-- what goes comes back to where it was
place_back : (hs : List Held) (i : ℕ) → rising hs ≡ true → has hs i ≡ true → place (fetch hs i) (without hs i) ≡ hs
unfolding any_passes fetch place without
place_back [] i s m = absurd (false≢true m)
place_back (h ∷ hs) i s m =
    let t = rising_each h hs s in
    by_cases (eqb h.id i)
    (λ e. rw e (place_first h hs t.0))
    (λ e.
    let k : has hs i ≡ true = rw e at m in
    let b = ltb-true h.id (fetch hs i).id (fetch_all (later h) hs i k t.0) in
    let n = le-ltb (fetch hs i).id h.id (omega arith) in
    let r = place_back hs i t.1 k in
    rw (e, n, r))

-- others are found as before
module _ (i j : ℕ) (n : eqb i j ≡ false) where
  has_left : (hs : List Held) → has (without hs i) j ≡ has hs j
  unfolding any_passes without
  has_left [] = refl
  has_left (h ∷ hs) = by_cases (eqb h.id i)
      (λ e. let q = eqb-true h.id i e in rw (e, q, n))
      (λ e. let r = has_left hs in rw (e, r))

  fetch_left : (hs : List Held) → fetch (without hs i) j ≡ fetch hs j
  unfolding fetch without
  fetch_left [] = refl
  fetch_left (h ∷ hs) = by_cases (eqb h.id i)
      (λ e. let q = eqb-true h.id i e in rw (e, q, n))
      (λ e. let r = fetch_left hs in rw (e, r))

-- ---- the list

-- no id twice
abbrev pub Once : List ℕ → Type 0
Once ids = Pairs (λ i j. j ≡ i → ⊥) ids

once_reverse : (ids : List ℕ) → Once ids → Once (reverse ids)
once_reverse ids o = pairs_reverse (λ i j n z. n (sym z)) o

-- as many ids as clauses, no id twice, each a clause's: they are the clauses
listed_whole : (ids : List ℕ) (hs : List Held) → rising hs ≡ true → All (λ i. has hs i ≡ true) ids → Once ids → length ids ≡ length hs →
    by_id (map (fetch hs) ids) ≡ hs
listed_whole [] [] s m o n = refl
listed_whole [] (h ∷ hs) s m o n = absurd (omega arith)
listed_whole (i ∷ ids) hs s (both k m) (ahead d o) n =
    let gs = without hs i in
    let each = all_both (λ j ne h. has_left i j (ne_eqb i j (λ z. ne (sym z))) hs ∙ h) d m in
    let same = map_same (all_more (λ j ne. sym (fetch_left i j (ne_eqb i j (λ z. ne (sym z))) hs)) d) in
    let rest = listed_whole ids gs (rising_without hs i s) each o (omega (arith, length_without i hs k)) in
    ap (λ (l : List Held). place (fetch hs i) (by_id l)) same ∙ ap (place (fetch hs i)) rest ∙ place_back hs i s k

module _ (ids : List ℕ) (stacked : List Held) where
  abbrev each_test : Bool
  each_test = all_pass (has stacked) ids

  abbrev once_test : Bool
  once_test = every_two (λ i j. not (eqb j i)) ids

  abbrev many_test : Bool
  many_test = eqb (length ids) (length stacked)

  module _ (h : lists ids stacked ≡ true) where
    pub lists_each : All (λ i. has stacked i ≡ true) ids
    lists_each = all_fact (λ i m. m) ids (and_left each_test (once_test && many_test) h)

    pub lists_once : Once ids
    lists_once = two_fact (λ i j n. eqb-false j i (not-true n)) ids (and_left once_test many_test (and_right each_test (once_test && many_test) h))

    pub lists_many : length ids ≡ length stacked
    lists_many = eqb-true (length ids) (length stacked) (and_right once_test many_test (and_right each_test (once_test && many_test) h))

  pub lists_all : All (λ i. has stacked i ≡ true) ids → Once ids → length ids ≡ length stacked → lists ids stacked ≡ true
  lists_all m o n = and_both (all_test (λ i h. h) m) (and_both (two_test (λ i j d. let e = ne_eqb j i d in rw e) o) (eq-eqb (length ids) (length stacked) n))

  lists_fact : rising stacked ≡ true → lists ids stacked ≡ true → Listed stacked (reverse ids)
  lists_fact s h =
      let each = all_reverse (lists_each h) in
      let once = once_reverse ids (lists_once h) in
      record { each = each; once = once; whole = listed_whole (reverse ids) stacked s each once (length-reverse ids ∙ lists_many h) }

  -- as many ids as clauses
  pub listed_length : Listed stacked (reverse ids) → length ids ≡ length stacked
  listed_length l =
      sym (length-reverse ids) ∙ sym (length-map (reverse ids) (fetch stacked)) ∙ sym (length_settled (map (fetch stacked) (reverse ids)))
      ∙ ap length l.whole

  pub lists_test : Listed stacked (reverse ids) → lists ids stacked ≡ true
  lists_test l =
      let e = reverse-reverse ids in
      lists_all (all_unreverse ids l.each) (rw e at (once_reverse (reverse ids) l.once)) (listed_length l)

-- of rows by rising id
pub stack_fact : (ids : List ℕ) (pool : List ℤ) (rows : List Row) → Rising rows → lists ids (clauses 2 pool rows) ≡ true →
    Listed (clauses 2 pool rows) (reverse ids)
stack_fact ids pool rows s h = lists_fact ids (clauses 2 pool rows) (clauses_rising 2 pool s) h
