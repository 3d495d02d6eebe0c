-- The stack's ids, from the top, and the records that they name; and what they are when an id comes to the top, or leaves from the middle.
use mathlib.Core.Path.{◌≡◌, refl, sym, ◌∙◌, ap}
use mathlib.Core.Bool.{true, false≢true}
use mathlib.Core.List.{List, [], ◌∷◌, ◌++◌, map, Memᴰ}
use Prim.Native.Nat.{ℕ}
use native.Mathlib.Omega.{arith}
use lib.Dec.{eqb}
use borrow.Author.Tests.{eqb-true, eq-eqb, ne_eqb}
use Rattle.rules.specs.Lists.{any_passes}
use Rattle.rules.specs.Terms.{Held, has, fetch, tally}
use Rattle.rules.specs.Frames.{without}
use Rattle.rules.specs.Propagation.{among}
use Rattle.rules.proofs.Lists.{by_cases, true-false}
use Rattle.rules.proofs.Places.{fetch_id}
use Rattle.table.specs.Facts.{All, none, both, Pairs, alone, ahead}
use Rattle.table.specs.Spelled.{by_id, Listed, InPlace}
use Rattle.table.proofs.Facts.{all_join, all_cut, all_more, all_both, map_same, pairs_before, pairs_after, pairs_cut}
use Rattle.table.proofs.Places.{has_settled, Single, settled_without}
use Rattle.table.proofs.Entries.{spell, Before, After, spell_comes, spell_goes, fetch_here, fetch_other, has_here, has_other, has_none}

-- ---- F is the record of an id

module _ (F : ℕ → Held) where
  abbrev Named : List ℕ → Type 0
  Named ids = All (λ j. (F j).id ≡ j) ids

  fetch_named : (ids : List ℕ) (i : ℕ) → Named ids → has (map F ids) i ≡ true → fetch (map F ids) i ≡ F i
  unfolding any_passes fetch
  fetch_named [] i none h = absurd (false≢true h)
  fetch_named (j ∷ ids) i (both p a) h = by_cases (eqb (F j).id i)
      (λ e. rw e (ap F (sym p ∙ eqb-true (F j).id i e)))
      (λ e. rw e (fetch_named ids i a (rw e at h)))

  without_named : (xs : List ℕ) (i : ℕ) (ys : List ℕ) → Named (xs ++ i ∷ ys) → All (λ j. j ≡ i → ⊥) xs → without (map F (xs ++ i ∷ ys)) i ≡ map F (xs ++ ys)
  unfolding without
  without_named [] i ys (both p a) d = let s = eq-eqb i i refl in rw (p, s)
  without_named (x ∷ xs) i ys (both p a) (both q d) = let r = without_named xs i ys a d in let n = ne_eqb x i q in rw (p, n, r)

  tally_absent : (ids : List ℕ) (i : ℕ) → Named ids → All (λ j. j ≡ i → ⊥) ids → tally i (map F ids) ≡ 0
  unfolding tally
  tally_absent [] i none none = refl
  tally_absent (j ∷ ids) i (both p a) (both q d) = let n = ne_eqb j i q in rw (p, n) (omega (arith, tally_absent ids i a d))

  single_named : {ids : List ℕ} → Named ids → Pairs (λ i j. j ≡ i → ⊥) ids → Single (map F ids)
  unfolding tally
  single_named none alone i = omega arith
  single_named (both {x} {xs} p a) (ahead d o) i = by_cases (eqb (F x).id i)
      (λ e. let q : x ≡ i = sym p ∙ eqb-true (F x).id i e in rw e (omega (arith, tally_absent xs i a (rw q at d))))
      (λ e. rw e (omega (arith, single_named a o i)))

  names : {ids : List ℕ} → Named ids → map (λ (h : Held). h.id) (map F ids) ≡ ids
  names none = refl
  names (both {x} p a) = let r = names a in rw (p, r)

  named_in : (ids : List ℕ) (i : ℕ) → Named ids → has (map F ids) i ≡ true → Memᴰ i ids
  unfolding any_passes
  named_in [] i none h = absurd (false≢true h)
  named_in (j ∷ ids) i (both p a) h = by_cases (eqb (F j).id i)
      (λ e. Memᴰ.head (sym (eqb-true (F j).id i e) ∙ p))
      (λ e. Memᴰ.tail (named_in ids i a (rw e at h)))

module _ {stacked : List Held} {ids : List ℕ} (l : Listed stacked ids) where
  listed_named : All (λ j. (fetch stacked j).id ≡ j) ids
  listed_named = all_more (fetch_id stacked) l.each

  -- the records are those of the ids, in their order
  pub listed_ids : map (λ (h : Held). h.id) (map (fetch stacked) ids) ≡ ids
  listed_ids = names (fetch stacked) listed_named

  -- what is stacked is on the stack
  pub listed_has : (i : ℕ) → has (map (fetch stacked) ids) i ≡ has stacked i
  listed_has i = sym (has_settled (map (fetch stacked) ids) i) ∙ ap (λ hs. has hs i) l.whole

  pub listed_in : (i : ℕ) → has stacked i ≡ true → Memᴰ i ids
  listed_in i h = named_in (fetch stacked) ids i listed_named (listed_has i ∙ h)

  pub listed_fetch : (i : ℕ) → has stacked i ≡ true → fetch (map (fetch stacked) ids) i ≡ fetch stacked i
  listed_fetch i h = fetch_named (fetch stacked) ids i listed_named (listed_has i ∙ h)

  -- so an id names the same among the records
  pub listed_among : (i : ℕ) → among (map (fetch stacked) ids) i ≡ among stacked i
  unfolding among
  listed_among i = by_cases (has stacked i) (λ e. rw (listed_has i, e, listed_fetch i e)) (λ e. rw (listed_has i, e))

-- ---- a stacked entry among others

module _ (es fs : List InPlace) (e : InPlace) (q : eqb e.where_is 2 ≡ true) (b : All (Before e) es) (a : All (After e) fs) where
  abbrev i : ℕ
  i = e.what.id

  records_other : (ids : List ℕ) → All (λ j. j ≡ i → ⊥) ids → map (fetch (spell 2 (es ++ e ∷ fs))) ids ≡ map (fetch (spell 2 (es ++ fs))) ids
  records_other ids d = map_same (all_more (λ j n. fetch_other 2 e q es fs j (ne_eqb i j (λ z. n (sym z)))) d)

  -- its id comes to the top
  module _ (ids : List ℕ) (l : Listed (spell 2 (es ++ fs)) ids) where
    others : All (λ x. x.what.id ≡ i → ⊥) (es ++ fs)
    others = all_join (all_more (λ x p (z : x.what.id ≡ i). omega arith) b) (all_more (λ x p (z : x.what.id ≡ i). omega arith) a)

    fresh : All (λ j. j ≡ i → ⊥) ids
    fresh = all_more (λ j m z. true-false m (rw z (has_none 2 i (es ++ fs) others))) l.each

    pub records_push : map (fetch (spell 2 (es ++ e ∷ fs))) (i ∷ ids) ≡ e.what ∷ map (fetch (spell 2 (es ++ fs))) ids
    records_push = let h = fetch_here 2 e q es fs b in let r = records_other ids fresh in rw (h, r)

    pub listed_push : Listed (spell 2 (es ++ e ∷ fs)) (i ∷ ids)
    listed_push =
        let p = spell_comes 2 e q es fs b a in
        let o = l.whole in
        record {
          each = both (has_here 2 e q es fs) (all_both (λ j n m. has_other 2 e q es fs j (ne_eqb i j (λ z. n (sym z))) ∙ m) fresh l.each);
          once = ahead fresh l.once;
          whole = ap by_id records_push ∙ rw (o, p);
        }

  -- its id leaves from the middle
  module _ (xs ys : List ℕ) (l : Listed (spell 2 (es ++ e ∷ fs)) (xs ++ i ∷ ys)) where
    abbrev F : ℕ → Held
    F = fetch (spell 2 (es ++ e ∷ fs))

    above : All (λ j. j ≡ i → ⊥) xs
    above = all_more (λ j n z. n (sym z)) (pairs_before xs i ys l.once)

    rest : All (λ j. j ≡ i → ⊥) (xs ++ ys)
    rest = all_join above (pairs_after xs i ys l.once)

    pub records_leave : map (fetch (spell 2 (es ++ fs))) (xs ++ ys) ≡ without (map F (xs ++ i ∷ ys)) i
    records_leave = sym (records_other (xs ++ ys) rest) ∙ sym (without_named F xs i ys (listed_named l) above)

    pub listed_leave : Listed (spell 2 (es ++ fs)) (xs ++ ys)
    listed_leave = record {
      each = all_both (λ j n m. sym (has_other 2 e q es fs j (ne_eqb i j (λ z. n (sym z)))) ∙ m) rest (all_cut xs i ys l.each);
      once = pairs_cut xs i ys l.once;
      whole =
          ap by_id records_leave ∙ settled_without (map F (xs ++ i ∷ ys)) i (single_named F (listed_named l) l.once)
          ∙ ap (λ (hs : List Held). without hs i) l.whole ∙ sym (spell_goes 2 e q es fs b);
    }
