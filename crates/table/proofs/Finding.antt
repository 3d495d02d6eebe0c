-- What a row that was found says of the places, and what it says that none was found.
use mathlib.Core.Path.{◌≡◌, ◌∙◌, ap}
use mathlib.Core.List.{List, [], ◌∷◌, ◌++◌, map, map-append}
use Prim.Native.Nat.{ℕ, suc, ◌+◌, ◌<◌}
use native.Mathlib.Omega.{arith}
use lib.IntN.{ℤ}
use lib.ListN.{length, take, drop}
use lib.Seq.{split_at}
use lib.Dec.{eqb, ltb}
use borrow.Author.Count.{below_more}
use borrow.Author.Tests.{eq-eqb, eqb-true, eqb-false, ltb-true, ltb-false}
use mathlib.Core.Bool.{false}
use Rattle.rules.specs.Terms.{has, fetch}
use Rattle.rules.proofs.Lists.{by_cases}
use Rattle.table.specs.Facts.{All}
use Rattle.table.specs.Spelled.{Row, row_at, id_of, place_of, held, stands, clauses, Rising, Located, InPlace, in_place}
use Rattle.std.specs.Prelude.{None}
use Rattle.table.proofs.Facts.{pairs_index, all_indexed, all_join, all_more, all_map, pairs_before, pairs_after}
use Rattle.table.proofs.Entries.{spell, clauses_spell, spell_unseen, has_here, has_none, fetch_here}

-- the rows up to one of a lesser id have lesser ids, and those from one of a greater id on have greater ones
module _ {rows : List Row} (rising : Rising rows) (i m : ℕ) (h : m < length rows) where
  pub below_row : id_of (row_at rows m) < i → (j : ℕ) → j < m + 1 → id_of (row_at rows j) < i
  below_row l = below_more _ m (λ j b. let r = pairs_index rising j m [] b h in omega arith) l

  pub none_after : i < id_of (row_at rows m) → ((j : ℕ) → j < m → id_of (row_at rows j) < i) → Located rows i None
  none_after l b k g e =
      by_cases (ltb k m)
      (λ t. let q = b k (ltb-true k m t) in absurd (omega arith))
      (λ f. let n = ltb-false k m f in by_cases (eqb k m)
      (λ t. let q = eqb-true k m t in let s : id_of (row_at rows k) ≡ id_of (row_at rows m) = ap (λ n. id_of (row_at rows n)) q in absurd (omega arith))
      (λ u. let v = eqb-false k m u in let r = pairs_index rising m k [] (omega arith) g in absurd (omega arith)))

module _ (pool : List ℤ) (rows : List Row) where
  -- no row has the id: no place has it
  pub nowhere : (i : ℕ) → Located rows i None → (p : ℕ) → has (clauses p pool rows) i ≡ false
  nowhere i n p = let e = clauses_spell p pool rows in rw e (has_none p i _ (all_map (in_place pool) rows (all_indexed rows [] n)))

  module _ (rising : Rising rows) (k : ℕ) (h : k < length rows) where
    abbrev r : Row
    r = row_at rows k

    abbrev es : List InPlace
    es = map (in_place pool) (take k rows)

    abbrev fs : List InPlace
    fs = map (in_place pool) (drop (suc k) rows)

    split_rows : rows ≡ take k rows ++ r ∷ drop (suc k) rows
    split_rows = split_at rows k [] h

    split : (p : ℕ) → clauses p pool rows ≡ spell p (es ++ in_place pool r ∷ fs)
    split p =
        clauses_spell p pool rows ∙ ap (λ l. spell p (map (in_place pool) l)) split_rows
        ∙ ap (spell p) (map-append (in_place pool) (take k rows) (r ∷ drop (suc k) rows))

    earlier : All (λ a. a.what.id < id_of r) es
    earlier = let e = split_rows in all_map (in_place pool) _ (pairs_before (take k rows) r (drop (suc k) rows) (rw e at rising))

    later : All (λ a. id_of r < a.what.id) fs
    later = let e = split_rows in all_map (in_place pool) _ (pairs_after (take k rows) r (drop (suc k) rows) (rw e at rising))

    others : All (λ a. a.what.id ≡ id_of r → ⊥) (es ++ fs)
    others = all_join (all_more (λ a l (z : a.what.id ≡ id_of r). omega arith) earlier) (all_more (λ a l (z : a.what.id ≡ id_of r). omega arith) later)

    -- the clause of a row stands in the place that the row says, and in no other
    pub has_at : (p : ℕ) → has (clauses p pool rows) (id_of r) ≡ stands p r
    has_at p =
        let e = split p in
        by_cases (stands p r)
        (λ q. rw (e, q) (has_here p (in_place pool r) q es fs))
        (λ q. let u = spell_unseen p (in_place pool r) q es fs in rw (e, q, u) (has_none p (id_of r) _ others))

    pub fetch_at : (p : ℕ) → place_of r ≡ p → fetch (clauses p pool rows) (id_of r) ≡ held pool r
    fetch_at p q = let e = split p in rw e (fetch_here p (in_place pool r) (eq-eqb (place_of r) p q) es fs earlier)
