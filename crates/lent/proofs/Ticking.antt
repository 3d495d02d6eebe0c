-- The stack's ids, as a loop judges them: the first j are stacked clauses', none is there twice, and their rows are marked.
use mathlib.Core.Path.{◌≡◌, sym, ◌∙◌, ap}
use mathlib.Core.Bool.{Bool, true, false}
use mathlib.Core.List.{List, []}
use Prim.Native.Nat.{ℕ, ◌+◌, ◌<◌, ◌≤◌}
use native.Mathlib.Omega.{arith}
use lib.Dec.{eqb, ltb}
use lib.IntN.{ℤ}
use lib.ListN.{length, get_or, set, take, replicate, length-map, length-set, length-replicate, get_or-replicate}
use lib.Seq.{take_all}
use borrow.Author.Tests.{ltb-true, ltb-false, eqb-true, eqb-false, eq-eqb, ne_eqb}
use Rattle.rules.specs.Lists.{any_passes, only}
use Rattle.rules.specs.Terms.{has}
use Rattle.rules.proofs.Lists.{by_cases, true-false, any_last}
use Rattle.std.proofs.lemmas.List.{take_more}
use Rattle.table.specs.Facts.{All, none, alone}
use Rattle.table.specs.Spelled.{Row, row_at, id_of, place_of, stands, clauses, held, Rising, Located}
use Rattle.std.specs.Prelude.{Some}
use Rattle.table.proofs.Facts.{all_index, all_more, pairs_index}
use Rattle.table.proofs.Finding.{has_at}
use Rattle.lent.specs.State.{lists}
use Rattle.lent.proofs.Tests.{all_last, pairs_last, pairs_behind, any_fails, fails_any, set_mark}
use Rattle.lent.proofs.Listing.{Once, lists_each, lists_once, lists_all}

-- rows by rising id: their ids are the same where they are
same_row : (rows : List Row) (k m : ℕ) → Rising rows → k < length rows → m < length rows → eqb m k ≡ eqb (id_of (row_at rows m)) (id_of (row_at rows k))
same_row rows k m s hk hm = by_cases (eqb m k)
    (λ e. e ∙ sym (eq-eqb (id_of (row_at rows m)) (id_of (row_at rows k)) (ap (λ i. id_of (row_at rows i)) (eqb-true m k e))))
    (λ e.
    let d = eqb-false m k e in
    e ∙ sym (ne_eqb (id_of (row_at rows m)) (id_of (row_at rows k)) (λ (z : id_of (row_at rows m) ≡ id_of (row_at rows k)). by_cases (ltb m k)
    (λ l. omega (arith, pairs_index s m k [] (ltb-true m k l) hk))
    (λ l. let b = ltb-false m k l in omega (arith, pairs_index s k m [] (omega arith) hm)))))

pub record Ticked (rows : List Row) (ids : List ℕ) (marks : List Bool) (j : ℕ) : Type 0 where
  pub within : j ≤ length ids
  pub room : length rows ≤ length marks
  pub marked : (m : ℕ) → m < length rows → get_or marks m false ≡ any_passes (eqb (id_of (row_at rows m))) (take j ids)
  pub each : (pool : List ℤ) → All (λ i. has (clauses 2 pool rows) i ≡ true) (take j ids)
  pub once : Once (take j ids)

module _ (rows : List Row) (ids : List ℕ) where
  -- what the loop answers, whatever the pool
  abbrev Answers : Bool → Type 0
  Answers b = (pool : List ℤ) → b ≡ lists ids (clauses 2 pool rows)

  no_list : (pool : List ℤ) → (lists ids (clauses 2 pool rows) ≡ true → ⊥) → false ≡ lists ids (clauses 2 pool rows)
  no_list pool f = by_cases (lists ids (clauses 2 pool rows)) (λ e. absurd (f e)) sym

  many : (pool : List ℤ) → length (clauses 2 pool rows) ≡ length (only (stands 2) rows)
  many pool = length-map (only (stands 2) rows) (held pool)

  pub ticked_start : length rows ≤ 1024 → Ticked rows ids (replicate 1024 false) 0
  unfolding any_passes
  ticked_start h = record {
    within = omega arith;
    room = omega (arith, length-replicate 1024 false);
    marked = λ m k. get_or-replicate 1024 m false false (omega arith);
    each = λ pool. none;
    once = alone;
  }

  module _ {marks : List Bool} {j : ℕ} (t : Ticked rows ids marks j) where
    pub ticked_end : length ids ≤ j → length ids ≡ length (only (stands 2) rows) → Answers true
    ticked_end h n pool =
        let e = take_all j ids h in
        sym (lists_all ids _ (rw e at (t.each pool)) (rw e at t.once) (n ∙ sym (many pool)))

    module _ (more : j < length ids) where
      abbrev i : ℕ
      i = get_or ids j 0

      pub unstacked : ((pool : List ℤ) → has (clauses 2 pool rows) i ≡ false) → Answers false
      unstacked n pool = no_list pool (λ h. true-false (all_index (lists_each ids _ h) j 0 more) (n pool))

      module _ (rising : Rising rows) (k : ℕ) (l : Located rows i (Some k)) where
        pub misplaced : (place_of (row_at rows k) ≡ 2 → ⊥) → Answers false
        misplaced n = unstacked (λ pool. let e = l.1 in rw e at (has_at pool rows rising k l.0 2 ∙ ne_eqb (place_of (row_at rows k)) 2 n))

        -- the mark of its row tells whether an earlier id is the same
        seen : (b : Bool) → get_or marks k false ≡ b → any_passes (eqb i) (take j ids) ≡ b
        seen b h = let e = l.1 in sym (rw e at (t.marked k l.0)) ∙ h

        pub repeated : get_or marks k false ≡ true → Answers false
        repeated h pool =
            no_list pool (λ o. true-false (seen true h) (fails_any (eqb i) (all_more (λ x n. ne_eqb i x n) (pairs_behind ids j 0 more (lists_once ids _ o)))))

        ticked_mark : (m : ℕ) → m < length rows → get_or (set marks k true) m false ≡ any_passes (eqb (id_of (row_at rows m))) (take (j + 1) ids)
        ticked_mark m h =
            let e = take_more ids j 0 more in
            let a = any_last (eqb (id_of (row_at rows m))) (take j ids) i in
            let r = t.room in
            let b = t.marked m h in
            let d = same_row rows k m rising l.0 h in
            let q = l.1 in
            rw (e, a) (set_mark marks k m (omega (arith, l.0)) ∙ rw (b, d, q))

        pub ticked_next : place_of (row_at rows k) ≡ 2 → get_or marks k false ≡ false → Ticked rows ids (set marks k true) (j + 1)
        ticked_next p h =
            let e = take_more ids j 0 more in
            let q = l.1 in
            record {
              within = omega arith;
              room = omega (arith, t.room, length-set marks k true);
              marked = ticked_mark;
              each = λ pool. rw e (all_last (t.each pool) (rw q at (has_at pool rows rising k l.0 2 ∙ eq-eqb (place_of (row_at rows k)) 2 p)));
              once = rw e (pairs_last t.once (all_more (λ x n. eqb-false i x n) (any_fails (eqb i) (take j ids) (seen false h))));
            }
