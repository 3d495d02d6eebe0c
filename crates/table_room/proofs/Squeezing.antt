-- The rows whose clause is gone are taken out: those that are left spell the same, in the same order.
use mathlib.Core.Path.{◌≡◌, refl, sym, ap, ◌∙◌}
use mathlib.Core.Bool.{Bool, true, false}
use mathlib.Core.List.{List, [], ◌∷◌, ◌++◌, map}
use Prim.Native.Nat.{ℕ, ◌+◌, ◌<◌}
use native.Mathlib.Omega.{arith}
use lib.Dec.{eqb}
use lib.IntN.{ℤ}
use lib.ListN.{length, set, take, drop, length-set}
use lib.Seq.{length-take-le, drop-set-lt}
use borrow.Author.Tests.{eqb-true}
use Rattle.rules.specs.Lists.{only}
use Rattle.rules.specs.Terms.{State}
use Rattle.rules.proofs.Lists.{by_cases, from_index}
use Rattle.table_slices.proofs.Slices.{taken_on, take_next}
use Rattle.table.specs.Facts.{All, none, both, Pairs, alone, ahead, total}
use Rattle.table.specs.Spelled.{Row, row_at, place_of, size, held, renumbered, stands, clauses, held_rows, Inside, gone_one, Fit}
use Rattle.table.specs.declared.Table.{Table}
use Rattle.table.proofs.Facts.{all_more, all_both}
use Rattle.table.proofs.Rows.{clause_length, witness_length, lawful_gone}
use Rattle.table_room.specs.Room.{present, ClosedUp, Squeezed, FreeRow}
use Rattle.table.proofs.Refits.{refit}

-- ---- some elements of a list

module _ {A : Type 0} (p : A → Bool) where
  all_only : {P : A → Type 0} {xs : List A} → All P xs → All P (only p xs)
  unfolding only
  all_only none = none
  all_only (both {x} {xs} h a) = by_cases (p x) (λ e. rw e (both h (all_only a))) (λ e. rw e (all_only a))

  pairs_only : {R : A → A → Type 0} {xs : List A} → Pairs R xs → Pairs R (only p xs)
  unfolding only
  pairs_only alone = alone
  pairs_only (ahead {x} {xs} a k) = by_cases (p x) (λ e. rw e (ahead (all_only a) (pairs_only k))) (λ e. rw e (pairs_only k))

  -- one element more
  only_kept : (xs : List A) (y : A) → p y ≡ true → only p (xs ++ y ∷ []) ≡ only p xs ++ y ∷ []
  unfolding only
  only_kept [] y h = rw h
  only_kept (x ∷ xs) y h = by_cases (p x) (λ e. rw e (ap (λ (l : List A). x ∷ l) (only_kept xs y h))) (λ e. rw e (only_kept xs y h))

  only_left_out : (xs : List A) (y : A) → p y ≡ false → only p (xs ++ y ∷ []) ≡ only p xs
  unfolding only
  only_left_out [] y h = rw h
  only_left_out (x ∷ xs) y h = by_cases (p x) (λ e. rw e (ap (λ (l : List A). x ∷ l) (only_left_out xs y h))) (λ e. rw e (only_left_out xs y h))

  -- those that pass a narrower test are among them
  only_only : (q : A → Bool) → ((x : A) → q x ≡ true → p x ≡ true) → (xs : List A) → only q (only p xs) ≡ only q xs
  unfolding only
  only_only q h [] = refl
  only_only q h (x ∷ xs) = by_cases (q x)
      (λ e. let k = h x e in rw (k, e) (ap (λ (l : List A). x ∷ l) (only_only q h xs)))
      (λ e. by_cases (p x) (λ k. rw (k, e) (only_only q h xs)) (λ k. rw (k, e) (only_only q h xs)))

-- ---- a turn of the loop

pub closing_start : (rows : List Row) → ClosedUp rows 0 0 rows
unfolding only
closing_start rows = record { front = refl; rest = refl; few = omega arith; long = refl }

module _ {rows₀ : List Row} {i k : ℕ} {rows : List Row} (c : ClosedUp rows₀ i k rows) (h : i < length rows₀) where
  -- the row, and those behind it, are still as they were
  unread : row_at rows i ∷ drop (i + 1) rows ≡ row_at rows₀ i ∷ drop (i + 1) rows₀
  unread = sym (from_index rows i [] (omega (arith, c.long))) ∙ c.rest ∙ from_index rows₀ i [] h

  row_read : row_at rows i ≡ row_at rows₀ i
  row_read = let e = unread in cc

  further : drop (i + 1) rows ≡ drop (i + 1) rows₀
  further = let e = unread in cc

  pub closing_kept : present (row_at rows i) ≡ true → ClosedUp rows₀ (i + 1) (k + 1) (set rows k (row_at rows i))
  closing_kept e = record {
    front =
        take_next rows k (row_at rows i) (omega (arith, c.few, c.long)) ∙ ap (λ (l : List Row). l ++ row_at rows i ∷ []) c.front
        ∙ sym (only_kept present (take i rows₀) (row_at rows i) e)
        ∙ ap (λ (r : Row). only present (take i rows₀ ++ r ∷ [])) row_read ∙ ap (only present) (sym (taken_on rows₀ i [] h));
    rest = drop-set-lt (i + 1) rows k (row_at rows i) (omega (arith, c.few)) ∙ further;
    few = omega (arith, c.few);
    long = length-set rows k (row_at rows i) ∙ c.long;
  }

  pub closing_left_out : present (row_at rows i) ≡ false → ClosedUp rows₀ (i + 1) k rows
  closing_left_out e = record {
    front =
        c.front ∙ sym (only_left_out present (take i rows₀) (row_at rows i) e) ∙ ap (λ (r : Row). only present (take i rows₀ ++ r ∷ [])) row_read
        ∙ ap (only present) (sym (taken_on rows₀ i [] h));
    rest = further;
    few = omega (arith, c.few);
    long = c.long;
  }

-- ---- the rows that are left

only_length : (rows : List Row) → length (only present rows) + total gone_one rows ≡ length rows
unfolding only
only_length [] = refl
only_length (r ∷ rows) = by_cases (stands 3 r) (λ e. rw e (omega (arith, only_length rows))) (λ e. rw e (omega (arith, only_length rows)))

only_gone : (rows : List Row) → total gone_one (only present rows) ≡ 0
unfolding only
only_gone [] = refl
only_gone (r ∷ rows) =
    by_cases (stands 3 r) (λ e. rw e (only_gone rows)) (λ e. let held_one : gone_one r ≡ 0 = rw e in rw e (omega (arith, held_one, only_gone rows)))

only_sizes : {rows : List Row} → All (λ r. stands 3 r ≡ true → size r ≡ 0) rows → total size (only present rows) ≡ total size rows
unfolding only
only_sizes none = refl
only_sizes (both {x} {xs} h a) = by_cases (stands 3 x) (λ e. rw e (omega (arith, h e, only_sizes a))) (λ e. rw e (omega (arith, only_sizes a)))

-- a row that is gone stands in none of the three places
standing : (p : ℕ) → eqb p 3 ≡ false → (r : Row) → stands p r ≡ true → present r ≡ true
standing p n r e = let q = eqb-true (place_of r) p e in rw (q, n)

places_kept : (p : ℕ) → eqb p 3 ≡ false → (pool : List ℤ) (rows : List Row) → clauses p pool (only present rows) ≡ clauses p pool rows
places_kept p n pool rows = ap (map (held pool)) (only_only present (stands p) (standing p n) rows)

-- ---- the table after it

module _ {t : Table} {rows : List Row} {pool : List ℤ} {stack : List ℕ} (f : Fit t rows pool stack) where
  abbrev hr : List Row
  hr = held_rows t rows

  gone_small : All (λ r. stands 3 r ≡ true → size r ≡ 0) hr
  gone_small =
      let top = f.pool_fit in
      all_both (λ r l i e.
      let w = lawful_gone t.vars (place_of r) (held pool r) e l in
      omega (arith, clause_length pool r i, witness_length pool r i, ap length w.0, ap length w.1)) f.core.lawful
      (all_more {Q = Inside (length pool)} (λ r i. omega arith) f.core.inside)

  module _ {k : ℕ} {rows' : List Row} (c : ClosedUp rows t.count k rows') where
    abbrev squeezed : Table
    squeezed = renumbered t t.highest k 0 t.words t.depth t.top

    kept_length : k + t.gone ≡ t.count
    kept_length =
        omega (
          arith,
          length-take-le k rows' (omega (arith, c.few, c.long, f.rows_fit)),
          ap length c.front,
          only_length hr,
          length-take-le t.count rows f.rows_fit,
          f.gone_fit,
        )

    squeezed_fit : Fit squeezed rows' pool stack
    squeezed_fit =
        let e = c.front in
        let q = places_kept 2 refl pool hr in
        let o = f.core in
        refit f refl refl f.highest_fit c.long refl refl (omega (arith, c.few, f.rows_fit)) (omega (arith, kept_length, f.held_fit)) f.pool_fit
        f.stack_fit (rw e (sym (only_gone hr)))
        (rw e (record {
          rising = pairs_only present o.rising;
          known = all_only present o.known;
          inside = all_only present o.inside;
          apart = pairs_only present o.apart;
          lawful = all_only present o.lawful;
          counted = o.counted ∙ sym (only_sizes gone_small);
          listed = rw q o.listed;
        }))

    pub squeezes : Squeezed t rows pool stack squeezed rows'
    squeezes =
        let e = c.front in
        let a = places_kept 0 refl pool hr in
        let b = places_kept 1 refl pool hr in
        let d = places_kept 2 refl pool hr in
        record { fit = squeezed_fit; same = rw (e, a, b, d) refl; none_gone = refl; kept = kept_length; words = refl; long = c.long }

  -- so there is room for a row more
  pub squeezed_frees : t.count < t.entries + t.gone → {t' : Table} {rows' : List Row} → Squeezed t rows pool stack t' rows' →
      FreeRow t rows pool stack t' rows'
  squeezed_frees h s =
      let e : _ ≡ t.entries = ap (λ (x : State). x.entries) s.same in
      let k = s.kept in
      let n = s.none_gone in
      record { fit = s.fit; same = s.same; row = omega (arith, s.fit.entries_fit); entry = omega arith; words = s.words; long = s.long }
