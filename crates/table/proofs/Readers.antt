-- What readers may lean on: the counts, what was found at a row, and that clauses and witnesses obey Terms.
use mathlib.Core.Path.{◌≡◌, refl, sym, ◌∙◌, ap, subst}
use mathlib.Core.Bool.{true, cond}
use mathlib.Core.List.{List, [], ◌∷◌, ◌++◌, map, reverse, reverse-append}
use Prim.Native.Nat.{ℕ, zero, suc, ◌+◌, ◌-◌, ◌<◌, ◌≤◌}
use native.Mathlib.Omega.{arith}
use native.Mathlib.Numerals.{add-one}
use lib.Dec.{eqb, ltb, leb}
use lib.IntN.{ℤ, pos, negsuc}
use lib.ListN.{length, get_or, take, length-append, length-map, length-reverse}
use lib.Seq.{length-take-le, get_or-take, take-suc}
use borrow.Author.Tests.{ltb-true, lt-ltb, eq-eqb}
use Rattle.rules.specs.Lists.{all_pass, only}
use Rattle.rules.specs.Terms.{in_range, distinct, is_clause, Held, State, has, fetch, everything, room}
use Rattle.rules.specs.Answers.{need, free_entry, free_words}
use Rattle.rules.specs.declared.Fault.TheVariants.{NoEntry, NoWords}
use Rattle.rules.proofs.Lists.{by_cases, and_left, and_right, all_at, all_of}
use Rattle.rules.proofs.Places.{words_of, length_without, room_append}
use Rattle.table_slices.specs.Writes.{Among}
use Rattle.table_slices.proofs.Slices.{in_reverse, among_of}
use Rattle.table.specs.Facts.{All, none, both, total}
use Rattle.table.specs.Spelled.{Row, row_at, id_of, place_of, size, held, stands, clauses, held_rows, from_top, spelled, Inside, Lawful, gone_one, Fit}
use Rattle.table.specs.Spelled.{Readable}
use Rattle.table.specs.declared.Table.{Table}
use Rattle.table.proofs.Facts.{all_index, all_unreverse, all_more}
use Rattle.table.proofs.Places.{length_settled, room_settled}
use Rattle.table.proofs.Finding as finding
use Rattle.table.proofs.Stacked.{listed_in}
use Rattle.table.proofs.Rows.{clause_length, witness_length, lawful_placed, lawful_clause, lawful_witness, lawful_gone, clause_short}

-- ---- each row stands in one of the three places, or is gone: a number of each, summed over the places, is summed over the rows

module _ (f : Held → ℕ) (sum : List Held → ℕ) (sum-nil : sum [] ≡ 0) (sum-cons : (h : Held) (hs : List Held) → sum (h ∷ hs) ≡ f h + sum hs)
    (pool : List ℤ) where
  -- the clauses of the place p, where the row r that stands in q comes first
  abbrev seen : Row → ℕ → ℕ → List Row → List Held
  seen r q p rows = map (held pool) (cond (eqb q p) (r ∷ only (stands p) rows) (only (stands p) rows))

  pub over_places : (rows : List Row) → All (λ r. place_of r ≤ 3) rows →
      sum (clauses 0 pool rows) + sum (clauses 1 pool rows) + sum (clauses 2 pool rows) + sum (clauses 3 pool rows) ≡ total (λ r. f (held pool r)) rows
  unfolding only
  over_places [] none = rw sum-nil
  over_places (r ∷ rows) (both p a) = one (place_of r) p (over_places rows a)
    where
      one : (q : ℕ) → q ≤ 3 → sum (clauses 0 pool rows) + sum (clauses 1 pool rows) + sum (clauses 2 pool rows) + sum (clauses 3 pool rows) ≡ total
          (λ x. f (held pool x)) rows
          → sum (seen r q 0 rows) + sum (seen r q 1 rows) + sum (seen r q 2 rows) + sum (seen r q 3 rows) ≡ f (held pool r) + total (λ x. f (held pool x)) rows
      one zero h i = omega (arith, sum-cons (held pool r) (clauses 0 pool rows))
      one (suc zero) h i = omega (arith, sum-cons (held pool r) (clauses 1 pool rows))
      one (suc (suc zero)) h i = omega (arith, sum-cons (held pool r) (clauses 2 pool rows))
      one (suc (suc (suc zero))) h i = omega (arith, sum-cons (held pool r) (clauses 3 pool rows))
      one (suc (suc (suc (suc q)))) h i = absurd (omega arith)

total_ones : (rows : List Row) → total (λ r. 1) rows ≡ length rows
total_ones [] = refl
total_ones (r ∷ rows) = omega (arith, total_ones rows)

total_sizes : (pool : List ℤ) (rows : List Row) → All (Inside (length pool)) rows → total (λ r. words_of (held pool r)) rows ≡ total size rows
total_sizes pool [] none = refl
total_sizes pool (r ∷ rows) (both h a) = omega (arith, clause_length pool r h, witness_length pool r h, total_sizes pool rows a)

room_nil : room [] ≡ 0
unfolding room
room_nil = refl

room_cons : (h : Held) (hs : List Held) → room (h ∷ hs) ≡ words_of h + room hs
unfolding room
room_cons h hs = refl

-- ---- the rows whose clause is gone

gone_length : (pool : List ℤ) (rows : List Row) → length (clauses 3 pool rows) ≡ total gone_one rows
unfolding only
gone_length pool [] = refl
gone_length pool (r ∷ rows) = by_cases (stands 3 r) (λ e. rw e (omega (arith, gone_length pool rows))) (λ e. rw e (omega (arith, gone_length pool rows)))

gone_room : (vars : ℕ) (pool : List ℤ) {rows : List Row} → All (λ r. Lawful vars (place_of r) (held pool r)) rows → room (clauses 3 pool rows) ≡ 0
unfolding only
gone_room vars pool none = room_nil
gone_room vars pool (both {x} {xs} l a) = by_cases (stands 3 x)
    (λ e. let w = lawful_gone vars (place_of x) (held pool x) e l in
    rw e (omega (arith, room_cons (held pool x) (clauses 3 pool xs), ap length w.0, ap length w.1, gone_room vars pool a)))
    (λ e. rw e (gone_room vars pool a))

-- ---- literals within V are within 2,048

in_range_more : (v n : ℕ) (l : ℤ) → v ≤ n → in_range v l ≡ true → in_range n l ≡ true
in_range_more v n (pos zero) h r = r
in_range_more v n (pos (suc k)) h r = let q = ltb-true k v r in lt-ltb k n (omega arith)
in_range_more v n (negsuc k) h r = let q = ltb-true k v r in lt-ltb k n (omega arith)

pub clause_ranged : (v : ℕ) (c : List ℤ) → v ≤ 2048 → is_clause v c ≡ true → all_pass (in_range 2048) c ≡ true
unfolding is_clause
clause_ranged v c h k =
    let r = and_left (all_pass (in_range v) c) (distinct c) (and_right (leb (length c) 256) _ k) in
    all_of _ c (λ l m. in_range_more v 2048 l h (all_at _ r m))

-- ---- the ids below an index of the stack, from the top

pub from_top_next : (stack : List ℕ) (j : ℕ) → j < length stack → reverse (take (j + 1) stack) ≡ get_or stack j 0 ∷ reverse (take j stack)
from_top_next stack j h = rw add-one (ap reverse (take-suc stack j 0 h) ∙ reverse-append (take j stack) (get_or stack j 0 ∷ []))

module _ {t : Table} {rows : List Row} {pool : List ℤ} {stack : List ℕ} (f : Fit t rows pool stack) where
  abbrev rs : List Row
  rs = held_rows t rows

  abbrev s : State
  s = spelled t rows pool stack

  -- ---- the rows held

  pub count_rows : length rs ≡ t.count
  count_rows = length-take-le t.count rows f.rows_fit

  pub row_same : (k : ℕ) → k < t.count → row_at rs k ≡ row_at rows k
  row_same k h = get_or-take t.count rows k [] h

  in_pool : All (Inside (length pool)) rs
  in_pool = let b = f.pool_fit in all_more (λ r h. omega arith) f.core.inside

  pub readable : Readable rs pool
  readable = record {
    rising = f.core.rising;
    positive = λ k h. (all_index f.core.known k [] h).0;
    inside = λ k h. all_index in_pool k [] h;
    ranged = λ k h. clause_ranged t.vars _ f.vars_fit.1 (lawful_clause t.vars _ _ (all_index f.core.lawful k [] h));
    witness_ranged = λ k h. clause_ranged t.vars _ f.vars_fit.1 (lawful_witness t.vars _ _ (all_index f.core.lawful k [] h));
    short = λ k h.
        let r = row_at rs k in
        let i = all_index in_pool k [] h in
        let l = all_index f.core.lawful k [] h in (
          omega (arith, clause_length pool r i, clause_short t.vars _ (lawful_clause t.vars _ _ l)),
          omega (arith, witness_length pool r i, clause_short t.vars _ (lawful_witness t.vars _ _ l)),
        );
  }

  -- ---- counts

  pub placed : All (λ r. place_of r ≤ 3) rs
  placed = all_more (λ r l. lawful_placed t.vars (place_of r) (held pool r) l) f.core.lawful

  -- the stack is as deep as there are stacked clauses
  depth_held : length s.stack ≡ length (clauses 2 pool rs)
  depth_held = sym (length_settled s.stack) ∙ ap length f.core.listed.whole

  pub depth_is : length s.stack ≡ t.depth
  depth_is = length-map (from_top t stack) _ ∙ length-reverse (take t.depth stack) ∙ length-take-le t.depth stack f.stack_fit

  count_places : length (clauses 0 pool rs) + length (clauses 1 pool rs) + length (clauses 2 pool rs) + t.gone ≡ t.count
  count_places =
      omega (arith, over_places (λ h. 1) length refl (λ h hs. omega arith) pool rs placed, total_ones rs, count_rows, gone_length pool rs, f.gone_fit)

  pub gone_most : t.gone ≤ t.count
  gone_most = omega (arith, count_places)

  pub count_held : length (everything s) ≡ t.count - t.gone
  count_held =
      omega (arith, length-append s.irredundant (s.learned ++ s.stack), length-append s.learned s.stack, depth_held, count_places)

  pub words_held : room (everything s) ≡ t.words
  words_held =
      omega (
        arith,
        room_append s.irredundant (s.learned ++ s.stack),
        room_append s.learned s.stack,
        room_settled s.stack,
        ap room f.core.listed.whole,
        over_places words_of room room_nil room_cons pool rs placed,
        gone_room t.vars pool f.core.lawful,
        total_sizes pool rs in_pool,
        f.core.counted,
      )

  -- 12 and 13 by the counts alone
  pub free_entry_is : free_entry s ≡ need (ltb (t.count - t.gone) t.entries) NoEntry
  free_entry_is = let e = count_held in rw e

  pub free_words_is : (n : ℕ) → free_words s n ≡ need (leb (t.words + n) (length pool)) NoWords
  free_words_is n = let e = words_held in rw e

  -- ---- what was found

  module _ (k : ℕ) (h : k < length rs) where
    abbrev r : Row
    r = row_at rs k

    pub has_at : (p : ℕ) → has (clauses p pool rs) (id_of r) ≡ stands p r
    has_at = finding.has_at pool rs f.core.rising k h

    pub fetch_at : (p : ℕ) → place_of r ≡ p → fetch (clauses p pool rs) (id_of r) ≡ held pool r
    fetch_at = finding.fetch_at pool rs f.core.rising k h

    stacked_row : place_of r ≡ 2 → Among stack t.depth (id_of r)
    stacked_row q = among_of t.depth stack (in_reverse _ (listed_in f.core.listed (id_of r) (has_at 2 ∙ eq-eqb (place_of r) 2 q)))

    -- where a clause is not stacked, the stack is not full
    pub depth_below : place_of r ≡ 0 → t.depth + t.gone < t.count
    depth_below q = omega (arith, length_without (id_of r) (clauses 0 pool rs) (has_at 0 ∙ eq-eqb (place_of r) 0 q), depth_is, depth_held, count_places)

  -- ---- the same of a row held among all rows lent

  module _ (at : ℕ) (h : at < t.count) where
    held_at : at < length rs
    held_at = omega (arith, count_rows)

    pub row_inside : Inside (length pool) (row_at rows at)
    row_inside = subst (Inside (length pool)) (row_same at h) (readable.inside at held_at)

    pub row_stacked : place_of (row_at rows at) ≡ 2 → Among stack t.depth (id_of (row_at rows at))
    row_stacked = subst (λ x. place_of x ≡ 2 → Among stack t.depth (id_of x)) (row_same at h) (stacked_row at held_at)

  -- ---- the stack

  -- each id on it names a stacked clause
  pub stacked_at : (j : ℕ) → j < t.depth → has (clauses 2 pool rs) (get_or stack j 0) ≡ true
  stacked_at j h =
      let e = get_or-take t.depth stack j 0 h in
      let l = length-take-le t.depth stack f.stack_fit in
      rw e at (all_index (all_unreverse (take t.depth stack) f.core.listed.each) j 0 (omega arith))
