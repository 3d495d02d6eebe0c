-- Whether rows are a state, and which, does not depend on their order, nor on where rows without words start.
use mathlib.Core.Path.{◌≡◌, refl, sym, ◌∙◌, ap}
use mathlib.Core.Bool.{Bool, true, ◌&&◌, or_comm}
use mathlib.Core.List.{List, [], ◌∷◌, map, reverse}
use Prim.Native.Nat.{ℕ, ◌+◌}
use native.Mathlib.Omega.{arith}
use lib.Dec.{eqb, ltb, leb}
use lib.IntN.{ℤ}
use lib.ListN.{length, get_or, take, length-map}
use lib.Seq.{take-length}
use borrow.Author.Tests.{eqb-true, eq-eqb}
use Rattle.rules.specs.Lists.{all_pass}
use Rattle.rules.specs.Terms.{has, fetch}
use Rattle.rules.proofs.Lists.{by_cases, all_of}
use Rattle.table.specs.Facts.{total}
use Rattle.table.specs.Spelled.{Row, id_of, place_of, start_of, length_of, witness_of, size, moved_row, held, clauses, InPlace, in_place}
use Rattle.table.proofs.Facts.{all_indexed, map_same}
use Rattle.table.proofs.Entries.{spell, clauses_spell}
use Rattle.lent.specs.State.{every_two, other_id, known, lawful, inside, clear, is_state, state_of}
use Rattle.lent.specs.declared.Carried.{Carried}
use Rattle.lent_order.specs.Orders.{Shuffled, tidied, is_tidy}
use Rattle.lent_order.proofs.Shuffles.{length_shuffled, all_shuffled, any_shuffled, total_shuffled, two_shuffled, all_same, differ_flip}
use Rattle.lent_order.proofs.Shuffles.{settled_shuffled, fetch_shuffled, clauses_shuffled, clauses_differ}

-- all rows are held
pub held_all : (c : Carried) (rows : List Row) → c.count ≡ length rows → take c.count rows ≡ rows
held_all c rows n = rw n (take-length rows)

-- ---- rows in another order

clear_flip : (r x : Row) → clear r x ≡ clear x r
clear_flip r x =
    let a = or_comm (eqb (size r) 0) (eqb (size x) 0) in
    let b = or_comm (leb (start_of r + size r) (start_of x)) (leb (start_of x + size x) (start_of r)) in
    rw (a, b)

module _ (c : Carried) (pool : List ℤ) {xs ys : List Row} (s : Shuffled xs ys) (n : c.count ≡ length xs) where
  stacked : Shuffled (clauses 2 pool xs) (clauses 2 pool ys)
  stacked = clauses_shuffled 2 pool s

  long : length xs ≡ length ys
  long = length_shuffled s

  whole_xs : take c.count xs ≡ xs
  whole_xs = held_all c xs n

  whole_ys : take c.count ys ≡ ys
  whole_ys = held_all c ys (n ∙ long)

  state_shuffled : is_state c xs pool ≡ is_state c ys pool
  unfolding is_state
  state_shuffled =
      let ids = two_shuffled other_id (λ r x. differ_flip (id_of r) (id_of x)) s in
      let known-are = all_shuffled (known c.highest) s in
      let lawful_are = all_shuffled (λ r. lawful c.vars (place_of r) (held pool r)) s in
      let inside_are = all_shuffled (inside (length pool)) s in
      let clear_are = two_shuffled clear clear_flip s in
      let sum = total_shuffled size s in
      let many = length_shuffled stacked in
      let named = all_same (has (clauses 2 pool xs)) (has (clauses 2 pool ys)) (λ i. any_shuffled (λ h. eqb h.id i) stacked) (take c.depth c.stack) in
      rw (whole_xs, whole_ys, ids, known-are, lawful_are, inside_are, clear_are, sum, many, named, long)

  spelled_shuffled : every_two other_id xs ≡ true → state_of c xs pool ≡ state_of c ys pool
  unfolding state_of
  spelled_shuffled d =
      let irr = settled_shuffled (clauses_shuffled 0 pool s) (clauses_differ 0 pool xs d) in
      let lrn = settled_shuffled (clauses_shuffled 1 pool s) (clauses_differ 1 pool xs d) in
      let ids = reverse (take c.depth c.stack) in
      let stk : map (fetch (clauses 2 pool xs)) ids ≡ map (fetch (clauses 2 pool ys)) ids = map_same
      (all_indexed ids 0 (λ k h. fetch_shuffled stacked (clauses_differ 2 pool xs d) (get_or ids k 0))) in
      rw (whole_xs, whole_ys, irr, lrn, stk, long)

-- ---- rows without words that start at 0

module _ {A B : Type 0} (f : A → B) where
  all_mapped : (p : B → Bool) (q : A → Bool) → ((x : A) → p (f x) ≡ q x) → (xs : List A) → all_pass p (map f xs) ≡ all_pass q xs
  unfolding all_pass
  all_mapped p q e [] = refl
  all_mapped p q e (x ∷ xs) = let a = e x in let b = all_mapped p q e xs in rw (a, b)

  two_mapped : (p : B → B → Bool) (q : A → A → Bool) → ((x y : A) → p (f x) (f y) ≡ q x y) → (xs : List A) → every_two p (map f xs) ≡ every_two q xs
  unfolding every_two
  two_mapped p q e [] = refl
  two_mapped p q e (x ∷ xs) = let a = all_mapped (p (f x)) (q x) (e x) xs in let b = two_mapped p q e xs in rw (a, b)

  total_mapped : (g : B → ℕ) (h : A → ℕ) → ((x : A) → g (f x) ≡ h x) → (xs : List A) → total g (map f xs) ≡ total h xs
  total_mapped g h e [] = refl
  total_mapped g h e (x ∷ xs) = omega (arith, e x, total_mapped g h e xs)

-- the row as it was, or one without words that had none
tidied_cases : (P : Row → Type 0) (r : Row) → (size r ≡ 0 → P (moved_row r (place_of r) 0 0 0)) → P r → P (tidied r)
tidied_cases P r f g = by_cases (eqb (size r) 0) (λ e. rw e (f (eqb-true (size r) 0 e))) (λ e. rw e g)

tidied_size : (r : Row) → size (tidied r) ≡ size r
tidied_size r = tidied_cases (λ x. size x ≡ size r) r (λ e. sym e) refl

tidied_entry : (pool : List ℤ) (r : Row) → in_place pool (tidied r) ≡ in_place pool r
tidied_entry pool r = tidied_cases (λ x. in_place pool x ≡ in_place pool r) r
    (λ e. let a : length_of r ≡ 0 = omega arith in let b : witness_of r ≡ 0 = omega arith in rw (a, b))
    refl

tidied_inside : (words : ℕ) (r : Row) → inside words (tidied r) ≡ inside words r
tidied_inside words r = tidied_cases (λ x. inside words x ≡ inside words r) r (λ e. let q = eq-eqb (size r) 0 e in rw q) refl

tidied_clear : (r x : Row) → clear (tidied r) (tidied x) ≡ clear r x
tidied_clear r x = tidied_cases (λ y. clear y (tidied x) ≡ clear r x) r
    (λ e. let q = eq-eqb (size r) 0 e in rw q)
    (tidied_cases (λ y. clear r y ≡ clear r x) x
    (λ e. let q = eq-eqb (size x) 0 e in by_cases (eqb (size r) 0) (λ f. rw f) (λ f. rw (f, q)))
    refl)

entries_tidied : (pool : List ℤ) (rows : List Row) → map (in_place pool) (map tidied rows) ≡ map (in_place pool) rows
entries_tidied pool [] = refl
entries_tidied pool (r ∷ rows) = let a = tidied_entry pool r in let b = entries_tidied pool rows in rw (a, b)

clauses_tidied : (p : ℕ) (pool : List ℤ) (rows : List Row) → clauses p pool (map tidied rows) ≡ clauses p pool rows
clauses_tidied p pool rows = clauses_spell p pool (map tidied rows) ∙ ap (spell p) (entries_tidied pool rows) ∙ sym (clauses_spell p pool rows)

module _ (c : Carried) (pool : List ℤ) (rows : List Row) (n : c.count ≡ length rows) where
  whole : take c.count rows ≡ rows
  whole = held_all c rows n

  neat_long : length (map tidied rows) ≡ length rows
  neat_long = length-map rows tidied

  whole_neat : take c.count (map tidied rows) ≡ map tidied rows
  whole_neat = held_all c (map tidied rows) (n ∙ sym neat_long)

  entry_id : (r : Row) → id_of (tidied r) ≡ id_of r
  entry_id r = ap (λ (e : InPlace). e.what.id) (tidied_entry pool r)

  state_tidied : is_state c (map tidied rows) pool ≡ is_state c rows pool
  unfolding is_state
  state_tidied =
      let ids = two_mapped tidied other_id other_id (λ r x. let a = entry_id r in let b = entry_id x in rw (a, b)) rows in
      let known-are = all_mapped tidied (known c.highest) (known c.highest) (λ r. ap (λ i. ltb 0 i && leb i c.highest) (entry_id r)) rows in
      let lawful_are = all_mapped tidied (λ r. lawful c.vars (place_of r) (held pool r)) (λ r. lawful c.vars (place_of r) (held pool r))
      (λ r. ap (λ (e : InPlace). lawful c.vars e.where_is e.what) (tidied_entry pool r)) rows in
      let inside_are = all_mapped tidied (inside (length pool)) (inside (length pool)) (tidied_inside (length pool)) rows in
      let clear_are = two_mapped tidied clear clear tidied_clear rows in
      let sum = total_mapped tidied size size tidied_size rows in
      let stacked-are = clauses_tidied 2 pool rows in
      rw (whole, whole_neat, ids, known-are, lawful_are, inside_are, clear_are, sum, stacked-are, neat_long)

  spelled_tidied : state_of c (map tidied rows) pool ≡ state_of c rows pool
  unfolding state_of
  spelled_tidied =
      let irr = clauses_tidied 0 pool rows in
      let lrn = clauses_tidied 1 pool rows in
      let stk = clauses_tidied 2 pool rows in
      rw (whole, whole_neat, irr, lrn, stk, neat_long)

-- ---- both

tidied_tidy : (r : Row) → is_tidy (tidied r) ≡ true
tidied_tidy r = by_cases (eqb (size r) 0) (λ e. rw e) (λ e. rw (e, e))

pub arranged_tidy : (rows : List Row) {rows' : List Row} → Shuffled (map tidied rows) rows' → all_pass is_tidy rows' ≡ true
arranged_tidy rows s = sym (all_shuffled is_tidy s) ∙ all_mapped tidied is_tidy (λ r. true) tidied_tidy rows ∙ all_of (λ r. true) rows (λ r m. refl)

module _ (c : Carried) (pool : List ℤ) (rows : List Row) {rows' : List Row} (n : c.count ≡ length rows) (s : Shuffled (map tidied rows) rows') where
  neat_count : c.count ≡ length (map tidied rows)
  neat_count = n ∙ sym (length-map rows tidied)

  pub arranged_state : is_state c rows pool ≡ is_state c rows' pool
  arranged_state = sym (state_tidied c pool rows n) ∙ state_shuffled c pool s neat_count

  pub arranged_spelled : every_two other_id rows' ≡ true → state_of c rows pool ≡ state_of c rows' pool
  arranged_spelled d =
      sym (spelled_tidied c pool rows n) ∙ spelled_shuffled c pool s neat_count (two_shuffled other_id (λ r x. differ_flip (id_of r) (id_of x)) s ∙ d)

  pub arranged_count : c.count ≡ length rows'
  arranged_count = neat_count ∙ length_shuffled s
