-- Rows by rising id that are all held: a test that fails makes what is lent and carried no state; where all pass the working table fits.
use mathlib.Core.Path.{◌≡◌, refl, sym}
use mathlib.Core.Bool.{Bool, true, false, ◌&&◌}
use mathlib.Core.List.{List, [], ◌∷◌}
use Prim.Native.Nat.{ℕ, ◌+◌, ◌<◌, ◌≤◌}
use native.Mathlib.Omega.{arith}
use lib.Dec.{eqb, ltb, leb}
use lib.IntN.{ℤ}
use lib.ListN.{length, take}
use borrow.Author.Tests.{le-ltb, lt-leb, le-leb, leb-true, eqb-true, ne_eqb}
use Rattle.rules.specs.Lists.{all_pass, only}
use Rattle.rules.proofs.Lists.{by_cases, true-false, and_left, and_right, and_both, all_at, all_of}
use Rattle.table.specs.Facts.{All, total}
use Rattle.table.specs.Spelled.{Row, place_of, start_of, size, held, stands, clauses, Rising, Inside, Lawful, Fit}
use Rattle.table.specs.declared.Table.{Table}
use Rattle.lent.specs.State.{every_two, other_id, known, lawful, inside, clear, lists, is_state}
use Rattle.lent.specs.declared.Carried.{Carried}
use Rattle.lent.proofs.Tests.{all_fact}
use Rattle.lent.proofs.Judged.{known_fact, lawful_fact, lawful_stays, all_stay, clears_fact}
use Rattle.lent.proofs.Listing.{stack_fact}
use Rattle.lent.proofs.Stored.{stored_is_state, stored_spells}
use Rattle.lent_order.specs.Orders.{is_tidy}
use Rattle.lent_order.proofs.Alike.{held_all}
use Rattle.lent_lawful.specs.Rights.{ends, right}
use Rattle.lent_load.specs.Loads.{Loads}
use Rattle.std.specs.Prelude.{Some}

-- ---- a row that is right

module _ (vars highest : ℕ) (pool : List ℤ) (r : Row) (t : right vars highest pool r ≡ true) where
  right_known : known highest r ≡ true
  right_known = and_left (known highest r) (ends (length pool) r && lawful vars (place_of r) (held pool r)) t

  right_more : (ends (length pool) r && lawful vars (place_of r) (held pool r)) ≡ true
  right_more = and_right (known highest r) (ends (length pool) r && lawful vars (place_of r) (held pool r)) t

  right_inside : Inside (length pool) r
  right_inside = leb-true (start_of r + size r) (length pool) (and_left (ends (length pool) r) (lawful vars (place_of r) (held pool r)) right_more)

  lawful_is : lawful vars (place_of r) (held pool r) ≡ true
  lawful_is = and_right (ends (length pool) r) (lawful vars (place_of r) (held pool r)) right_more

  right_lawful : Lawful vars (place_of r) (held pool r)
  right_lawful = lawful_fact vars (held pool r) (place_of r) lawful_is

  right_stays : stands 3 r ≡ false
  right_stays = lawful_stays vars (held pool r) (place_of r) lawful_is

-- a tidy row that lies inside ends there
tidy_ends : (words : ℕ) (r : Row) → is_tidy r ≡ true → inside words r ≡ true → ends words r ≡ true
tidy_ends words r t i = by_cases (eqb (size r) 0)
    (λ e. let a : eqb (start_of r) 0 ≡ true = rw e at t in let s = eqb-true (start_of r) 0 a in let z = eqb-true (size r) 0 e in
    le-leb (start_of r + size r) words (omega arith))
    (λ e. rw e at i)

rows_right : (vars highest : ℕ) (pool : List ℤ) (rows : List Row) → all_pass is_tidy rows ≡ true → all_pass (known highest) rows ≡ true
    → all_pass (inside (length pool)) rows ≡ true → all_pass (λ r. lawful vars (place_of r) (held pool r)) rows ≡ true →
    all_pass (right vars highest pool) rows ≡ true
rows_right vars highest pool rows t k i l = all_of (right vars highest pool) rows (λ r m.
    and_both (all_at (known highest) k m)
    (and_both (tidy_ends (length pool) r (all_at is_tidy t m) (all_at (inside (length pool)) i m))
    (all_at (λ x. lawful vars (place_of x) (held pool x)) l m)))

-- ---- how many are stacked

pub stacked_few : (pool : List ℤ) (rows : List Row) → length (clauses 2 pool rows) ≤ length rows
unfolding only
stacked_few pool [] = omega arith
stacked_few pool (r ∷ rows) = let i = stacked_few pool rows in by_cases (stands 2 r) (λ e. rw e (omega arith)) (λ e. rw e (omega arith))

-- ---- all that a state asks

pub record Parts (c : Carried) (rows : List Row) (pool : List ℤ) : Type 0 where
  pub vars_low : ltb 0 c.vars ≡ true
  pub vars_high : leb c.vars 2048 ≡ true
  pub highest_fits : leb c.highest 2147483647 ≡ true
  pub words_are : eqb c.words (total size rows) ≡ true
  pub depth_is : eqb c.depth (length (clauses 2 pool rows)) ≡ true
  pub ids_differ : every_two other_id rows ≡ true
  pub rows_known : all_pass (known c.highest) rows ≡ true
  pub rows_lawful : all_pass (λ r. lawful c.vars (place_of r) (held pool r)) rows ≡ true
  pub rows_inside : all_pass (inside (length pool)) rows ≡ true
  pub rows_clear : every_two clear rows ≡ true
  pub stack_lists : lists (take c.depth c.stack) (clauses 2 pool rows) ≡ true

both_of : (a b : Bool) → (a && b) ≡ true → (a ≡ true) × (b ≡ true)
both_of a b h = (and_left a b h, and_right a b h)

module _ (c : Carried) (rows : List Row) (pool : List ℤ) (n : c.count ≡ length rows) where
  abbrev stacked : Bool
  stacked = lists (take c.depth c.stack) (clauses 2 pool rows)

  abbrev lawful_are : Bool
  lawful_are = all_pass (λ r. lawful c.vars (place_of r) (held pool r)) rows

  abbrev inside_are : Bool
  inside_are = all_pass (inside (length pool)) rows

  pub parts_of : is_state c rows pool ≡ true → Parts c rows pool
  unfolding is_state
  parts_of h =
      let low = ltb 0 c.vars in
      let high = leb c.vars 2048 in
      let top = leb c.highest 2147483647 in
      let few = leb c.count (length rows) in
      let words = eqb c.words (total size rows) in
      let depth = eqb c.depth (length (clauses 2 pool rows)) in
      let ids = every_two other_id rows in
      let known-are = all_pass (known c.highest) rows in
      let apart = every_two clear rows in
      let w = held_all c rows n in
      let g : (((low && high) && top) && ((few && (words && depth)) && ((ids && (known-are && (lawful_are && (inside_are && apart)))) && stacked))) ≡ true =
      rw w at h in
      let a = both_of ((low && high) && top) ((few && (words && depth)) && ((ids && (known-are && (lawful_are && (inside_are && apart)))) && stacked)) g in
      let b = both_of (few && (words && depth)) ((ids && (known-are && (lawful_are && (inside_are && apart)))) && stacked) a.1 in
      let d = both_of (ids && (known-are && (lawful_are && (inside_are && apart)))) stacked b.1 in
      let v = both_of (low && high) top a.0 in
      let vs = both_of low high v.0 in
      let k = both_of words depth (and_right few (words && depth) b.0) in
      let r = both_of ids (known-are && (lawful_are && (inside_are && apart))) d.0 in
      let s = both_of known-are (lawful_are && (inside_are && apart)) r.1 in
      let t = both_of lawful_are (inside_are && apart) s.1 in
      let u = both_of inside_are apart t.1 in
      record {
        vars_low = vs.0;
        vars_high = vs.1;
        highest_fits = v.1;
        words_are = k.0;
        depth_is = k.1;
        ids_differ = r.0;
        rows_known = s.0;
        rows_lawful = t.0;
        rows_inside = u.0;
        rows_clear = u.1;
        stack_lists = d.1;
      }

  -- a test that fails
  no_state : (Parts c rows pool → ⊥) → is_state c rows pool ≡ false
  no_state f = by_cases (is_state c rows pool) (λ t. absurd (f (parts_of t))) (λ e. e)

  pub no_vars : c.vars ≡ 0 → is_state c rows pool ≡ false
  no_vars e = no_state (λ p. true-false p.vars_low (le-ltb 0 c.vars (omega arith)))

  pub vars_past : 2048 < c.vars → is_state c rows pool ≡ false
  vars_past h = no_state (λ p. true-false p.vars_high (lt-leb c.vars 2048 h))

  pub highest_past : 2147483647 < c.highest → is_state c rows pool ≡ false
  highest_past h = no_state (λ p. true-false p.highest_fits (lt-leb c.highest 2147483647 h))

  pub words_differ : (c.words ≡ total size rows → ⊥) → is_state c rows pool ≡ false
  words_differ e = no_state (λ p. true-false p.words_are (ne_eqb c.words (total size rows) e))

  pub some_overlap : every_two clear rows ≡ false → is_state c rows pool ≡ false
  some_overlap e = no_state (λ p. true-false p.rows_clear e)

  pub id_twice : every_two other_id rows ≡ false → is_state c rows pool ≡ false
  id_twice e = no_state (λ p. true-false p.ids_differ e)

  pub not_listed : lists (take c.depth c.stack) (clauses 2 pool rows) ≡ false → is_state c rows pool ≡ false
  not_listed e = no_state (λ p. true-false p.stack_lists e)

  -- deeper than there are rows
  pub too_deep : length rows < c.depth → is_state c rows pool ≡ false
  too_deep h = no_state (λ p. let e = eqb-true c.depth (length (clauses 2 pool rows)) p.depth_is in let l = stacked_few pool rows in omega arith)

  pub rights : all_pass is_tidy rows ≡ true → Parts c rows pool → all_pass (right c.vars c.highest pool) rows ≡ true
  rights t p = rows_right c.vars c.highest pool rows t p.rows_known p.rows_inside p.rows_lawful

  pub row_wrong : all_pass is_tidy rows ≡ true → all_pass (right c.vars c.highest pool) rows ≡ false → is_state c rows pool ≡ false
  row_wrong t e = no_state (λ p. true-false (rights t p) e)

-- ---- where all tests pass

pub record Tested (c : Carried) (rows : List Row) (pool : List ℤ) (top : ℕ) : Type 0 where
  pub counted : c.count ≡ length rows
  pub rising : Rising rows
  pub few : length rows ≤ 1024
  pub short : length pool ≤ 8192
  pub room : length c.stack ≡ 1024
  pub low : c.vars ≡ 0 → ⊥
  pub high : c.vars ≤ 2048
  pub highest : c.highest ≤ 2147483647
  pub right_are : all_pass (right c.vars c.highest pool) rows ≡ true
  pub words : c.words ≡ total size rows
  pub clear_are : every_two clear rows ≡ true
  pub deep : c.depth ≤ 1024
  pub listed : lists (take c.depth c.stack) (clauses 2 pool rows) ≡ true
  pub before : All (Inside top) rows
  pub within : top ≤ length pool

pub rights_inside : (vars highest : ℕ) (pool : List ℤ) (rows : List Row) → all_pass (right vars highest pool) rows ≡ true → All (Inside (length pool)) rows
rights_inside vars highest pool rows h = all_fact (right_inside vars highest pool) rows h

module _ {c : Carried} {rows : List Row} {pool : List ℤ} {top : ℕ} (p : Tested c rows pool top) where
  abbrev pub table : Table
  table = record { vars = c.vars; highest = c.highest; entries = c.count; count = c.count; gone = 0; words = c.words; depth = c.depth; top = top }

  fit : Fit table rows pool c.stack
  fit =
      let w = held_all c rows p.counted in
      let n = p.low in
      record {
        vars_fit = (omega arith, p.high);
        highest_fit = p.highest;
        entries_lent = omega (arith, p.counted, p.few);
        rows_lent = omega (arith, p.few);
        pool_lent = p.short;
        stack_lent = omega (arith, p.counted, p.few, p.room);
        entries_fit = omega (arith, p.counted);
        rows_fit = omega (arith, p.counted);
        held_fit = omega arith;
        pool_fit = p.within;
        stack_fit = omega (arith, p.deep, p.room);
        gone_fit = rw w (sym (all_stay (all_fact (right_stays c.vars c.highest pool) rows p.right_are)));
        core = rw w record {
          rising = p.rising;
          known = all_fact (λ r t. known_fact c.highest r (right_known c.vars c.highest pool r t)) rows p.right_are;
          inside = p.before;
          apart = clears_fact rows p.clear_are;
          lawful = all_fact (right_lawful c.vars c.highest pool) rows p.right_are;
          counted = p.words;
          listed = stack_fact (take c.depth c.stack) pool rows p.rising p.listed;
        };
      }

  pub loads : Loads c rows pool (Some table) rows
  loads = let n = sym p.counted in (stored_is_state fit refl rows refl n, fit, sym (stored_spells fit refl rows refl n))
