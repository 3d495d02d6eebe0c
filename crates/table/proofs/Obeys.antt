-- What the working table spells obeys Terms.
use mathlib.Core.Path.{◌≡◌, refl, ap}
use mathlib.Core.Bool.{Bool, true}
use mathlib.Core.List.{List, [], ◌∷◌, ◌++◌}
use Prim.Native.Nat.{ℕ, zero, suc, ◌+◌, ◌<◌, ◌≤◌}
use native.Mathlib.Omega.{arith}
use lib.Dec.{eqb}
use lib.IntN.{ℤ}
use borrow.Author.Tests.{lt-ltb, le-leb, eqb-true, ne_eqb}
use Rattle.rules.specs.Lists.{all_pass}
use Rattle.rules.specs.Terms.{Held, State, everything, tally, is_id, is_plain, is_record, Terms}
use Rattle.rules.proofs.Lists.{by_cases, and_both, all_append}
use Rattle.rules.proofs.Places.{one, tally_append}
use Rattle.table.specs.Facts.{All, none, both, alone, ahead, total}
use Rattle.table.specs.Spelled.{Row, id_of, place_of, held, clauses, held_rows, spelled, Known, Lawful, Rising, Fit}
use Rattle.table.specs.declared.Table.{Table}
use Rattle.table.proofs.Facts.{all_more}
use Rattle.table.proofs.Places.{tally_settled}
use Rattle.table.proofs.Clauses.{clauses_all, clauses_rising, records_all}
use Rattle.table.proofs.Overlap.{apart_fit}
use Rattle.table.proofs.Readers.{over_places, placed, count_held, words_held, gone_most}

-- ---- of a row, by its place

module _ (vars : ℕ) (h : Held) where
  plain_test : (p : ℕ) → p < 2 → Lawful vars p h → is_plain vars h ≡ true
  unfolding Lawful is_plain
  plain_test zero k l = let e = l.1 in and_both l.0 (rw e)
  plain_test (suc zero) k l = let e = l.1 in and_both l.0 (rw e)
  plain_test (suc (suc p)) k l = absurd (omega arith)

  record_test : Lawful vars 2 h → is_record vars h ≡ true
  unfolding Lawful is_record
  record_test l = and_both l.0 l.1

known_id : (highest : ℕ) (pool : List ℤ) (r : Row) → Known highest r → is_id highest (held pool r) ≡ true
unfolding is_id
known_id highest pool r k = and_both (lt-ltb 0 (id_of r) k.0) (le-leb (id_of r) highest k.1)

-- ---- no id twice

later_none : (i : ℕ) {rows : List Row} → All (λ x. i < id_of x) rows → total (λ x. one (id_of x) i) rows ≡ 0
later_none i none = refl
later_none i (both {x} h a) = let n = ne_eqb (id_of x) i (λ (z : id_of x ≡ i). omega arith) in rw n (omega (arith, later_none i a))

rising_once : (i : ℕ) {rows : List Row} → Rising rows → total (λ x. one (id_of x) i) rows ≤ 1
rising_once i alone = omega arith
rising_once i (ahead {x} {xs} a s) = by_cases (eqb (id_of x) i)
    (λ e. let q = eqb-true (id_of x) i e in rw e (omega (arith, later_none i {rows = xs} (rw q at a))))
    (λ e. rw e (omega (arith, rising_once i s)))

tally_nil : (i : ℕ) → tally i [] ≡ 0
unfolding tally
tally_nil i = refl

tally_cons : (i : ℕ) (h : Held) (hs : List Held) → tally i (h ∷ hs) ≡ one h.id i + tally i hs
unfolding tally
tally_cons i h hs = refl

-- ---- all of it

module _ {t : Table} {rows : List Row} {pool : List ℤ} {stack : List ℕ} (f : Fit t rows pool stack) where
  abbrev rs : List Row
  rs = held_rows t rows

  abbrev s : State
  s = spelled t rows pool stack

  single : (i : ℕ) → tally i (everything s) ≤ 1
  single i =
      omega (
        arith,
        tally_append i s.irredundant (s.learned ++ s.stack),
        tally_append i s.learned s.stack,
        tally_settled i s.stack,
        ap (tally i) f.core.listed.whole,
        over_places (λ h. one h.id i) (tally i) (tally_nil i) (tally_cons i) pool rs (placed f),
        rising_once i f.core.rising,
      )

  -- what is lawful in a place, all clauses of the place are
  placed_all : (p : ℕ) (q : Held → Bool) → ((h : Held) → Lawful t.vars p h → q h ≡ true) → all_pass q (clauses p pool rs) ≡ true
  placed_all p q k = clauses_all p pool q (all_more (λ r l e. let z = eqb-true (place_of r) p e in k (held pool r) (rw z at l)) f.core.lawful)

  plains : (p : ℕ) → p < 2 → all_pass (is_plain t.vars) (clauses p pool rs) ≡ true
  plains p h = placed_all p (is_plain t.vars) (λ x l. plain_test t.vars x p h l)

  -- what all stacked clauses are, all records are
  stacked_all : (q : Held → Bool) → all_pass q (clauses 2 pool rs) ≡ true → all_pass q s.stack ≡ true
  stacked_all q a = records_all q (clauses 2 pool rs) a f.core.listed.each

  records : all_pass (is_record t.vars) s.stack ≡ true
  records = stacked_all (is_record t.vars) (placed_all 2 (is_record t.vars) (record_test t.vars))

  ids : (p : ℕ) → all_pass (is_id t.highest) (clauses p pool rs) ≡ true
  ids p = clauses_all p pool (is_id t.highest) (all_more (λ r k _. known_id t.highest pool r k) f.core.known)

  pub spelled_terms : Terms s
  spelled_terms = record {
    vars_in_range = and_both (lt-ltb 0 t.vars f.vars_fit.0) (le-leb t.vars 2048 f.vars_fit.1);
    ids_distinct = single;
    ids_in_range = all_append (is_id t.highest) s.irredundant (s.learned ++ s.stack) (ids 0)
        (all_append (is_id t.highest) s.learned s.stack (ids 1) (stacked_all (is_id t.highest) (ids 2)));
    irredundant = plains 0 (omega arith);
    learned = plains 1 (omega arith);
    stack = records;
    irredundant_rising = clauses_rising 0 pool f.core.rising;
    learned_rising = clauses_rising 1 pool f.core.rising;
    within_entries = omega (arith, count_held f, gone_most f, f.held_fit);
    within_words = omega (arith, words_held f, f.core.counted, apart_fit t.top f.core.inside f.core.apart, f.pool_fit);
  }
