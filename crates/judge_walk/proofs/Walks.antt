-- One turn of each loop, over what is left.
use mathlib.Core.Path.{◌≡◌, refl, sym, ◌∙◌, ap, ap₂}
use mathlib.Core.Bool.{Bool, true, false, not, true≢false}
use mathlib.Core.List.{List, [], ◌∷◌}
use Prim.Native.Nat.{ℕ, ◌+◌, ◌-◌, ◌≤◌, ◌<◌}
use native.Mathlib.Omega.{arith}
use lib.Dec.{eqb}
use lib.IntN.{ℤ}
use lib.ListN.{length, get_or, take, drop, drop_of_length-le}
use borrow.Author.Tests.{eq-eqb, ne_eqb, eqb-true}
use Rattle.rules.specs.Lists.{any_passes, only}
use Rattle.rules.specs.Terms.{Literals, holds, opposes, Assignment, lit, sat, clean, Held, has, fetch}
use Rattle.rules.specs.Frames.{mend, make}
use Rattle.rules.specs.Answers.{◌then◌, need, satisfied, assumed_true, cleanly}
use Rattle.rules.specs.declared.Fault.TheVariants.{Falsified, Assumption, Unclean}
use Rattle.std.specs.Prelude.{Ok, Err}
use Rattle.table.specs.Spelled.{Row, row_at, id_of, place_of, held, clause_part, witness_part, stands, clauses, Rising, Located}
use Rattle.std.specs.Prelude.{Option, Some, None, IsSome}
use Rattle.table.proofs.Finding.{nowhere, has_at, fetch_at}
use Rattle.table.proofs.Readers.{from_top_next}
use Rattle.lit_clause.proofs.Clean.{clean_is}
use Rattle.lit_clause.proofs.Faults.{Scan}
use Rattle.rules.proofs.Lists.{from_index, by_cases, not-true, and_left, and_right}
use Rattle.judge_walk.specs.Records.{Record, records, falsified, is_stacked}

-- ---- assumptions, checked one after the other

module _ (α : Assignment) where
  pub assumed_end : (s : Unit {0}) (n : ℕ) → assumed_true α n [] ≡ Ok tt
  unfolding assumed_true
  assumed_end s n = refl

  pub assumed_word : (s : Unit {0}) (n : ℕ) (l : ℤ) (c : List ℤ) → assumed_true α n (l ∷ c) ≡ (need (lit α l) (Assumption n) then assumed_true α (n + 1) c)
  unfolding assumed_true
  assumed_word s n l c = refl

  abbrev pub assumptions : Scan (Unit {0})
  assumptions =
      record { run = λ s. assumed_true α; sound = λ s. lit α; keep = λ s l. s; fault = Assumption; at_end = assumed_end; at_word = assumed_word }

-- ---- irredundant clauses

module _ (α : Assignment) (pool : List ℤ) (rows : List Row) (k : ℕ) where
  abbrev r : Row
  r = row_at rows k

  pub row_passes : k < length rows → falsified α pool r ≡ false → satisfied α (clauses 0 pool (drop k rows)) ≡ satisfied α (clauses 0 pool (drop (k + 1) rows))
  unfolding only satisfied ◌then◌ need falsified
  row_passes h f =
      let e = from_index rows k [] h in
      by_cases (stands 0 r)
      (λ p. by_cases (sat α (clause_part pool r)) (λ t. rw (e, p, t)) (λ t. let z : true ≡ false = rw (p, t) at f in absurd (true≢false z)))
      (λ p. rw (e, p))

  pub row_fails : k < length rows → falsified α pool r ≡ true → satisfied α (clauses 0 pool (drop k rows)) ≡ Err (Falsified (id_of r))
  unfolding only satisfied ◌then◌ need falsified
  row_fails h f =
      let e = from_index rows k [] h in
      let p = and_left (stands 0 r) (not (sat α (clause_part pool r))) f in
      let t : sat α (clause_part pool r) ≡ false = not-true (and_right (stands 0 r) (not (sat α (clause_part pool r))) f) in
      rw (e, p, t)

  pub rows_true : length rows ≤ k → satisfied α (clauses 0 pool (drop k rows)) ≡ Ok tt
  unfolding only satisfied
  rows_true h = let e = drop_of_length-le rows h in rw e

-- ---- one row

module _ (α : Assignment) (pool : List ℤ) (r : Row) where
  pub elsewhere : (place_of r ≡ 0 → ⊥) → falsified α pool r ≡ false
  unfolding falsified
  elsewhere n = rw (ne_eqb (place_of r) 0 n)

  pub irredundant_row : place_of r ≡ 0 → falsified α pool r ≡ not (sat α (clause_part pool r))
  unfolding falsified
  irredundant_row p = rw (eq-eqb (place_of r) 0 p)

-- ---- the row of a record

pub has_stacked : (pool : List ℤ) (rows : List Row) (i : ℕ) → has (clauses 2 pool rows) i ≡ is_stacked rows i
unfolding any_passes only is_stacked
has_stacked pool [] i = refl
has_stacked pool (r ∷ rows) i = let q = has_stacked pool rows i in by_cases (stands 2 r) (λ p. rw (p, q)) (λ p. rw (p, q))

module _ (rows : List Row) (rising : Rising rows) (i : ℕ) (m : is_stacked rows i ≡ true) where
  pub found : (k : ℕ) → Located rows i (Some k) → Record rows i k
  found k l =
      let q = l.1 in
      let there : (pool : List ℤ) → eqb (place_of (row_at rows k)) 2 ≡ true = λ pool. sym (has_at pool rows rising k l.0 2)
      ∙ rw q (has_stacked pool rows i ∙ m) in
      record { below = l.0; held_there = λ pool. rw (← q) (fetch_at pool rows rising k l.0 2 (eqb-true (place_of (row_at rows k)) 2 (there pool))) }

  pub is_there : (r : Option ℕ) → Located rows i r → IsSome r
  is_there (Some k) l = refl
  is_there None l = absurd (true≢false (sym m ∙ sym (has_stacked [] rows i) ∙ nowhere [] rows i l 2))

-- ---- what a scan of a witness, by the set of a clause's literals, said of the two

pub scanned : (c : List ℤ) {w scan : List ℤ} {S : Literals} {r : Bool} → S ≡ holds c → scan ≡ w → r ≡ any_passes (opposes S) scan → clean c w ≡ not r
scanned c {w} m q e = clean_is c w ∙ ap not (sym (e ∙ ap₂ (λ S d. any_passes (opposes S) d) m q))

-- ---- records, from the top: those below the index j are left

mend_none : (α : Assignment) → mend α [] ≡ α
unfolding mend
mend_none α = refl

-- a record whose clause is true, and one whose clause is not
mend_true : (α : Assignment) (r : Held) (rs : List Held) → sat α r.lits ≡ true → mend α (r ∷ rs) ≡ mend α rs
unfolding mend
mend_true α r rs t = rw t

mend_false : (α : Assignment) (r : Held) (rs : List Held) → sat α r.lits ≡ false → mend α (r ∷ rs) ≡ mend (make α r.witness) rs
unfolding mend
mend_false α r rs f = rw f

module _ (pool : List ℤ) (rows : List Row) (ids : List ℕ) where
  -- those below j
  abbrev pub below : ℕ → List Held
  below j = records pool rows (take j ids)

  -- the record on top of those below j, whose row is k
  module _ (j : ℕ) (h : 0 < j) (inside : j ≤ length ids) (k : ℕ) (q : fetch (clauses 2 pool rows) (get_or ids (j - 1) 0) ≡ held pool (row_at rows k)) where
    abbrev row : Row
    row = row_at rows k

    top : below j ≡ held pool row ∷ below (j - 1)
    top =
        let e : j - 1 + 1 ≡ j = omega arith in
        let t = from_top_next ids (j - 1) (omega arith) in
        ap below (sym e) ∙ rw (t, q)

    pub top_clean : (c : List ℤ) → clean c (witness_part pool row) ≡ true → cleanly c (below j) ≡ cleanly c (below (j - 1))
    unfolding cleanly ◌then◌ need
    top_clean c t = let e = top in rw (e, t)

    pub top_unclean : (c : List ℤ) → clean c (witness_part pool row) ≡ false → cleanly c (below j) ≡ Err (Unclean (id_of row))
    unfolding cleanly ◌then◌ need
    top_unclean c f = let e = top in rw (e, f)

    pub top_true : (α : Assignment) → sat α (clause_part pool row) ≡ true → mend α (below j) ≡ mend α (below (j - 1))
    top_true α t = ap (mend α) top ∙ mend_true α (held pool row) (below (j - 1)) t

    pub top_false : (α : Assignment) → sat α (clause_part pool row) ≡ false → mend α (below j) ≡ mend (make α (witness_part pool row)) (below (j - 1))
    top_false α f = ap (mend α) top ∙ mend_false α (held pool row) (below (j - 1)) f

  pub bottom_clean : (j : ℕ) → j ≤ 0 → (c : List ℤ) → cleanly c (below j) ≡ Ok tt
  unfolding cleanly
  bottom_clean j h c = let e : j ≡ 0 = omega arith in rw e

  pub bottom : (j : ℕ) → j ≤ 0 → (α : Assignment) → mend α (below j) ≡ α
  bottom j h α = let e : j ≡ 0 = omega arith in ap (λ n. mend α (below n)) e ∙ mend_none α
