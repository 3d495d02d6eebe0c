-- What an id names in the allowed set, where ids rise.
use mathlib.Core.Path.{◌≡◌, refl, sym, ◌∙◌, ap, subst}
use mathlib.Core.Bool.{Bool, true, false, not, cond}
use mathlib.Core.List.{List, [], ◌∷◌, map}
use Prim.Native.Nat.{ℕ, zero, suc, ◌<◌, ◌≤◌}
use native.Mathlib.Nat.{le_of_suc-le-suc, not-suc-le-zero}
use native.Mathlib.Omega.{arith}
use lib.Dec.{eqb}
use lib.IntN.{ℤ, pos, negsuc}
use lib.ListN.{length}
use mir.Syntax.{w32}
use mir.Val.{SFits}
use mir.Facts.{to_z-of_z}
use borrow.Author.Tests.{lt-ltb, le-ltb, eq-eqb, ne_eqb}
use Rattle.rules.specs.Lists.{any_passes, only}
use Rattle.rules.specs.Terms.{Held, fetch}
use Rattle.rules.specs.Frames.{number}
use Rattle.rules.specs.Propagation.{nobody, clause, Allowed, among, named}
use Rattle.rules.proofs.Lists.{by_cases}
use Rattle.lit.proofs.Signed.{back, said}
use Rattle.table.specs.Facts.{All, none, both, ahead}
use Rattle.table.specs.Spelled.{Row, row_at, id_of, place_of, clause_part, held, Rising, Located}
use Rattle.std.specs.Prelude.{Option, Some, None}
use Rattle.table.proofs.Facts.{all_index, all_indexed, all_more}
use Rattle.judge_propagate.specs.Scope.{permits, allowed_of, Positive, Picked}
use Rattle.judge_propagate.specs.declared.Scope.{Scope}

pub among_cons : (h : Held) (hs : List Held) (i : ℕ) → among (h ∷ hs) i ≡ cond (eqb h.id i) (clause h.lits) (among hs i)
unfolding among any_passes fetch
among_cons h hs i = by_cases (eqb h.id i) (λ e. rw e) (λ e. rw e)

-- ---- among the rows that a test lets through

module _ (p : Row → Bool) (pool : List ℤ) where
  abbrev pub through : List Row → Allowed
  through rows = among (map (held pool) (only p rows))

  -- a row of another id is passed over
  pub through_past : (r : Row) (rows : List Row) (i : ℕ) → eqb (id_of r) i ≡ false → through (r ∷ rows) i ≡ through rows i
  unfolding only
  through_past r rows i e = by_cases (p r) (λ t. rw t (among_cons (held pool r) (map (held pool) (only p rows)) i ∙ rw e)) (λ f. rw f)

  through_none : (rows : List Row) (i : ℕ) → All (λ r. id_of r ≡ i → ⊥) rows → through rows i ≡ nobody
  unfolding only among any_passes
  through_none [] i none = refl
  through_none (r ∷ rows) i (both h a) = through_past r rows i (ne_eqb (id_of r) i h) ∙ through_none rows i a

  -- the row of the id, before rows of later ids
  pub through_here : (r : Row) (rows : List Row) → All (λ x. id_of r < id_of x) rows →
      through (r ∷ rows) (id_of r) ≡ cond (p r) (clause (clause_part pool r)) nobody
  unfolding only
  through_here r rows a = by_cases (p r)
      (λ t. rw t (among_cons (held pool r) (map (held pool) (only p rows)) (id_of r) ∙ rw (eq-eqb (id_of r) (id_of r) refl)))
      (λ f. rw f (through_none rows (id_of r) (all_more (λ x l (z : id_of x ≡ id_of r). omega arith) a)))

  through_at : (rows : List Row) (k : ℕ) → Rising rows → k < length rows
      → through rows (id_of (row_at rows k)) ≡ cond (p (row_at rows k)) (clause (clause_part pool (row_at rows k))) nobody
  through_at [] k up h = absurd (not-suc-le-zero h)
  through_at (r ∷ rows) zero (ahead a up) h = through_here r rows a
  through_at (r ∷ rows) (suc k) (ahead a up) h =
      let l = all_index a k [] (le_of_suc-le-suc h) in
      through_past r rows (id_of (row_at rows k)) (ne_eqb _ _ (λ (z : id_of r ≡ id_of (row_at rows k)). omega arith))
      ∙ through_at rows k up (le_of_suc-le-suc h)

-- ---- the two tests of a row

module _ (scope : Scope) (r : Row) {p : ℕ} (e : p ≡ place_of r) where
  pub permits_far : scope.places ≤ p → permits scope r ≡ false
  permits_far a = rw (← e, le-ltb p scope.places a)

  pub permits_near : {i : ℕ} {b : Bool} → p < scope.places → i ≡ id_of r → not (eqb i scope.except) ≡ b → permits scope r ≡ b
  permits_near {i} a d h = rw (← e, ← d, lt-ltb p scope.places a) h

-- ---- what a hint names

module _ (rows : List Row) (scope : Scope) (hint : ℤ) (ids : Positive rows) (pool : List ℤ) where
  -- a negative word names nobody, as 0 does
  by_number : named (allowed_of scope pool rows) hint ≡ allowed_of scope pool rows (number hint)
  unfolding allowed_of
  by_number = at hint
    where
      at : (h : ℤ) → named (through (permits scope) pool rows) h ≡ through (permits scope) pool rows (number h)
      at (pos n) = refl
      at (negsuc n) =
          sym (through_none (permits scope) pool rows 0 (all_indexed rows [] (λ k h (z : id_of (row_at rows k) ≡ 0). let q = ids k h in omega arith)))

  pub names_none : Located rows (number hint) None → named (allowed_of scope pool rows) hint ≡ nobody
  unfolding allowed_of
  names_none n = by_number ∙ through_none (permits scope) pool rows (number hint) (all_indexed rows [] n)

  pub names_at : (k : ℕ) → Rising rows → Located rows (number hint) (Some k)
      → named (allowed_of scope pool rows) hint ≡ cond (permits scope (row_at rows k)) (clause (clause_part pool (row_at rows k))) nobody
  unfolding allowed_of
  names_at k up l = by_number ∙ ap (allowed_of scope pool rows) (sym l.1) ∙ through_at (permits scope) pool rows k up l.0

-- ---- what is picked, by the search for the word as a number

module _ (rows : List Row) {hint : ℤ} (ids : Positive rows) (fits : SFits w32 hint) {n : ℕ} (e : n ≡ number (back hint)) (scope : Scope) where
  pub picks_none : Located rows n None → Picked rows scope hint None
  picks_none l pool = names_none rows scope hint ids pool (subst (λ i. Located rows i None) (said number fits e) l)

  module _ (up : Rising rows) (k : ℕ) (l : Located rows n (Some k)) where
    abbrev row : Row
    row = row_at rows k

    located : Located rows (number hint) (Some k)
    located = subst (λ i. Located rows i (Some k)) (said number fits e) l

    names : {b : Bool} → permits scope row ≡ b → (pool : List ℤ) → named (allowed_of scope pool rows) hint ≡ cond b (clause (clause_part pool row)) nobody
    names q pool = names_at rows scope hint ids pool k up located ∙ ap (λ b. cond b (clause (clause_part pool row)) nobody) q

    pub picks : permits scope row ≡ true → Picked rows scope hint (Some k)
    picks q = (located.0, names q)

    pub picks_not : permits scope row ≡ false → Picked rows scope hint None
    picks_not q = names q

-- what was picked by the bits of the hint was picked by the hint
pub by_bits : (rows : List Row) (scope : Scope) {hint : ℤ} → SFits w32 hint → (r : Option ℕ) → Picked rows scope (back hint) r → Picked rows scope hint r
by_bits rows scope f r p = subst (λ l. Picked rows scope l r) (to_z-of_z f) p

pub named_by : (rows : List Row) (scope : Scope) {hint : ℤ} → SFits w32 hint → (k : ℕ) → Picked rows scope (back hint) (Some k) → (pool : List ℤ)
    → {lits : List ℤ} → lits ≡ clause_part pool (row_at rows k) → named (allowed_of scope pool rows) hint ≡ clause lits
named_by rows scope f k p pool e = (by_bits rows scope f (Some k) p).1 pool ∙ ap clause (sym e)
