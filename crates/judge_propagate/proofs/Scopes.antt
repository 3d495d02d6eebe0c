-- What the scopes of the steps allow, in the places that the table spells.
use mathlib.Core.Path.{◌≡◌, refl, sym, ◌∙◌, ap, fun_ext}
use mathlib.Core.Bool.{Bool, ◌||◌, and-true}
use mathlib.Core.List.{List, [], ◌∷◌, ◌++◌, map}
use Prim.Native.Nat.{ℕ, zero, suc, ◌<◌}
use native.Mathlib.Omega.{arith}
use lib.Dec.{eqb, ltb}
use lib.IntN.{ℤ}
use borrow.Author.Tests.{eqb-true, le-ltb, ne_eqb}
use Rattle.rules.specs.Lists.{any_passes, only}
use Rattle.rules.specs.Terms.{Held, fetch}
use Rattle.rules.specs.Frames.{without}
use Rattle.rules.specs.Propagation.{Named, nobody, clause, among}
use Rattle.rules.proofs.Lists.{by_cases}
use Rattle.table.specs.Facts.{All, none, both, ahead}
use Rattle.table.specs.Spelled.{Row, id_of, place_of, held, stands, clauses, Rising, Listed, Readable}
use Rattle.table.proofs.Facts.{all_more, all_indexed}
use Rattle.table.proofs.Stacked.{listed_among}
use Rattle.judge_propagate.specs.Scope.{all_clauses, irredundant_but, permits, allowed_of}
use Rattle.judge_propagate.specs.declared.Scope.{Scope}
use Rattle.judge_propagate.proofs.Allowed.{among_cons, through, through_past, through_here}

only_same : {A : Type 0} {p q : A → Bool} {xs : List A} → All (λ x. p x ≡ q x) xs → only p xs ≡ only q xs
unfolding only
only_same none = refl
only_same {p} {q} (both {x} {xs} e a) = let t : only p xs ≡ only q xs = only_same a in rw (e, t)

-- ---- LEARN and UNSAT: the clauses of all three places

abbrev first : Named → Named → Named
first nobody w = w
first (clause c) w = clause c

among_append : (hs gs : List Held) (i : ℕ) → among (hs ++ gs) i ≡ first (among hs i) (among gs i)
unfolding among any_passes
among_append [] gs i = refl
among_append (h ∷ hs) gs i =
    among_cons h (hs ++ gs) i ∙ rw (among_cons h hs i, among_append hs gs i) (by_cases (eqb h.id i) (λ e. rw e) (λ e. rw e))

module _ (p q : Row → Bool) (pool : List ℤ) where
  -- where ids rise, no row is taken for another
  merged : (rows : List Row) (i : ℕ) → Rising rows → first (through p pool rows i) (through q pool rows i) ≡ through (λ r. p r || q r) pool rows i
  unfolding only among any_passes
  merged [] i up = refl
  merged (r ∷ rows) i (ahead a up) = by_cases (eqb (id_of r) i)
      (λ e. rw (← eqb-true (id_of r) i e, through_here p pool r rows a, through_here q pool r rows a, through_here (λ x. p x || q x) pool r rows a)
      (by_cases (p r) (λ t. rw t) (λ f. rw f)))
      (λ e. rw (through_past p pool r rows i e, through_past q pool r rows i e, through_past (λ x. p x || q x) pool r rows i e) (merged rows i up))

below_three : (n : ℕ) → (eqb n 0 || (eqb n 1 || eqb n 2)) ≡ ltb n 3
below_three zero = refl
below_three (suc zero) = refl
below_three (suc (suc zero)) = refl
below_three (suc (suc (suc n))) =
    let m = suc (suc (suc n)) in rw (ne_eqb m 0 (λ e. omega arith), ne_eqb m 1 (λ e. omega arith), ne_eqb m 2 (λ e. omega arith), le-ltb m 3 (omega arith))

-- the scope lets the rows of the three places through, and no others
three_places : {rows : List Row} {pool : List ℤ} → Readable rows pool
    → only (permits all_clauses) rows ≡ only (λ r. stands 0 r || (stands 1 r || stands 2 r)) rows
three_places {rows} t = only_same
    (all_more (λ r (h : 0 < id_of r). rw (below_three (place_of r), ne_eqb (id_of r) 0 (λ (z : id_of r ≡ 0). omega arith), and-true (ltb (place_of r) 3)))
    (all_indexed rows [] t.positive))

-- where the stack lists the stacked clauses, they are named among its records
pub allows_all : {scope : Scope} {rows : List Row} {pool : List ℤ} {ids : List ℕ} → scope ≡ all_clauses → Readable rows pool
    → Listed (clauses 2 pool rows) ids →
    allowed_of scope pool rows ≡ among (clauses 0 pool rows ++ (clauses 1 pool rows ++ map (fetch (clauses 2 pool rows)) ids))
unfolding allowed_of
allows_all {scope} {rows} {pool} {ids} q t l =
    let records = map (fetch (clauses 2 pool rows)) ids in
    rw q (fun_ext (λ i. ap (λ rs. among (map (held pool) rs) i) (three_places t)
    ∙ sym (merged (stands 0) (λ r. stands 1 r || stands 2 r) pool rows i t.rising)
    ∙ ap (first (among (clauses 0 pool rows) i))
    (sym (merged (stands 1) (stands 2) pool rows i t.rising) ∙ ap (first (among (clauses 1 pool rows) i)) (sym (listed_among l i))
    ∙ sym (among_append (clauses 1 pool rows) records i))
    ∙ sym (among_append (clauses 0 pool rows) (clauses 1 pool rows ++ records) i)))

-- ---- DROP and WEAKEN: the irredundant clauses but one

below_one : (n : ℕ) → eqb n 0 ≡ ltb n 1
below_one zero = refl
below_one (suc n) = ne_eqb (suc n) 0 (λ e. omega arith) ∙ sym (le-ltb (suc n) 1 (omega arith))

pub others : (rows : List Row) (pool : List ℤ) (i : ℕ) → Rising rows →
    map (held pool) (only (permits (irredundant_but i)) rows) ≡ without (clauses 0 pool rows) i
unfolding only without
others [] pool i up = refl
others (r ∷ rows) pool i (ahead a up) =
    let rest = others rows pool i up in
    let q = below_one (place_of r) in
    rw (← q) (by_cases (stands 0 r)
    (λ t. by_cases (eqb (id_of r) i)
    (λ e. rw (t, e) (ap (map (held pool)) (only_same (all_more (λ x l. none_left x (λ (z : id_of x ≡ i). let y = eqb-true (id_of r) i e in omega arith)) a))))
    (λ f. rw (t, f, rest)))
    (λ f. rw (f, rest)))
  where
    none_left : (x : Row) → (id_of x ≡ i → ⊥) → permits (irredundant_but i) x ≡ stands 0 x
    none_left x n = rw (ne_eqb (id_of x) i n, and-true (ltb (place_of x) 1)) (sym (below_one (place_of x)))

pub allows_others : {scope : Scope} {rows : List Row} {pool : List ℤ} (i : ℕ) → scope ≡ irredundant_but i → Readable rows pool →
    allowed_of scope pool rows ≡ among (without (clauses 0 pool rows) i)
unfolding allowed_of
allows_others {scope} {rows} {pool} i q t = rw q (ap among (others rows pool i t.rising))
