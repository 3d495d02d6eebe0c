-- The tests of a row, or of two, and the facts that the working table keeps of them.
use mathlib.Core.Path.{◌≡◌, refl}
use mathlib.Core.Logic.{◌⊎◌, ⊎_elim}
use mathlib.Core.Bool.{true, false, ◌||◌, false≢true}
use mathlib.Core.List.{List, [], ◌∷◌}
use Prim.Native.Nat.{ℕ, zero, suc, ◌+◌, ◌<◌, ◌≤◌}
use native.Mathlib.Omega.{arith}
use lib.Dec.{eqb, ltb, leb}
use lib.IntN.{ℤ}
use borrow.Author.Tests.{ltb-true, leb-true, eqb-true, lt-ltb, le-leb, eq-eqb, ne_eqb}
use Rattle.rules.specs.Terms.{is_clause, is_witness, null, Held, is_plain, is_record}
use Rattle.rules.proofs.Lists.{by_cases, true-false, and_left, and_right, and_both, or_right}
use Rattle.table.specs.Facts.{All, none, both, Pairs, total}
use Rattle.table.specs.Spelled.{Row, id_of, start_of, size, stands, Known, Inside, Clear, Lawful, Rising, gone_one}
use Rattle.lent.proofs.Tests.{or_fact, or_test, two_fact, two_test}
use Rattle.lent.specs.State.{every_two, other_id, known, lawful, inside, clear}

-- ---- "held ids are distinct": an earlier id is another

other_test : (r x : Row) → id_of r < id_of x → other_id r x ≡ true
other_test r x h = let e = ne_eqb (id_of x) (id_of r) (λ (z : id_of x ≡ id_of r). omega arith) in rw e

-- ---- "positive and not above the highest accepted"

module _ (highest : ℕ) (r : Row) where
  pub known_fact : known highest r ≡ true → Known highest r
  known_fact h = (
    ltb-true 0 (id_of r) (and_left (ltb 0 (id_of r)) (leb (id_of r) highest) h),
    leb-true (id_of r) highest (and_right (ltb 0 (id_of r)) (leb (id_of r) highest) h),
  )

  pub known_test : Known highest r → known highest r ≡ true
  known_test k = and_both (lt-ltb 0 (id_of r) k.0) (le-leb (id_of r) highest k.1)

-- ---- "every clause and witness obeys Terms within V, only stacked clauses have witnesses"

null_fact : (c : List ℤ) → null c ≡ true → c ≡ []
null_fact [] h = refl
null_fact (l ∷ c) h = absurd (false≢true h)

module _ (vars : ℕ) (h : Held) where
  plain_fact : is_plain vars h ≡ true → (is_clause vars h.lits ≡ true) × (h.witness ≡ [])
  unfolding is_plain
  plain_fact t =
      (and_left (is_clause vars h.lits) (null h.witness) t, null_fact h.witness (and_right (is_clause vars h.lits) (null h.witness) t))

  plain_test : (is_clause vars h.lits ≡ true) × (h.witness ≡ []) → is_plain vars h ≡ true
  unfolding is_plain
  plain_test l = let e = l.1 in and_both l.0 (rw e)

  pub lawful_fact : (p : ℕ) → lawful vars p h ≡ true → Lawful vars p h
  unfolding lawful Lawful is_record
  lawful_fact zero t = plain_fact t
  lawful_fact (suc zero) t = plain_fact t
  lawful_fact (suc (suc zero)) t = (
    and_left (is_clause vars h.lits) (is_witness vars h.lits h.witness) t,
    and_right (is_clause vars h.lits) (is_witness vars h.lits h.witness) t,
  )
  lawful_fact (suc (suc (suc p))) t = absurd (false≢true t)

  -- a clause that is gone is none of the paper's
  pub lawful_test : (p : ℕ) → eqb p 3 ≡ false → Lawful vars p h → lawful vars p h ≡ true
  unfolding lawful Lawful is_record
  lawful_test zero n l = plain_test l
  lawful_test (suc zero) n l = plain_test l
  lawful_test (suc (suc zero)) n l = and_both l.0 l.1
  lawful_test (suc (suc (suc zero))) n l = true-false refl n
  lawful_test (suc (suc (suc (suc p)))) n l = absurd l

  pub lawful_stays : (p : ℕ) → lawful vars p h ≡ true → eqb p 3 ≡ false
  unfolding lawful
  lawful_stays zero t = refl
  lawful_stays (suc zero) t = refl
  lawful_stays (suc (suc zero)) t = refl
  lawful_stays (suc (suc (suc p))) t = absurd (false≢true t)

-- ---- "all literals lie inside the pool"

pub inside_fact : (words : ℕ) (r : Row) → inside words r ≡ true → (size r ≡ 0) ⊎ Inside words r
inside_fact words r h = or_fact (eqb (size r) 0) (leb (start_of r + size r) words) (eqb-true (size r) 0) (leb-true (start_of r + size r) words) h

-- a part with words ends inside the pool
pub inside_filled : (words : ℕ) (r : Row) → inside words r ≡ true → start_of r < start_of r + size r → start_of r + size r ≤ words
inside_filled words r h k = ⊎_elim (λ (z : size r ≡ 0). absurd (omega arith)) (λ z. z) (inside_fact words r h)

pub inside_test : (top words : ℕ) (r : Row) → top ≤ words → Inside top r → inside words r ≡ true
inside_test top words r h i = or_right (eqb (size r) 0) _ (le-leb (start_of r + size r) words (omega arith))

-- ---- "with no overlap"

module _ (r x : Row) where
  abbrev end_r : ℕ
  end_r = start_of r + size r

  abbrev end_x : ℕ
  end_x = start_of x + size x

  pub clear_fact : clear r x ≡ true → Clear r x
  clear_fact h = or_fact (eqb (size r) 0 || eqb (size x) 0) (leb end_r (start_of x) || leb end_x (start_of r))
      (or_fact (eqb (size r) 0) (eqb (size x) 0) (eqb-true (size r) 0) (eqb-true (size x) 0))
      (or_fact (leb end_r (start_of x)) (leb end_x (start_of r)) (leb-true end_r (start_of x)) (leb-true end_x (start_of r)))
      h

  pub clear_test : Clear r x → clear r x ≡ true
  clear_test c = or_test (eqb (size r) 0 || eqb (size x) 0) (leb end_r (start_of x) || leb end_x (start_of r))
      (or_test (eqb (size r) 0) (eqb (size x) 0) (eq-eqb (size r) 0) (eq-eqb (size x) 0))
      (or_test (leb end_r (start_of x)) (leb end_x (start_of r)) (le-leb end_r (start_of x)) (le-leb end_x (start_of r)))
      c

-- ---- no row's clause is gone

pub none_gone : (rows : List Row) → total gone_one rows ≡ 0 → All (λ r. stands 3 r ≡ false) rows
none_gone [] e = none
none_gone (r ∷ rows) e = by_cases (stands 3 r)
    (λ g. let z : 1 + total gone_one rows ≡ 0 = rw g at e in absurd (omega arith))
    (λ g. let z : 0 + total gone_one rows ≡ 0 = rw g at e in both g (none_gone rows (omega arith)))

pub all_stay : {rows : List Row} → All (λ r. stands 3 r ≡ false) rows → total gone_one rows ≡ 0
all_stay none = refl
all_stay (both g a) = rw g (omega (arith, all_stay a))

-- ---- of all rows

module _ (rows : List Row) where
  pub others_test : Rising rows → every_two other_id rows ≡ true
  others_test s = two_test (λ r x h. other_test r x h) s

  pub clears_fact : every_two clear rows ≡ true → Pairs Clear rows
  clears_fact h = two_fact clear_fact rows h
