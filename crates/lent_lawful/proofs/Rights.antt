-- What is asked of one row, test by test in the code's order.
use mathlib.Core.Path.{◌≡◌, refl, sym, ◌∙◌}
use mathlib.Core.Bool.{true, false}
use mathlib.Core.List.{List, [], ◌∷◌}
use Prim.Native.Nat.{ℕ, zero, suc, ◌<◌, ◌≤◌}
use native.Mathlib.Omega.{arith}
use lib.Dec.{eqb}
use lib.IntN.{ℤ}
use lib.ListN.{length}
use borrow.Author.Tests.{lt-leb, ne_eqb}
use Rattle.rules.specs.Lists.{any_passes}
use Rattle.rules.specs.Terms.{holds, is_clause, is_witness, null, Held, is_plain, is_record}
use Rattle.rules.specs.Answers.{flaw, unseen}
use Rattle.std.specs.Prelude.{Ok, Err, is_ok}
use Rattle.rules.specs.Results.{Check}
use Rattle.rules.proofs.Checks.{clause_passes, flaw_clause}
use Rattle.rules.proofs.Lists.{by_cases}
use Rattle.lent.specs.State.{lawful}

-- ---- a clause

-- too long
pub clause_long : (vars : ℕ) (c : List ℤ) → 256 < length c → is_clause vars c ≡ false
unfolding is_clause
clause_long vars c h = let e = lt-leb (length c) 256 h in rw e

-- not too long: it is one unless a literal is at fault
pub clause_unflawed : (vars at : ℕ) (c : List ℤ) (r : Check) → r ≡ flaw vars unseen at c → length c ≤ 256 → is_ok r ≡ is_clause vars c
clause_unflawed vars at c (Ok t) e h = sym (flaw_clause vars at c h (sym e))
clause_unflawed vars at c (Err f) e h = by_cases (is_clause vars c)
    (λ t. let apart : ◌≡◌ {A = Check} (Err f) (Ok tt) = e ∙ clause_passes vars at c t in cc)
    (λ z. sym z)

-- ---- a witness

pub witness_no_clause : (vars : ℕ) (c w : List ℤ) → is_clause vars w ≡ false → is_witness vars c w ≡ false
unfolding is_witness
witness_no_clause vars c w e = rw e

pub witness_shares : (vars : ℕ) (c w : List ℤ) → is_clause vars w ≡ true → is_witness vars c w ≡ any_passes (holds w) c
unfolding is_witness
witness_shares vars c w e = rw e

-- ---- by place

module _ (vars : ℕ) (h : Held) where
  pub lawful_no_clause : (p : ℕ) → is_clause vars h.lits ≡ false → lawful vars p h ≡ false
  unfolding lawful is_plain is_record
  lawful_no_clause zero e = rw e
  lawful_no_clause (suc zero) e = rw e
  lawful_no_clause (suc (suc zero)) e = rw e
  lawful_no_clause (suc (suc (suc p))) e = refl

  module _ (e : is_clause vars h.lits ≡ true) where
    null_is : (w : List ℤ) → null w ≡ eqb (length w) 0
    null_is [] = refl
    null_is (l ∷ w) = sym (ne_eqb (suc (length w)) 0 (λ z. omega arith))

    pub lawful_plain : (p : ℕ) → p < 2 → lawful vars p h ≡ eqb (length h.witness) 0
    unfolding lawful is_plain
    lawful_plain zero l = rw e (null_is h.witness)
    lawful_plain (suc zero) l = rw e (null_is h.witness)
    lawful_plain (suc (suc p)) l = absurd (omega arith)

    pub lawful_record : (p : ℕ) → p ≡ 2 → lawful vars p h ≡ is_witness vars h.lits h.witness
    unfolding lawful is_record
    lawful_record p q = rw (q, e)

  pub lawful_nowhere : (p : ℕ) → 2 < p → lawful vars p h ≡ false
  unfolding lawful
  lawful_nowhere zero l = absurd (omega arith)
  lawful_nowhere (suc zero) l = absurd (omega arith)
  lawful_nowhere (suc (suc zero)) l = absurd (omega arith)
  lawful_nowhere (suc (suc (suc p))) l = refl
