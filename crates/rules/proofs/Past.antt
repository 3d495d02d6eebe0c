-- What is no variable, 0 or past V: an accepted SAT does not make it true. The offered ones are in 1 to V, and the walk down the stack changes only variables
-- of witnesses.
use mathlib.Core.Path.{◌≡◌, refl, ◌∙◌, ap}
use mathlib.Core.Bool.{true, false, ◌&&◌}
use mathlib.Core.List.{List, [], ◌∷◌}
use Prim.Native.Nat.{ℕ, zero, suc, ◌+◌, ◌<◌}
use native.Mathlib.Omega.{arith}
use lib.Dec.{eqb, ltb, leb}
use lib.IntN.{ℤ, pos, negsuc, nat_abs}
use lib.ListN.{length}
use borrow.Author.Tests.{ltb-true, eqb-true, lt-ltb, le-leb, lt-leb}
use Rattle.rules.specs.Lists.{any_passes, all_pass}
use Rattle.rules.specs.Terms.{same, is_variable, in_range, mentions, distinct, holds, is_clause, is_witness, is_record, Assignment, Held, State}
use Rattle.rules.specs.Frames.{SAT, number, offered, mend}
use Rattle.rules.specs.Answers.{ranged, ascending, is_above, check}
use Rattle.std.specs.Prelude.{Ok, Err}
use Rattle.rules.proofs.Lists.{by_cases, and_left, and_right, and_both, true-false, any_find, all_at, all_head, all_tail}
use Rattle.rules.proofs.Checks.{then_left, then_right, need_true}
use Rattle.rules.proofs.Held.{mend_other}

-- a literal is one of a variable
variable_of : (vars : ℕ) (l : ℤ) → in_range vars l ≡ true → is_variable vars (nat_abs l) ≡ true
variable_of vars (pos zero) h = true-false h refl
variable_of vars (pos (suc n)) h = and_both (lt-ltb 0 (suc n) (omega arith)) (le-leb (suc n) vars (ltb-true n vars h))
variable_of vars (negsuc n) h = and_both (lt-ltb 0 (suc n) (omega arith)) (le-leb (suc n) vars (ltb-true n vars h))

-- what is past V is no variable
pub past_none : (vars v : ℕ) → vars < v → is_variable vars v ≡ false
past_none vars v h = let e : leb v vars ≡ false = lt-leb v vars h in let p : ltb 0 v ≡ true = lt-ltb 0 v (omega arith) in rw (e, p)

-- ---- the offered assignment

not_same : (vars : ℕ) (x : ℤ) (v : ℕ) → in_range vars x ≡ true → is_variable vars v ≡ false → same x (pos v) ≡ false
not_same vars (pos n) v r f = by_cases (eqb n v) (λ e. true-false (variable_of vars (pos n) r) (ap (is_variable vars) (eqb-true n v e) ∙ f)) (λ e. e)
not_same vars (negsuc n) v r f = refl

offered_none : (vars last at : ℕ) (vs : List ℤ) → ascending vars last at vs ≡ Ok tt → (v : ℕ) → is_variable vars v ≡ false → offered vs v ≡ false
unfolding ascending any_passes
offered_none vars last at [] e v f = refl
offered_none vars last at (x ∷ vs) e v f =
    let here = and_left (in_range vars x) (is_above last x) (need_true _ _ (then_left _ _ e)) in
    rw (not_same vars x v here f, offered_none vars (number x) (at + 1) vs (then_right _ _ e) v f)

-- ---- the witnesses

unmentioned : (vars : ℕ) (w : List ℤ) (v : ℕ) → all_pass (in_range vars) w ≡ true → is_variable vars v ≡ false → mentions w v ≡ false
unmentioned vars w v a f = by_cases (mentions w v)
    (λ t.
    let r = any_find (λ l. eqb (nat_abs l) v) w t in
    true-false (variable_of vars r.0 (all_at (in_range vars) a r.1)) (ap (is_variable vars) (eqb-true (nat_abs r.0) v r.2) ∙ f))
    (λ g. g)

witness_within : (vars : ℕ) (r : Held) → is_record vars r ≡ true → all_pass (in_range vars) r.witness ≡ true
unfolding is_record is_witness is_clause
witness_within vars r h =
    let w = r.witness in
    let k = and_left (is_clause vars w) (any_passes (holds w) r.lits) (and_right (is_clause vars r.lits) (is_witness vars r.lits w) h) in
    and_left (all_pass (in_range vars) w) (distinct w) (and_right (leb (length w) 256) (all_pass (in_range vars) w && distinct w) k)

none_mentions : (vars v : ℕ) → is_variable vars v ≡ false → (rs : List Held) → all_pass (is_record vars) rs ≡ true →
    any_passes (λ r. mentions r.witness v) rs ≡ false
unfolding any_passes
none_mentions vars v f [] a = refl
none_mentions vars v f (r ∷ rs) a =
    let e = unmentioned vars r.witness v (witness_within vars r (all_head (is_record vars) _ _ a)) f in
    let q = none_mentions vars v f rs (all_tail (is_record vars) _ _ a) in
    rw (e, q)

-- ---- there the walk changes nothing, and nothing is true after an accepted SAT

module _ (s : State) (records : all_pass (is_record s.vars) s.stack ≡ true) where
  walk_leaves : (α : Assignment) (v : ℕ) → is_variable s.vars v ≡ false → mend α s.stack v ≡ α v
  walk_leaves α v f = mend_other s.stack α v (none_mentions s.vars v f s.stack records)

  pub past_vars : (α : Assignment) (v : ℕ) → s.vars < v → mend α s.stack v ≡ α v
  past_vars α v h = walk_leaves α v (past_none s.vars v h)

  pub handed_none : (assumed vs : List ℤ) → check s (SAT assumed vs) ≡ Ok tt → (v : ℕ) → is_variable s.vars v ≡ false →
      mend (offered vs) s.stack v ≡ false
  unfolding check
  handed_none assumed vs e v f =
      walk_leaves (offered vs) v f ∙ offered_none s.vars 0 (2 + length assumed) vs (then_left _ _ (then_right (ranged s.vars 2 assumed) _ e)) v f
