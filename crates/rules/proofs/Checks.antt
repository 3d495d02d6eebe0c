-- What each check leaves when it has passed.
use mathlib.Core.Path.{◌≡◌, refl}
use mathlib.Core.Bool.{Bool, true, false, not, ◌&&◌}
use mathlib.Core.List.{List, [], ◌∷◌}
use Prim.Native.Nat.{ℕ, ◌+◌, ◌≤◌}
use lib.Dec.{eqb, leb}
use lib.IntN.{ℤ, nat_abs}
use lib.ListN.{length}
use borrow.Author.Tests.{le-leb, eqb-true, eq-eqb}
use Rattle.rules.specs.Lists.{any_passes, all_pass}
use Rattle.rules.specs.Terms.{in_range, mentions, distinct, is_clause, Assignment, upd, Held}
use Rattle.rules.specs.Answers.{◌then◌, need, flaw, unseen, cleanly, satisfied, assumed_true, decided}
use Rattle.rules.specs.Histories.{models, Assumes}
use Rattle.rules.specs.declared.Verdict.{Verdict}
use Rattle.rules.specs.declared.Verdict.TheVariants.{Proved, BadHint, UsedUp}
use Rattle.rules.specs.declared.Fault.{Fault}
use Rattle.rules.specs.Results.{Check}
use Rattle.std.specs.Prelude.{Ok, Err}
use Rattle.rules.proofs.Lists.{by_cases, true-false, not-true, or_left, or_right, and_left, and_right, and_both, all_nil, all_cons, all_head, all_tail}
use Rattle.rules.proofs.Held.{meets, clean_of, clean_all}

pub then_left : (a b : Check) → (a then b) ≡ Ok tt → a ≡ Ok tt
unfolding ◌then◌
then_left (Ok tt) b e = refl
then_left (Err f) b e = e

pub then_right : (a b : Check) → (a then b) ≡ Ok tt → b ≡ Ok tt
unfolding ◌then◌
then_right (Ok tt) b e = e
then_right (Err f) b e = cc

pub need_true : (b : Bool) (f : Fault) → need b f ≡ Ok tt → b ≡ true
unfolding need
need_true true f e = refl
need_true false f e = cc

pub decided_proved : (at d : ℕ) (v : Verdict) → decided at d v ≡ Ok tt → (n : ℕ) × (v ≡ Proved n)
decided_proved at d (Proved n) e = (n, refl)
decided_proved at d (BadHint n) e = (0, cc)
decided_proved at d UsedUp e = (0, cc)

pub cleanly_clean : (c : List ℤ) (rs : List Held) → cleanly c rs ≡ Ok tt → clean_all c rs ≡ true
unfolding cleanly
cleanly_clean c [] e = all_nil _
cleanly_clean c (r ∷ rs) e = all_cons (clean_of c) _ _ (need_true _ _ (then_left _ _ e)) (cleanly_clean c rs (then_right _ _ e))

pub satisfied_models : (α : Assignment) (hs : List Held) → satisfied α hs ≡ Ok tt → models α hs ≡ true
unfolding satisfied
satisfied_models α [] e = all_nil _
satisfied_models α (h ∷ hs) e = all_cons (meets α) _ _ (need_true _ _ (then_left _ _ e)) (satisfied_models α hs (then_right _ _ e))

pub assumed_assumes : (α : Assignment) (at : ℕ) (c : List ℤ) → assumed_true α at c ≡ Ok tt → Assumes α c
unfolding assumed_true
assumed_assumes α at [] e = all_nil _
assumed_assumes α at (l ∷ c) e = all_cons _ _ _ (need_true _ _ (then_left _ _ e)) (assumed_assumes α (at + 1) c (then_right _ _ e))

-- ---- refusal 3

-- literals that pass are in range, no variable occurs twice, and none was seen before
pub record Flawless (vars : ℕ) (seen : ℕ → Bool) (c : List ℤ) : Type 0 where
  pub range : all_pass (in_range vars) c ≡ true
  pub once : distinct c ≡ true
  pub fresh : (v : ℕ) → seen v ≡ true → mentions c v ≡ false

seen_more : (seen : ℕ → Bool) (u v : ℕ) → seen v ≡ true → upd seen u true v ≡ true
unfolding upd
seen_more seen u v h = by_cases (eqb u v) (λ e. rw e) (λ e. rw (e, h))

seen_now : (seen : ℕ → Bool) (v : ℕ) → upd seen v true v ≡ true
unfolding upd
seen_now seen v = rw (eq-eqb v v refl)

pub flawless : (vars : ℕ) (seen : ℕ → Bool) (at : ℕ) (c : List ℤ) → flaw vars seen at c ≡ Ok tt → Flawless vars seen c
unfolding flaw distinct any_passes
flawless vars seen at [] e = record { range = all_nil _; once = refl; fresh = λ v h. refl }
flawless vars seen at (l ∷ c) e =
    let t = need_true _ _ (then_left _ _ e) in
    let r = flawless vars (upd seen (nat_abs l) true) (at + 1) c (then_right _ _ e) in
    let new : seen (nat_abs l) ≡ false = not-true (and_right (in_range vars l) (not (seen (nat_abs l))) t) in
    record {
      range = all_cons _ _ _ (and_left (in_range vars l) (not (seen (nat_abs l))) t) r.range;
      once = let k = r.fresh (nat_abs l) (seen_now seen (nat_abs l)) in rw k r.once;
      fresh =
          λ v h. let k = r.fresh v (seen_more seen (nat_abs l) v h) in
          by_cases (eqb (nat_abs l) v) (λ q. true-false h (rw (eqb-true (nat_abs l) v q) at new)) (λ q. rw (q, k));
    }

-- a list of at most 256 literals that passes is a clause
pub flaw_clause : (vars at : ℕ) (c : List ℤ) → length c ≤ 256 → flaw vars unseen at c ≡ Ok tt → is_clause vars c ≡ true
unfolding is_clause
flaw_clause vars at c h e = let f = flawless vars unseen at c e in and_both (le-leb _ _ h) (and_both f.range f.once)

-- and a clause passes: where no variable of the list was seen before, each literal does
passes : (vars : ℕ) (seen : ℕ → Bool) (at : ℕ) (c : List ℤ) → all_pass (in_range vars) c ≡ true → distinct c ≡ true →
    ((v : ℕ) → mentions c v ≡ true → seen v ≡ false) → flaw vars seen at c ≡ Ok tt
unfolding flaw distinct any_passes upd need ◌then◌
passes vars seen at [] r d n = refl
passes vars seen at (l ∷ c) r d n =
    let v = nat_abs l in
    let ranged = all_head (in_range vars) l c r in
    let here : seen v ≡ false = n v (or_left (eqb v v) (mentions c v) (eq-eqb v v refl)) in
    let once : mentions c v ≡ false = not-true (and_left (not (mentions c v)) (distinct c) d) in
    let rest : flaw vars (upd seen v true) (at + 1) c ≡ Ok tt = passes vars (upd seen v true) (at + 1) c (all_tail (in_range vars) l c r)
    (and_right (not (mentions c v)) (distinct c) d)
    (λ u m. by_cases (eqb v u) (λ e. let q = eqb-true v u e in true-false m (rw q at once)) (λ e. rw e (n u (or_right (eqb v u) (mentions c u) m)))) in
    rw (ranged, here, rest)

pub clause_passes : (vars at : ℕ) (c : List ℤ) → is_clause vars c ≡ true → flaw vars unseen at c ≡ Ok tt
unfolding is_clause
clause_passes vars at c k =
    let t = and_right (leb (length c) 256) (all_pass (in_range vars) c && distinct c) k in
    passes vars unseen at c (and_left (all_pass (in_range vars) c) (distinct c) t) (and_right (all_pass (in_range vars) c) (distinct c) t) (λ v m. refl)
