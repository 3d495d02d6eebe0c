-- Propagation is sound, for any allowed set, target and hints; and it stops within its hints.
use mathlib.Core.Path.{◌≡◌, refl}
use mathlib.Core.Bool.{true, false, not, false≢true}
use mathlib.Core.List.{List, [], ◌∷◌}
use Prim.Native.Nat.{ℕ, ◌+◌, ◌≤◌}
use native.Mathlib.Omega.{arith}
use lib.ListN.{length}
use lib.IntN.{ℤ, pos, negsuc, neg_ℤ}
use Rattle.rules.specs.Lists.{any_passes}
use Rattle.rules.specs.Terms.{Literals, same, holds, opposes, Assignment, lit, sat, Held, has, fetch}
use Rattle.rules.specs.Propagation.{Named, nobody, clause, Allowed, among, named, Looked, conflict, forced, bad, reading, read, judge, Run, also, after}
use Rattle.rules.specs.Propagation.{run, proves}
use Rattle.rules.specs.Histories.{models}
use Rattle.rules.specs.declared.Verdict.{Verdict}
use Rattle.rules.specs.declared.Verdict.TheVariants.{Proved, BadHint, UsedUp}
use Rattle.rules.proofs.Lists.{by_cases, true-false, any_in, any_find, any_none, only_in}
use Rattle.rules.proofs.Literals.{same_eq, in_holds, opposite_false, sat_opposed}
use Rattle.rules.proofs.Held.{meets, fetch_all}

-- the assignment satisfies each allowed clause
abbrev pub Meets : Assignment → Allowed → Type 0
Meets α A = (i : ℕ) (c : List ℤ) → A i ≡ clause c → sat α c ≡ true

pub among_meets : (α : Assignment) (hs : List Held) → models α hs ≡ true → Meets α (among hs)
unfolding among
among_meets α hs h i c e = by_cases (has hs i)
    (λ t. let q : clause (fetch hs i).lits ≡ clause c = rw t at e in let k : (fetch hs i).lits ≡ c = cc in rw (← k) (fetch_all (meets α) hs i t h))
    (λ f. let q : nobody ≡ clause c = rw f at e in cc)

-- ---- one hint

-- the set's literals are false under the assignment
abbrev Under : Assignment → Literals → Type 0
Under α F = (l : ℤ) → F l ≡ true → lit α l ≡ false

-- what a reading says of an assignment under which F is false and the clause true
abbrev Says : Assignment → Looked → Type 0
Says α conflict = ⊥
Says α (forced u) = lit α u ≡ true
Says α bad = Unit {0}

says_reading : (α : Assignment) (F : Literals) (c : List ℤ) → sat α c ≡ true → Says α (reading F c)
unfolding any_passes
says_reading α F [] h = false≢true h
says_reading α F (u ∷ []) h = by_cases (opposes F u) (λ e. rw e tt) (λ e. rw e (by_cases (lit α u) (λ t. t) (λ f. absurd (false≢true (rw f at h)))))
says_reading α F (u ∷ v ∷ more) h = tt

-- a true clause is true by a literal that is not false
says_read : (α : Assignment) (F : Literals) (c : List ℤ) → Under α F → sat α c ≡ true → Says α (read F c)
unfolding read
says_read α F c f h =
    let r = any_find (lit α) c h in
    says_reading α F _ (any_in (lit α) (only_in (λ l. not (F l)) r.1 (by_cases (F r.0) (λ e. true-false r.2 (f r.0 e)) (λ e. rw e))) r.2)

says_judge : (α : Assignment) (F : Literals) (w : Named) → Under α F → ((c : List ℤ) → w ≡ clause c → sat α c ≡ true) → Says α (judge F w)
says_judge α F nobody f h = tt
says_judge α F (clause c) f h = says_read α F c f (h c refl)

says_named : (α : Assignment) (A : Allowed) (F : Literals) (h : ℤ) → Meets α A → Under α F → Says α (judge F (named A h))
says_named α A F (pos i) ok f = says_judge α F (A i) f (ok i)
says_named α A F (negsuc n) ok f = tt

-- ---- all hints

under_also : (α : Assignment) (F : Literals) (u : ℤ) → Under α F → lit α u ≡ true → Under α (also (neg_ℤ u) F)
under_also α F u f t l h = by_cases (same (neg_ℤ u) l)
    (λ e. rw (← same_eq (neg_ℤ u) l e) (opposite_false α u t))
    (λ e. f l (rw e at h))

-- nothing is proved while an assignment satisfies the allowed clauses and makes F false
abbrev Unproving : Run → Type 0
Unproving r = (n : ℕ) → r.verdict ≡ Proved n → ⊥

after_sound : (α : Assignment) (F : Literals) (r : Looked) (n : ℕ) (go_on : ℤ → Run) → Says α r → ((u : ℤ) → lit α u ≡ true → Unproving (go_on u)) →
    Unproving (after r n F go_on)
after_sound α F conflict n go_on s rest m e = s
after_sound α F (forced u) n go_on s rest m e = rest u s m e
after_sound α F bad n go_on s rest m e = let z : ◌≡◌ {A = ℕ} 0 1 = cc in omega arith

run_sound : (α : Assignment) (A : Allowed) (F : Literals) (n : ℕ) (hints : List ℤ) → Meets α A → Under α F → Unproving (run A F n hints)
unfolding run
run_sound α A F n [] ok f m e = let z : ◌≡◌ {A = ℕ} 0 1 = cc in omega arith
run_sound α A F n (h ∷ hints) ok f m e =
    after_sound α F (judge F (named A h)) n _ (says_named α A F h ok f) (λ u t. run_sound α A (also (neg_ℤ u) F) (n + 1) hints ok (under_also α F u f t)) m e

-- every assignment that satisfies all the allowed clauses satisfies a proved target
pub proves_sound : (α : Assignment) (A : Allowed) (target hints : List ℤ) (n : ℕ) → Meets α A → proves A target hints ≡ Proved n → sat α target ≡ true
unfolding proves
proves_sound α A target hints n ok e = by_cases (any_passes (opposes (holds target)) target) (sat_opposed α target) λ f.
    by_cases (sat α target) (λ t. t) λ u.
    absurd (run_sound α A (holds target) 0 hints ok (λ l h. any_none (lit α) u (in_holds target l h)) n (rw f at e))

-- ---- where it stopped: no further than the hints go

abbrev pub Stopped : ℕ → Verdict → Type 0
Stopped most (Proved k) = k ≤ most
Stopped most (BadHint k) = k ≤ most
Stopped most UsedUp = Unit {0}

stopped_after : (most n : ℕ) (F : Literals) (r : Looked) (go_on : ℤ → Run) → n + 1 ≤ most → ((u : ℤ) → Stopped most (go_on u).verdict) →
    Stopped most (after r n F go_on).verdict
stopped_after most n F conflict go_on h rest = h
stopped_after most n F (forced u) go_on h rest = rest u
stopped_after most n F bad go_on h rest = omega arith

pub run_stops : (A : Allowed) (F : Literals) (n most : ℕ) (hints : List ℤ) → n + length hints ≤ most → Stopped most (run A F n hints).verdict
unfolding run
run_stops A F n most [] h = tt
run_stops A F n most (x ∷ hints) h =
    stopped_after most n F (judge F (named A x)) _ (omega arith) (λ u. run_stops A (also (neg_ℤ u) F) (n + 1) most hints (omega arith))

pub proves_stops : (A : Allowed) (target hints : List ℤ) → Stopped (length hints) (proves A target hints)
unfolding proves
proves_stops A target hints =
    by_cases (any_passes (opposes (holds target)) target) (λ t. rw t (omega arith))
    (λ f. rw f (run_stops A (holds target) 0 (length hints) hints (omega arith)))
