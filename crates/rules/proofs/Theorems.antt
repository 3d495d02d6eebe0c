-- The theorems, over every history that starts at an accepted opening and takes any frames, refused ones included. To believe them, read specs/ and this file;
-- how they are shown is in the other modules.
use mathlib.Core.Path.{◌≡◌}
use mathlib.Core.Logic.{◌↔◌}
use mathlib.Core.Bool.{true}
use mathlib.Core.List.{List}
use Prim.Native.Nat.{ℕ}
use lib.IntN.{ℤ}
use Rattle.rules.specs.Terms.{Assignment, sat, everything, Terms}
use Rattle.rules.specs.Propagation.{Allowed, clause, proves}
use Rattle.rules.specs.Frames.{SAT, UNSAT, offered, mend}
use Rattle.rules.specs.Answers.{outcome, mended}
use Rattle.rules.specs.Histories.{History, step, Reached, models, Models, Assumes, Unopposed, Accepts, Answered, SameLiterals, SameClauses}
use Rattle.rules.specs.declared.Fault.{Fault}
use Rattle.rules.specs.declared.Verdict.TheVariants.{Proved}
use Rattle.std.specs.Prelude.{Ok, Err}
use Rattle.rules.proofs.Propagation.{proves_sound}
use Rattle.rules.proofs.Meaning as shown

-- 1. Propagation is sound, for any allowed set, target and hints: an assignment that satisfies the allowed clauses satisfies a proved target.
pub propagation_is_sound : (A : Allowed) (target hints : List ℤ) (n : ℕ) → proves A target hints ≡ Proved n →
    (α : Assignment) → ((i : ℕ) (c : List ℤ) → A i ≡ clause c → sat α c ≡ true) → sat α target ≡ true
propagation_is_sound A target hints n e α meets = proves_sound α A target hints n meets e

-- 2. Every held clause follows from the added ones; and every assignment that satisfies the irredundant clauses mends to one that satisfies all added ones.
pub held_clauses_follow : (h : History) → Reached h → (α : Assignment) → Models α h.added → models α (everything h.state) ≡ true
held_clauses_follow = shown.follow

pub irredundant_models_mend : (h : History) → Reached h → (α : Assignment) → models α h.state.irredundant ≡ true →
    Models (mend α h.state.stack) h.added
irredundant_models_mend = shown.mend_to_models

-- 3. An accepted SAT hands out a mended assignment: a model of every clause ever added and of its assumptions, which differs from the offered one only in
-- variables of stacked witnesses, and where what is no variable of 1 to V is not true. It satisfies every held clause, and mends to itself.
pub accepted_sat : (h : History) → Reached h → (ws assumed vs : List ℤ) → Accepts h.state ws (SAT assumed vs) →
    (β : Assignment) × ((outcome h.state ws).handed ≡ mended (offered vs) β) × Answered h assumed (offered vs) β
accepted_sat = shown.sat_means

-- 4. An accepted UNSAT is true of all added clauses under its assumptions: no assignment satisfies both.
pub accepted_unsat : (h : History) → Reached h → (ws assumed hints : List ℤ) → Accepts h.state ws (UNSAT assumed hints) →
    (α : Assignment) → Models α h.added → Assumes α assumed → ⊥
accepted_unsat = shown.unsat_means

-- 5. Whenever no assumption is the opposite of a stacked witness literal, added clauses and assumptions have a common model exactly when irredundant clauses
-- and assumptions have one.
pub same_answers : (h : History) → Reached h → (assumed : List ℤ) → Unopposed h.state assumed →
    ((α : Assignment) × Models α h.added × Assumes α assumed) ↔ ((α : Assignment) × (models α h.state.irredundant ≡ true) × Assumes α assumed)
same_answers = shown.same_models

-- 6. Order-free: two histories whose added clauses are the same set, in whatever order and with whatever other steps, never have SAT accepted in one and UNSAT
-- in the other under assumptions that are the same set.
pub order_free : (h g : History) → Reached h → Reached g → SameClauses h.added g.added → (assumed denied : List ℤ) → SameLiterals assumed denied →
    (ws vs : List ℤ) → Accepts h.state ws (SAT assumed vs) → (us hints : List ℤ) → Accepts g.state us (UNSAT denied hints) → ⊥
order_free = shown.never_both

-- 7. A refused frame leaves everything, the highest id too; and an accepted one keeps the terms, so every history has them.
pub refused_leaves : (h : History) (ws : List ℤ) (f : Fault) → (outcome h.state ws).answer ≡ Err f → step h ws ≡ h
refused_leaves = shown.refused

pub terms_are_kept : (h : History) → Reached h → Terms h.state
terms_are_kept = shown.terms
