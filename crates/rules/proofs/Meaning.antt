-- The theorems, shown: what a reached history keeps (Sound, Kept), put together with what an accepted frame's checks leave.
use mathlib.Core.Path.{◌≡◌, refl, sym, ◌∙◌}
use mathlib.Core.Logic.{◌↔◌}
use mathlib.Core.Bool.{true, false≢true}
use mathlib.Core.List.{List, [], ◌∷◌, map}
use Prim.Native.Nat.{ℕ}
use lib.IntN.{ℤ, neg_ℤ}
use Rattle.rules.specs.Lists.{any_passes}
use Rattle.rules.specs.Terms.{Assignment, lit, sat, State, everything, Terms}
use Rattle.rules.specs.Frames.{Frame, SAT, UNSAT, Parsed, malformed, framed, parse, offered, mend}
use Rattle.rules.specs.Answers.{check, hands, settled, outcome_parsed, outcome, mended}
use Rattle.rules.specs.Histories.{History, added_by, step, Reached, models, Models, Assumes, Unopposed, Accepts, Answered, SameLiterals, Within}
use Rattle.rules.specs.Histories.{SameClauses}
use Rattle.rules.specs.declared.Fault.{Fault}
use Rattle.rules.specs.Results.{Check}
use Rattle.std.specs.Prelude.{Ok, Err}
use Rattle.rules.proofs.Lists.{all_at, all_of, all_append, all_head, all_tail, any_in, any_find}
use Rattle.rules.proofs.Literals.{in_holds, holds_in, opposite_false}
use Rattle.rules.proofs.Held.{meets, mend_keeps, mend_other, mend_models}
use Rattle.rules.proofs.Checks.{then_left, then_right, cleanly_clean, satisfied_models, assumed_assumes}
use Rattle.rules.proofs.Reaching.{of_reached}
use Rattle.rules.proofs.Sound.{Sound, held_follow, keeps_sound, begins_sound, decided_sound}
use Rattle.rules.proofs.Shaped.{shaped}
use Rattle.rules.proofs.Kept.{terms_kept, begins_terms}
use Rattle.rules.proofs.Past.{handed_none}

sound : (h : History) → Reached h → Sound h
sound = of_reached Sound (λ vars entries words e. begins_sound vars entries words) (λ h ws f q e S. keeps_sound h f S e)

pub terms : (h : History) → Reached h → Terms h.state
terms = of_reached (λ h. Terms h.state) begins_terms (λ h ws f q e T. terms_kept h.state f (shaped ws f q) T e)

pub follow : (h : History) → Reached h → (α : Assignment) → Models α h.added → models α (everything h.state) ≡ true
follow h r α m = held_follow (sound h r) α m

pub mend_to_models : (h : History) → Reached h → (α : Assignment) → models α h.state.irredundant ≡ true → Models (mend α h.state.stack) h.added
mend_to_models h r = (sound h r).mends

-- ---- accepted frames

settled_passed : (s : State) (f : Frame) (k : Check) (n : ℕ) → (settled s f k).answer ≡ Ok n → k ≡ Ok tt
settled_passed s f (Ok tt) n e = refl
settled_passed s f (Err x) n e = cc

module _ (s : State) (ws : List ℤ) (f : Frame) (a : Accepts s ws f) where
  passed : check s f ≡ Ok tt
  unfolding outcome
  passed = let p = a.parsed in settled_passed s f (check s f) a.changed (rw p at a.accepted)

  handed_over : (outcome s ws).handed ≡ hands s f
  unfolding outcome
  handed_over = let p = a.parsed in let k = passed in rw (p, k)

-- ---- SAT

-- an assumption that is clean against every record is true after the walk
still_assumes : (s : State) (α : Assignment) (assumed : List ℤ) → Unopposed s assumed → Assumes α assumed → Assumes (mend α s.stack) assumed
still_assumes s α assumed k h = all_of _ assumed (λ l m. mend_keeps s.stack α assumed l m k (all_at _ h m))

pub sat_means : (h : History) → Reached h → (ws assumed vs : List ℤ) → Accepts h.state ws (SAT assumed vs) →
    (β : Assignment) × ((outcome h.state ws).handed ≡ mended (offered vs) β) × Answered h assumed (offered vs) β
unfolding check
sat_means h r ws assumed vs a =
    let s = h.state in
    let α = offered vs in
    let β = mend α s.stack in
    let e = then_right _ _ (then_right _ _ (passed s ws (SAT assumed vs) a)) in
    let q = then_right _ _ e in
    let of_added = mend_to_models h r α (satisfied_models α _ (then_right _ _ q)) in
    let S = sound h r in (
      β,
      handed_over s ws (SAT assumed vs) a,
      record {
        of_added = of_added;
        of_assumptions = still_assumes s α assumed (cleanly_clean assumed _ (then_left _ _ q)) (assumed_assumes α 2 assumed (then_left _ _ e));
        elsewhere = λ v u. mend_other s.stack α v u;
        nowhere_else = handed_none s (terms h r).stack assumed vs (passed s ws (SAT assumed vs) a);
        of_held = follow h r β of_added;
        mends_to_itself = mend_models s.stack β (S.stacked β of_added);
      },
    )

-- ---- UNSAT

-- not all the assumptions are true where one of their opposites is
one_fails : (α : Assignment) (assumed : List ℤ) → sat α (map neg_ℤ assumed) ≡ true → Assumes α assumed → ⊥
unfolding any_passes
one_fails α [] h k = false≢true h
one_fails α (l ∷ assumed) h k = let f = opposite_false α l (all_head (lit α) _ _ k) in one_fails α assumed (rw f at h) (all_tail (lit α) _ _ k)

pub unsat_means : (h : History) → Reached h → (ws assumed hints : List ℤ) → Accepts h.state ws (UNSAT assumed hints) → (α : Assignment) →
    Models α h.added → Assumes α assumed → ⊥
unfolding check
unsat_means h r ws assumed hints a α m k =
    let S = sound h r in
    let e = then_right _ _ (passed h.state ws (UNSAT assumed hints) a) in
    one_fails α assumed (decided_sound α _ (map neg_ℤ assumed) hints _ _ (held_follow S α m) e) k

-- ---- the same models

pub same_models : (h : History) → Reached h → (assumed : List ℤ) → Unopposed h.state assumed →
    ((α : Assignment) × Models α h.added × Assumes α assumed) ↔ ((α : Assignment) × (models α h.state.irredundant ≡ true) × Assumes α assumed)
same_models h r assumed k = (
  λ x. (x.0, (sound h r).irredundant x.0 x.1, x.2),
  λ x. (mend x.0 h.state.stack, (sound h r).mends x.0 x.1, still_assumes h.state x.0 assumed k x.2),
)

-- ---- order-free

-- the truth of a clause, and of assumptions, is that of the set of its literals
same_sat : (α : Assignment) (c d : List ℤ) → SameLiterals c d → sat α c ≡ true → sat α d ≡ true
same_sat α c d e h = let r = any_find (lit α) c h in any_in (lit α) (in_holds d r.0 (sym (e r.0) ∙ holds_in r.1)) r.2

pub same_assumes : (α : Assignment) (c d : List ℤ) → SameLiterals c d → Assumes α c → Assumes α d
same_assumes α c d e h = all_of _ d (λ l m. all_at (lit α) h (in_holds c l (e l ∙ holds_in m)))

pub within_models : (α : Assignment) (cs ds : List (List ℤ)) → Within ds cs → Models α cs → Models α ds
within_models α cs ds w m = all_of _ ds (λ d k. let x = w d k in same_sat α x.0 d (λ l. sym (x.2 l)) (all_at (sat α) m x.1))

pub never_both : (h g : History) → Reached h → Reached g → SameClauses h.added g.added → (assumed denied : List ℤ) → SameLiterals assumed denied →
    (ws vs : List ℤ) → Accepts h.state ws (SAT assumed vs) → (us hints : List ℤ) → Accepts g.state us (UNSAT denied hints) → ⊥
never_both h g r q same assumed denied literals ws vs a us hints b =
    let x = sat_means h r ws assumed vs a in
    unsat_means g q us denied hints b x.0 (within_models x.0 h.added g.added same.1 x.2.of_added)
    (same_assumes x.0 assumed denied literals x.2.of_assumptions)

-- ---- refusals

pub refused : (h : History) (ws : List ℤ) (f : Fault) → (outcome h.state ws).answer ≡ Err f → step h ws ≡ h
unfolding outcome step
refused h ws f e = by_parse (parse ws) e
  where
    by_check : (g : Frame) (k : Check) → (settled h.state g k).answer ≡ Err f →
        record { state = (settled h.state g k).state; added = added_by (settled h.state g k).answer (framed g) h.added } ≡ h
    by_check g (Ok tt) q = cc
    by_check g (Err x) q = refl

    by_parse : (p : Parsed) → (outcome_parsed h.state p).answer ≡ Err f →
        record { state = (outcome_parsed h.state p).state; added = added_by (outcome_parsed h.state p).answer p h.added } ≡ h
    by_parse malformed q = refl
    by_parse (framed g) q = by_check g (check h.state g) q
