-- What every step keeps: held clauses follow from the added ones, and a model of the irredundant ones mends to a model of all added.
use mathlib.Core.Path.{◌≡◌}
use mathlib.Core.Logic.{⊎_elim}
use mathlib.Core.Bool.{true, false, not}
use mathlib.Core.List.Memᴰ
use mathlib.Core.List.{List, [], ◌∷◌, Memᴰ}
use Prim.Native.Nat.{ℕ, ◌+◌}
use lib.IntN.{ℤ}
use lib.ListN.{take}
use Rattle.rules.specs.Lists.{any_passes, all_pass, only}
use Rattle.rules.specs.Terms.{Literals, holds, opposes, Assignment, lit, sat, Held, fetch, everything}
use Rattle.rules.specs.Propagation.{among, proves}
use Rattle.rules.specs.Frames.{Frame, ADD, LEARN, FORGET, PROMOTE, DROP, WEAKEN, RESTORE, SAT, UNSAT, number, without, needs_group, target, make, repair}
use Rattle.rules.specs.Frames.{mend}
use Rattle.rules.specs.Answers.{unseen, decided, groups, check}
use Rattle.rules.specs.Histories.{History, models, Models}
use Rattle.std.specs.Prelude.{Ok, Err}
use Rattle.rules.proofs.Lists.{by_cases, true-false, not-true, any_in, any_find, any_none, all_at, all_of, all_nil, all_cons, all_head, all_tail}
use Rattle.rules.proofs.Lists.{all_append, only_in, only_out}
use Rattle.rules.proofs.Literals.{in_holds, make_keeps, make_true, distinct_apart}
use Rattle.rules.proofs.Held.{meets, fetch_all, without_all, with_fetch, place_all, place_each, mend_clean, mend_without}
use Rattle.rules.proofs.Propagation.{among_meets, proves_sound}
use Rattle.rules.proofs.Reaching.{begun, moved}
use Rattle.rules.proofs.Checks.{then_left, then_right, need_true, decided_proved, cleanly_clean, Flawless, flawless}

-- ---- a check by hints that passed

pub decided_sound : (α : Assignment) (hs : List Held) (c hints : List ℤ) (at d : ℕ) → models α hs ≡ true → decided at d (proves (among hs) c hints) ≡ Ok tt →
    sat α c ≡ true
decided_sound α hs c hints at d m e =
    let v = decided_proved at d (proves (among hs) c hints) e in
    proves_sound α (among hs) c hints v.0 (among_meets α hs m) v.1

-- ---- WEAKEN

-- every D that needs a group has its target proved
module _ (α : Assignment) (others : List Held) (c : List ℤ) (W : Literals) (ok : models α others ≡ true) where
  groups_sound : (ds : List Held) (at : ℕ) (ws : List ℤ) → groups (among others) c W ds at ws ≡ Ok tt → all_pass (λ D. sat α (target c W D.lits)) ds ≡ true
  unfolding groups
  groups_sound [] at ws e = all_nil _
  groups_sound (D ∷ ds) at [] e = cc
  groups_sound (D ∷ ds) at (x ∷ []) e = cc (then_right _ _ e)
  groups_sound (D ∷ ds) at (x ∷ k ∷ ws) e =
      let r = then_right _ _ (then_right _ _ e) in
      all_cons _ _ _ (decided_sound α others (target c W D.lits) (take (number k) ws) (at + 2) D.id ok (then_left _ _ r))
      (groups_sound ds _ _ (then_right _ _ r))

module _ (vars : ℕ) (α : Assignment) (w : List ℤ) (F : Flawless vars unseen w) where
  -- a clause that holds a literal of w is true once those are
  has_witness : (c : List ℤ) → any_passes (holds w) c ≡ true → sat (make α w) c ≡ true
  has_witness c h =
      let r = any_find (holds w) c h in
      any_in (lit (make α w)) r.1 (make_true vars r.0 w α F.range (distinct_apart w F.once) (in_holds w r.0 r.2))

  -- a clause that is true by a literal whose opposite is not in w stays true
  stays : (c : List ℤ) → sat α (only (λ l. not (opposes (holds w) l)) c) ≡ true → sat (make α w) c ≡ true
  stays c h =
      let r = any_find (lit α) _ h in
      let m = only_out (λ l. not (opposes (holds w) l)) c r.1 in
      any_in (lit (make α w)) m.0 (make_keeps w α r.0 (not-true m.1) r.2)

  module _ (c : List ℤ) (others : List Held) (at : ℕ) (ws : List ℤ) (e : groups (among others) c (holds w) (only (needs_group (holds w)) others) at ws ≡ Ok tt)
      (ok : models α others ≡ true) (f : sat α c ≡ false) where
    -- D, which holds no literal of w, is true by a literal whose opposite is not in w: by its group, or because it holds no opposite of w at all
    less : (D : Held) → Memᴰ D others → any_passes (holds w) D.lits ≡ false → sat α (only (λ l. not (opposes (holds w) l)) D.lits) ≡ true
    less D m n = by_cases (any_passes (opposes (holds w)) D.lits)
        (λ t.
        let proved = all_at (λ x. sat α (target c (holds w) x.lits)) (groups_sound α others c (holds w) ok _ at ws e)
        (only_in (needs_group (holds w)) m (rw (t, n))) in
        let r = any_find (lit α) (target c (holds w) D.lits) proved in
        ⊎_elim (λ k. true-false (any_in (lit α) k r.2) f) (λ k. any_in (lit α) k r.2) (Memᴰ.append_cases c r.1))
        (λ u.
        let r = any_find (lit α) D.lits (all_at (meets α) ok m) in
        any_in (lit α) (only_in (λ l. not (opposes (holds w) l)) r.1 (rw (any_none (opposes (holds w)) u r.1))) r.2)

    -- where C is false, making the witness true keeps every other irredundant clause
    others_stay : models (make α w) others ≡ true
    others_stay = all_of (λ D. sat (make α w) D.lits) others λ D m.
        by_cases (any_passes (holds w) D.lits) (has_witness D.lits) (λ n. stays D.lits (less D m n))

-- ---- every step

pub record Sound (h : History) : Type 0 where
  pub irredundant : (α : Assignment) → Models α h.added → models α h.state.irredundant ≡ true
  pub learned : (α : Assignment) → Models α h.added → models α h.state.learned ≡ true
  pub stacked : (α : Assignment) → Models α h.added → models α h.state.stack ≡ true
  pub mends : (α : Assignment) → models α h.state.irredundant ≡ true → Models (mend α h.state.stack) h.added

-- so every held clause follows from the added ones, whatever its place
pub held_follow : {h : History} → Sound h → (α : Assignment) → Models α h.added → models α (everything h.state) ≡ true
held_follow S α m = all_append (meets α) _ _ (S.irredundant α m) (all_append (meets α) _ _ (S.learned α m) (S.stacked α m))

pub keeps_sound : (h : History) (f : Frame) → Sound h → check h.state f ≡ Ok tt → Sound (moved h f)
unfolding check mend
keeps_sound h (ADD i c) S e =
    let k = cleanly_clean c h.state.stack (then_left _ _ (then_right _ _ (then_right _ _ e))) in
    record {
      irredundant = λ α m. place_all (meets α) _ _ (all_head (sat α) _ _ m) (S.irredundant α (all_tail (sat α) _ _ m));
      learned = λ α m. S.learned α (all_tail (sat α) _ _ m);
      stacked = λ α m. S.stacked α (all_tail (sat α) _ _ m);
      mends = λ α m. let r = place_each (meets α) _ _ m in all_cons _ _ _ (mend_clean h.state.stack α c k r.0) (S.mends α r.1);
    }
keeps_sound h (LEARN i c hints) S e =
    let p = then_right _ _ (then_right _ _ (then_right _ _ (then_right _ _ e))) in
    record {
      irredundant = S.irredundant;
      learned = λ α m. place_all (meets α) _ _ (decided_sound α _ c hints _ _ (held_follow S α m) p) (S.learned α m);
      stacked = S.stacked;
      mends = S.mends;
    }
keeps_sound h (FORGET i) S e =
    record {
      irredundant = S.irredundant;
      learned = λ α m. without_all (meets α) _ _ (S.learned α m);
      stacked = S.stacked;
      mends = S.mends;
    }
keeps_sound h (PROMOTE i) S e =
    record {
      irredundant = λ α m. place_all (meets α) _ _ (fetch_all (meets α) _ _ (need_true _ _ e) (S.learned α m)) (S.irredundant α m);
      learned = λ α m. without_all (meets α) _ _ (S.learned α m);
      stacked = S.stacked;
      mends = λ α m. S.mends α (place_each (meets α) _ _ m).1;
    }
keeps_sound h (DROP i hints) S e =
    record {
      irredundant = λ α m. without_all (meets α) _ _ (S.irredundant α m);
      learned = S.learned;
      stacked = S.stacked;
      mends = λ α m. S.mends α (with_fetch (meets α) _ _ (decided_sound α _ _ hints _ _ m (then_right _ _ e)) m);
    }
keeps_sound h (WEAKEN i w ws) S e =
    let irr = h.state.irredundant in
    let c = (fetch irr i).lits in
    let F = flawless h.state.vars unseen _ w (then_left _ _ e) in
    let g = then_right _ _ (then_right _ _ e) in
    record {
      irredundant = λ α m. without_all (meets α) _ _ (S.irredundant α m);
      learned = S.learned;
      stacked = λ α m. all_cons _ _ _ (fetch_all (meets α) irr i (need_true _ _ (then_left _ _ (then_right _ _ e))) (S.irredundant α m)) (S.stacked α m);
      mends = λ α m. S.mends (repair α (record { id = i; lits = c; witness = w }))
          (by_cases (sat α c)
          (λ t. rw t (with_fetch (meets α) irr i t m))
          (λ f. rw f (with_fetch (meets (make α w)) irr i (has_witness h.state.vars α w F c (need_true _ _ (then_left _ _ g)))
          (others_stay h.state.vars α w F c (without irr i) _ ws (then_right _ _ (then_right _ _ g)) m f))));
    }
keeps_sound h (RESTORE i) S e =
    let rs = h.state.stack in
    let k = cleanly_clean (fetch rs i).lits _ (then_right _ _ e) in
    record {
      irredundant = λ α m. place_all (meets α) _ _ (fetch_all (meets α) rs i (need_true _ _ (then_left _ _ e)) (S.stacked α m)) (S.irredundant α m);
      learned = S.learned;
      stacked = λ α m. without_all (meets α) _ _ (S.stacked α m);
      mends = λ α m.
          let r = place_each (meets α) _ _ m in
          let same-walk = mend_without rs i α k r.0 in
          rw same-walk (S.mends α r.1);
    }
keeps_sound h (SAT assumed vs) S e = S
keeps_sound h (UNSAT assumed hints) S e = S

pub begins_sound : (vars entries words : ℕ) → Sound (begun vars entries words)
begins_sound vars entries words = record { irredundant = λ α m. all_nil _; learned = λ α m. all_nil _; stacked = λ α m. all_nil _; mends = λ α m. all_nil _ }
