-- What holds at every accepted opening and is kept by every accepted frame holds of every history that is reached.
use mathlib.Core.Path.{◌≡◌, refl, sym, ap, ◌∙◌}
use mathlib.Core.List.{List, [], ◌∷◌, ◌++◌}
use Prim.Native.Nat.{ℕ}
use lib.IntN.{ℤ}
use Rattle.rules.specs.Frames.{Frame, Parsed, malformed, framed, parse, next}
use Rattle.rules.specs.Answers.{check, settled, outcome_parsed, outcome, check_open, opened}
use Rattle.rules.specs.Histories.{History, adds, added_by, step, steps, Reached}
use Rattle.rules.specs.Results.{Check}
use Rattle.std.specs.Prelude.{Ok, Err}

-- the history at an opening, and after an accepted frame
abbrev pub begun : ℕ → ℕ → ℕ → History
begun vars entries words = record { state = opened vars entries words; added = [] }

abbrev pub moved : History → Frame → History
moved h f = record { state = next h.state f; added = adds f h.added }

module _
    (P : History → Type 0)
    (begins : (vars entries words : ℕ) → check_open vars entries words ≡ Ok tt → P (begun vars entries words))
    (keeps : (h : History) (ws : List ℤ) (f : Frame) → parse ws ≡ framed f → check h.state f ≡ Ok tt → P h → P (moved h f))
  where
    one_step : (h : History) (ws : List ℤ) → P h → P (step h ws)
    unfolding step outcome
    one_step h ws p = by_parse (parse ws) refl
      where
        by_check : (f : Frame) (k : Check) → parse ws ≡ framed f → check h.state f ≡ k →
            P (record { state = (settled h.state f k).state; added = added_by (settled h.state f k).answer (framed f) h.added })
        by_check f (Ok tt) q e = keeps h ws f q e p
        by_check f (Err x) q e = p

        by_parse : (g : Parsed) → parse ws ≡ g →
            P (record { state = (outcome_parsed h.state g).state; added = added_by (outcome_parsed h.state g).answer g h.added })
        by_parse malformed q = p
        by_parse (framed f) q = by_check f (check h.state f) q refl

    all_steps : (frames : List (List ℤ)) (h : History) → P h → P (steps h frames)
    unfolding steps
    all_steps [] h p = p
    all_steps (ws ∷ frames) h p = all_steps frames (step h ws) (one_step h ws p)

    pub of_reached : (h : History) → Reached h → P h
    of_reached h r = let q = r.by_frames in rw q (all_steps r.frames _ (begins r.vars r.entries r.words r.accepted))

-- ---- one frame more

steps_one : (h : History) (fs : List (List ℤ)) (f : List ℤ) → steps h (fs ++ f ∷ []) ≡ step (steps h fs) f
unfolding steps
steps_one h [] f = refl
steps_one h (g ∷ fs) f = steps_one (step h g) fs f

pub reached_one : (h : History) (f : List ℤ) → Reached h → Reached (step h f)
reached_one h f r = record {
  vars = r.vars;
  entries = r.entries;
  words = r.words;
  accepted = r.accepted;
  frames = r.frames ++ f ∷ [];
  by_frames = ap (λ x. step x f) r.by_frames ∙ sym (steps_one _ r.frames f);
}
