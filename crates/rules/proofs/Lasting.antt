-- What frames leave: none changes V, nor how many clauses may be held; one that is no accepted change leaves the state, and a refused one hands out no model.
use mathlib.Core.Path.{◌≡◌, refl}
use mathlib.Core.Bool.{false, true≢false}
use mathlib.Core.List.{List}
use lib.IntN.{ℤ}
use Rattle.rules.specs.Terms.{State}
use Rattle.rules.specs.Frames.{Frame, ADD, LEARN, FORGET, PROMOTE, DROP, WEAKEN, RESTORE, SAT, UNSAT, Parsed, malformed, framed, parse, next}
use Rattle.rules.specs.Answers.{check, untouched, settled, outcome, outcome_parsed, altered}
use Rattle.std.specs.Prelude.{Ok, Err}
use Rattle.rules.specs.Results.{Check}
use Rattle.rules.specs.declared.Fault.{Fault}

abbrev pub Lasts : State → State → Type 0
Lasts s s' = (s'.vars ≡ s.vars) × (s'.entries ≡ s.entries)

pub outcome_lasts : (s : State) (ws : List ℤ) → Lasts s (outcome s ws).state
unfolding outcome
outcome_lasts s ws = parsed (parse ws)
  where
    after : (f : Frame) → Lasts s (next s f)
    after (ADD i c) = (refl, refl)
    after (LEARN i c hints) = (refl, refl)
    after (FORGET i) = (refl, refl)
    after (PROMOTE i) = (refl, refl)
    after (DROP i hints) = (refl, refl)
    after (WEAKEN i w groups) = (refl, refl)
    after (RESTORE i) = (refl, refl)
    after (SAT assumed vs) = (refl, refl)
    after (UNSAT assumed hints) = (refl, refl)

    passed : (f : Frame) (c : Check) → Lasts s (settled s f c).state
    passed f (Ok tt) = after f
    passed f (Err e) = (refl, refl)

    parsed : (p : Parsed) → Lasts s (outcome_parsed s p).state
    parsed malformed = (refl, refl)
    parsed (framed f) = passed f (check s f)

-- "SAT and UNSAT never write the tables", and "Every code but 0 leaves all tables"
pub unaltered_state : (s : State) (ws : List ℤ) → altered (parse ws) (outcome s ws).answer ≡ false → (outcome s ws).state ≡ s
unfolding outcome
unaltered_state s ws e = parsed (parse ws) e
  where
    passed : (f : Frame) (c : Check) → altered (framed f) (settled s f c).answer ≡ false → (settled s f c).state ≡ s
    passed f (Err x) n = refl
    passed (ADD i c) (Ok tt) n = absurd (true≢false n)
    passed (LEARN i c hints) (Ok tt) n = absurd (true≢false n)
    passed (FORGET i) (Ok tt) n = absurd (true≢false n)
    passed (PROMOTE i) (Ok tt) n = absurd (true≢false n)
    passed (DROP i hints) (Ok tt) n = absurd (true≢false n)
    passed (WEAKEN i w groups) (Ok tt) n = absurd (true≢false n)
    passed (RESTORE i) (Ok tt) n = absurd (true≢false n)
    passed (SAT assumed vs) (Ok tt) n = refl
    passed (UNSAT assumed hints) (Ok tt) n = refl

    parsed : (p : Parsed) → altered p (outcome_parsed s p).answer ≡ false → (outcome_parsed s p).state ≡ s
    parsed malformed n = refl
    parsed (framed f) n = passed f (check s f) n

-- "only an accepted SAT writes the model buffer"
pub refused_hands : (s : State) (ws : List ℤ) (x : Fault) → (outcome s ws).answer ≡ Err x → (outcome s ws).handed ≡ untouched
unfolding outcome
refused_hands s ws x e = parsed (parse ws) e
  where
    passed : (f : Frame) (c : Check) → (settled s f c).answer ≡ Err x → (settled s f c).handed ≡ untouched
    passed f (Ok tt) q = cc
    passed f (Err y) q = refl

    parsed : (p : Parsed) → (outcome_parsed s p).answer ≡ Err x → (outcome_parsed s p).handed ≡ untouched
    parsed malformed q = refl
    parsed (framed f) q = passed f (check s f) q
