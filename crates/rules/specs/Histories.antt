-- Histories: any frames after an accepted opening, with all the clauses ever added; and what the theorems say of them.
use Rattle.std.specs.Prelude.{◌≡◌, Bool, true, false, ℕ, ℤ}
use mathlib.Core.List.{List, [], ◌∷◌, Memᴰ}
use Rattle.rules.specs.Lists.{any_passes, all_pass}
use Rattle.rules.specs.Terms.{is_variable, Assignment, lit, sat, holds, mentions, clean, Held, State, everything}
use Rattle.rules.specs.Frames.{Frame, ADD, LEARN, FORGET, PROMOTE, DROP, WEAKEN, RESTORE, SAT, UNSAT, Parsed, malformed, framed, parse, mend}
use Rattle.rules.specs.Answers.{outcome, check_open, opened}
use Rattle.std.specs.Prelude.{Ok, Err}
use Rattle.rules.specs.Results.{Answer}

-- ---- runs

-- a state, and all the clauses ever added
pub record History : Type 0 where
  pub state : State
  pub added : List (List ℤ)

-- an accepted ADD, and nothing else, adds its clause
abbrev pub adds : Frame → List (List ℤ) → List (List ℤ)
adds (ADD i c) cs = c ∷ cs
adds (LEARN i c hints) cs = cs
adds (FORGET i) cs = cs
adds (PROMOTE i) cs = cs
adds (DROP i hints) cs = cs
adds (WEAKEN i w ws) cs = cs
adds (RESTORE i) cs = cs
adds (SAT assumed vs) cs = cs
adds (UNSAT assumed hints) cs = cs

abbrev pub added_by : Answer → Parsed → List (List ℤ) → List (List ℤ)
added_by (Err e) p cs = cs
added_by (Ok n) malformed cs = cs
added_by (Ok n) (framed f) cs = adds f cs

-- the history with one frame more
unfoldable pub step : History → List ℤ → History
step h ws = record { state = (outcome h.state ws).state; added = added_by (outcome h.state ws).answer (parse ws) h.added }

unfoldable pub steps : History → List (List ℤ) → History
steps h [] = h
steps h (ws ∷ more) = steps (step h ws) more

-- the history is reached from an accepted opening by some frames, refused ones included
pub record Reached (h : History) : Type 0 where
  pub vars : ℕ
  pub entries : ℕ
  pub words : ℕ
  pub accepted : check_open vars entries words ≡ Ok tt
  pub frames : List (List ℤ)
  pub by_frames : h ≡ steps (record { state = opened vars entries words; added = [] }) frames

-- ---- models

-- every held clause has a true literal
abbrev pub models : Assignment → List Held → Bool
models α hs = all_pass (λ h. sat α h.lits) hs

-- the assignment satisfies all the clauses; and makes every assumption true
abbrev pub Models : Assignment → List (List ℤ) → Type 0
Models α cs = all_pass (sat α) cs ≡ true

abbrev pub Assumes : Assignment → List ℤ → Type 0
Assumes α assumed = all_pass (lit α) assumed ≡ true

-- v is no variable of a stacked witness
abbrev pub Unwitnessed : State → ℕ → Type 0
Unwitnessed s v = any_passes (λ r. mentions r.witness v) s.stack ≡ false

-- no assumption is the opposite of a stacked witness literal
abbrev pub Unopposed : State → List ℤ → Type 0
Unopposed s assumed = all_pass (λ r. clean assumed r.witness) s.stack ≡ true

-- ---- answers

-- the words are this frame, and it is accepted
pub record Accepts (s : State) (ws : List ℤ) (f : Frame) : Type 0 where
  pub parsed : parse ws ≡ framed f
  pub changed : ℕ
  pub accepted : (outcome s ws).answer ≡ Ok changed

-- what β, handed out for the offered α, is to be
pub record Answered (h : History) (assumed : List ℤ) (α β : Assignment) : Type 0 where
  pub of_added : Models β h.added
  pub of_assumptions : Assumes β assumed
  pub elsewhere : (v : ℕ) → Unwitnessed h.state v → β v ≡ α v
  pub nowhere_else : (v : ℕ) → is_variable h.state.vars v ≡ false → β v ≡ false
  pub of_held : models β (everything h.state) ≡ true
  pub mends_to_itself : mend β h.state.stack ≡ β

-- ---- the same set

abbrev pub SameLiterals : List ℤ → List ℤ → Type 0
SameLiterals c d = (l : ℤ) → holds c l ≡ holds d l

-- each clause of the one is, as a set of literals, a clause of the other
abbrev pub Within : List (List ℤ) → List (List ℤ) → Type 0
Within cs ds = (c : List ℤ) → Memᴰ c cs → (d : List ℤ) × Memᴰ d ds × SameLiterals c d

abbrev pub SameClauses : List (List ℤ) → List (List ℤ) → Type 0
SameClauses cs ds = Within cs ds × Within ds cs
