-- Code 1 is of the lent tables alone: no check of a frame gives it.
use mathlib.Core.Path.{◌≡◌, refl, sym, ap, ◌∙◌}
use mathlib.Core.Bool.{Bool, true, false, true≢false}
use mathlib.Core.List.{List, [], ◌∷◌, ◌++◌, map}
use Prim.Native.Nat.{ℕ, ◌+◌}
use lib.IntN.{ℤ, neg_ℤ, nat_abs}
use lib.ListN.{length, take, drop}
use Rattle.rules.specs.Terms.{Literals, Assignment, upd, Held, State, fetch, everything}
use Rattle.rules.specs.Propagation.{Allowed, among, proves}
use Rattle.rules.specs.Frames.{Frame, ADD, LEARN, FORGET, PROMOTE, DROP, WEAKEN, RESTORE, SAT, UNSAT, Parsed, malformed, framed, parse, number, without}
use Rattle.rules.specs.Frames.{target}
use Rattle.rules.specs.Answers.{◌then◌, need, flaw, ranged, ascending, cleanly, decided, groups, satisfied, assumed_true, check, settled, outcome}
use Rattle.rules.specs.Answers.{outcome_parsed}
use Rattle.rules.specs.declared.Verdict.{Verdict}
use Rattle.rules.specs.declared.Verdict.TheVariants.{Proved, BadHint, UsedUp}
use Rattle.rules.specs.declared.Fault.{Fault}
use Rattle.rules.specs.declared.Fault.TheVariants.{NoState, Malformed, Literal, Id, Unclean, NoWitness, Hint, Unproved, Group, Falsified, Assumption}
use Rattle.rules.specs.declared.Fault.TheVariants.{NoEntry, NoWords}
use Rattle.rules.specs.Results.{Check}
use Rattle.std.specs.Prelude.{Ok, Err}
use Rattle.rules.specs.Results.{Answer}

-- the fault is that of code 1
abbrev tables : Fault → Bool
tables NoState = true
tables Malformed = false
tables (Literal index) = false
tables (Id i) = false
tables (Unclean i) = false
tables NoWitness = false
tables (Hint index) = false
tables (Unproved i) = false
tables (Group index) = false
tables (Falsified i) = false
tables (Assumption index) = false
tables NoEntry = false
tables NoWords = false

abbrev blames : Check → Bool
blames (Ok tt) = false
blames (Err f) = tables f

-- ---- checks in order

both : (a b : Check) → blames a ≡ false → blames b ≡ false → blames (a then b) ≡ false
unfolding ◌then◌
both (Ok tt) b p q = q
both (Err f) b p q = p

needs : (t : Bool) (f : Fault) → tables f ≡ false → blames (need t f) ≡ false
unfolding need
needs true f p = refl
needs false f p = p

-- ---- the parts of checks

flaws : (vars : ℕ) (seen : ℕ → Bool) (at : ℕ) (c : List ℤ) → blames (flaw vars seen at c) ≡ false
unfolding flaw
flaws vars seen at [] = refl
flaws vars seen at (l ∷ c) = both _ _ (needs _ (Literal at) refl) (flaws vars (upd seen (nat_abs l) true) (at + 1) c)

ranges : (vars at : ℕ) (c : List ℤ) → blames (ranged vars at c) ≡ false
unfolding ranged
ranges vars at [] = refl
ranges vars at (l ∷ c) = both _ _ (needs _ (Literal at) refl) (ranges vars (at + 1) c)

ascends : (vars last at : ℕ) (vs : List ℤ) → blames (ascending vars last at vs) ≡ false
unfolding ascending
ascends vars last at [] = refl
ascends vars last at (x ∷ vs) = both _ _ (needs _ (Literal at) refl) (ascends vars (number x) (at + 1) vs)

cleans : (c : List ℤ) (rs : List Held) → blames (cleanly c rs) ≡ false
unfolding cleanly
cleans c [] = refl
cleans c (r ∷ rs) = both _ _ (needs _ (Unclean r.id) refl) (cleans c rs)

decides : (at d : ℕ) (v : Verdict) → blames (decided at d v) ≡ false
decides at d (Proved n) = refl
decides at d (BadHint n) = refl
decides at d UsedUp = refl

grouped : (A : Allowed) (c : List ℤ) (W : Literals) (ds : List Held) (at : ℕ) (ws : List ℤ) → blames (groups A c W ds at ws) ≡ false
unfolding groups
grouped A c W [] at [] = refl
grouped A c W [] at (x ∷ ws) = refl
grouped A c W (D ∷ ds) at [] = refl
grouped A c W (D ∷ ds) at (x ∷ []) = both _ _ (needs _ (Group at) refl) refl
grouped A c W (D ∷ ds) at (x ∷ k ∷ ws) =
    both _ _ (needs _ (Group at) refl) (both _ _ (needs _ (Group (at + 1)) refl)
    (both _ _ (decides (at + 2) D.id (proves A (target c W D.lits) (take (number k) ws)))
    (grouped A c W ds (at + 2 + number k) (drop (number k) ws))))

satisfies : (α : Assignment) (hs : List Held) → blames (satisfied α hs) ≡ false
unfolding satisfied
satisfies α [] = refl
satisfies α (h ∷ hs) = both _ _ (needs _ (Falsified h.id) refl) (satisfies α hs)

assumes : (α : Assignment) (at : ℕ) (c : List ℤ) → blames (assumed_true α at c) ≡ false
unfolding assumed_true
assumes α at [] = refl
assumes α at (l ∷ c) = both _ _ (needs _ (Assumption at) refl) (assumes α (at + 1) c)

-- ---- every frame

checks : (s : State) (f : Frame) → blames (check s f) ≡ false
unfolding check
checks s (ADD i c) =
    both _ _ (flaws s.vars _ 2 c) (both _ _ (needs _ (Id i) refl) (both _ _ (cleans c s.stack) (both _ _ (needs _ NoEntry refl) (needs _ NoWords refl))))
checks s (LEARN i c hints) =
    both _ _ (flaws s.vars _ 3 c)
    (both _ _ (needs _ (Id i) refl)
    (both _ _ (needs _ NoEntry refl) (both _ _ (needs _ NoWords refl) (decides (3 + length c) 0 (proves (among (everything s)) c hints)))))
checks s (FORGET i) = needs _ (Id i) refl
checks s (PROMOTE i) = needs _ (Id i) refl
checks s (DROP i hints) = both _ _ (needs _ (Id i) refl) (decides 2 0 (proves (among (without s.irredundant i)) (fetch s.irredundant i).lits hints))
checks s (WEAKEN i w ws) =
    both _ _ (flaws s.vars _ 3 w)
    (both _ _ (needs _ (Id i) refl) (both _ _ (needs _ NoWitness refl) (both _ _ (needs _ NoWords refl) (grouped _ _ _ _ (3 + length w) ws))))
checks s (RESTORE i) = both _ _ (needs _ (Id i) refl) (cleans _ _)
checks s (SAT assumed vs) =
    both _ _ (ranges s.vars 2 assumed)
    (both _ _ (ascends s.vars 0 (2 + length assumed) vs)
    (both _ _ (assumes _ 2 assumed) (both _ _ (cleans assumed s.stack) (satisfies _ s.irredundant))))
checks s (UNSAT assumed hints) =
    both _ _ (ranges s.vars 2 assumed) (decides (2 + length assumed) 0 (proves (among (everything s)) (map neg_ℤ assumed) hints))

abbrev answered : Answer → Bool
answered (Ok n) = false
answered (Err f) = tables f

settles : (s : State) (f : Frame) (k : Check) → blames k ≡ false → answered (settled s f k).answer ≡ false
settles s f (Ok tt) b = refl
settles s f (Err e) b = b

parses : (s : State) (p : Parsed) → answered (outcome_parsed s p).answer ≡ false
parses s malformed = refl
parses s (framed f) = settles s f (check s f) (checks s f)

pub never_no_state : (s : State) (ws : List ℤ) → (outcome s ws).answer ≡ Err NoState → ⊥
unfolding outcome
never_no_state s ws e = true≢false (sym (ap answered e) ∙ parses s (parse ws))
