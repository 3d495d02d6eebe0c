-- Document 01, "Propagation by hints".
use Rattle.std.specs.Prelude.{not, cond, ◌||◌, List, [], ◌∷◌, ℕ, ◌+◌, ℤ, pos, negsuc, neg_ℤ}
use Rattle.rules.specs.Lists.{any_passes, only}
use Rattle.rules.specs.Terms.{Literals, same, holds, opposes, Held, has, fetch}
use Rattle.rules.specs.declared.Verdict.{Verdict}
use Rattle.rules.specs.declared.Verdict.TheVariants.{Proved, BadHint, UsedUp}

-- ---- the allowed set

pub data Named : Type 0 where
  nobody : Named
  clause : List ℤ → Named

-- what each id names in "an allowed set of clauses"
abbrev pub Allowed : Type 0
Allowed = ℕ → Named

-- the clauses of a place
unfoldable pub among : List Held → Allowed
among hs i = cond (has hs i) (clause (fetch hs i).lits) nobody

-- what a hint names; a negative word is no id
abbrev pub named : Allowed → ℤ → Named
named A (pos i) = A i
named A (negsuc n) = nobody

-- ---- one hint, where F is the set of the false literals

pub data Looked : Type 0 where
  conflict : Looked
  forced : ℤ → Looked
  bad : Looked

-- by the literals that are not false. "all literals of the clause false: proved"; "exactly one literal open and all others false: that literal becomes true";
-- "anything else (a true literal, or two open): refusal 7"
abbrev pub reading : Literals → List ℤ → Looked
reading F [] = conflict
reading F (u ∷ []) = cond (opposes F u) bad (forced u)
reading F (u ∷ v ∷ more) = bad

unfoldable pub read : Literals → List ℤ → Looked
read F c = reading F (only (λ l. not (F l)) c)

-- "id not in the allowed set: refusal 7"
abbrev pub judge : Literals → Named → Looked
judge F nobody = bad
judge F (clause c) = read F c

-- ---- the hints in order

-- how it ended, and which literals were false then
pub record Run : Type 0 where
  pub verdict : Verdict
  pub falses : Literals

abbrev pub ended : Verdict → Literals → Run
ended v F = record { verdict = v; falses = F }

-- l is false too
abbrev pub also : ℤ → Literals → Literals
also l F m = same l m || F m

abbrev pub after : Looked → ℕ → Literals → (ℤ → Run) → Run
after conflict n F go_on = ended (Proved (n + 1)) F
after (forced u) n F go_on = go_on u
after bad n F go_on = ended (BadHint n) F

-- "Read the hints in order": n of them are read already
unfoldable pub run : Allowed → Literals → ℕ → List ℤ → Run
run A F n [] = ended UsedUp F
run A F n (h ∷ hints) = after (judge F (named A h)) n F (λ u. run A (also (neg_ℤ u) F) (n + 1) hints)

-- "If the target holds a literal and its opposite, it is proved and no hint is read. Else its literals are false and other variables are open."
unfoldable pub proves : Allowed → List ℤ → List ℤ → Verdict
proves A target hints = cond (any_passes (opposes (holds target)) target) (Proved 0) (run A (holds target) 0 hints).verdict
