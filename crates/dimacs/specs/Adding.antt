-- Document 02, request 1: what is answered to the frames of a text, given one after the other.
use Rattle.std.specs.Prelude.{Bool, true, false, ◌||◌, List, [], ◌∷◌, eqb, ℤ}
use Rattle.rules.specs.Terms.{State}
use Rattle.rules.specs.Answers.{numbers, outcome}
use Rattle.rules.specs.Results.{Answer}
use Rattle.std.specs.Prelude.{Ok, Err}

abbrev pub is_accepted : Answer → Bool
is_accepted (Ok n) = true
is_accepted (Err e) = false

-- "ADD's own refusals 12 and 13 stand": accepted, or refused with one of these two codes
abbrev pub unless_full : Answer → Bool
unless_full a = is_accepted a || (eqb (numbers a).0 12 || eqb (numbers a).0 13)

-- the answers to frames from a state on, whether they are accepted or not
unfoldable pub answers_from : State → List (List ℤ) → List Answer
answers_from s [] = []
answers_from s (ws ∷ more) = let o = outcome s ws in o.answer ∷ answers_from o.state more
