-- What a part of the input comes to, line by line: the lines that it closes, what they do to the state and what is written for them; and how much of it is
-- taken.
use Rattle.std.specs.Prelude.{Bool, false, cond, ◌||◌, List, [], ◌∷◌, ◌++◌, ℕ, suc, ◌+◌, eqb, leb, ℤ, length}
use Rattle.std.proofs.Math.Option.{Option, none, some}
use Rattle.rules.specs.Terms.{State}
use Rattle.rules.specs.Frames.{malformed, Parsed, parse}
use Rattle.rules.specs.Answers.{altered}
use Rattle.line_read.specs.Lines.{line_outcome, reply}
use Rattle.line_read.specs.Machine.{Line, fresh, push, frame, Session, move}

-- ---- the lines that bytes close

-- each is a frame's words, or none; l is what was read of the first
unfoldable pub closes : Line → List ℕ → List (Option (List ℤ))
closes l [] = []
closes l (b ∷ bs) = cond (eqb b 10) (frame l ∷ closes fresh bs) (closes (push l b) bs)

-- and what is read of the line after them
unfoldable pub line_after : Line → List ℕ → Line
line_after l [] = l
line_after l (b ∷ bs) = cond (eqb b 10) (line_after fresh bs) (line_after (push l b) bs)

-- the state after them
unfoldable pub state_after : State → List (Option (List ℤ)) → State
state_after s [] = s
state_after s (f ∷ fs) = state_after (line_outcome s f).state fs

-- what is written for them
unfoldable pub replied : State → List (Option (List ℤ)) → List ℕ
replied s [] = []
replied s (f ∷ fs) = reply s.vars (line_outcome s f) ++ replied (line_outcome s f).state fs

-- ---- an accepted change

abbrev pub parsed : Option (List ℤ) → Parsed
parsed none = malformed
parsed (some ws) = parse ws

-- the line is an accepted change
abbrev pub line_alters : State → Option (List ℤ) → Bool
line_alters s f = altered (parsed f) (line_outcome s f).answer

-- one of the lines is
unfoldable pub some_alters : State → List (Option (List ℤ)) → Bool
some_alters s [] = false
some_alters s (f ∷ fs) = line_alters s f || some_alters (line_outcome s f).state fs

-- ---- how much of a part is taken

-- the largest answer: code and detail, 2,048 variables of eight digits each, and 0A
abbrev pub largest_reply : ℕ
largest_reply = 16401

-- before each byte taken the out buffer, of this size, had room for one more largest answer
unfoldable pub taken_of : ℕ → Session → List ℕ → ℕ
taken_of size r [] = 0
taken_of size r (b ∷ bs) = cond (leb (length r.out + largest_reply) size) (suc (taken_of size (move r b) bs)) 0
