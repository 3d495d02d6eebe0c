-- The same as a machine over bytes. That its run is the program of the whole input, wherever it is cut, is proved in proofs/Program.
use Rattle.std.specs.Prelude.{Bool, true, false, cond, not, ◌&&◌, ◌||◌, List, [], ◌∷◌, ◌++◌, ℕ, ◌+◌, ◌*◌, ◌/◌, ◌%◌, eqb, ltb, take, ℤ}
use Rattle.std.proofs.Math.Option.{Option, none, some}
use Rattle.rules.specs.Terms.{State}
use Rattle.line_hex.specs.Hex.{digit, is_digit, signed}
use Rattle.line_read.specs.Lines.{line_outcome, reply, refusal}
use Rattle.line_read.specs.declared.Reader.{Reader}

-- ---- a line

-- what is read of a line: how many digits, the value of those after the last whole word, whether it is spoilt, its whole words
pub record Line : Type 0 where
  pub digits : ℕ
  pub word : ℕ
  pub spoilt : Bool
  pub words : List ℤ

abbrev pub fresh : Line
fresh = record { digits = 0; word = 0; spoilt = false; words = [] }

-- what a reader and the frame buffer hold
abbrev pub line_of : Reader → List ℤ → Line
line_of r frame = record { digits = r.digits; word = r.word; spoilt = r.spoilt; words = take (r.digits / 8) frame }

abbrev pub spoil : Line → Line
spoil l = record { digits = l.digits; word = l.word; spoilt = true; words = l.words }

-- a word of 32 bits that takes one digit more from the right
abbrev pub roll : ℕ → ℕ → ℕ
roll w v = w % 268435456 * 16 + v

-- one digit more, the eighth of a word or not
abbrev pub grow : Bool → Line → ℕ → Line
grow true l v = record { digits = l.digits + 1; word = 0; spoilt = false; words = l.words ++ (signed (roll l.word v) ∷ []) }
grow false l v = record { digits = l.digits + 1; word = roll l.word v; spoilt = false; words = l.words }

-- one byte more, not 0A
unfoldable pub push : Line → ℕ → Line
push l b = cond l.spoilt l (cond (is_digit b && ltb l.digits 32768) (grow (eqb (l.digits % 8) 7) l (digit b)) (spoil l))

unfoldable pub reads : Line → List ℕ → Line
reads l [] = l
reads l (b ∷ bs) = reads (push l b) bs

-- a closed line of d digits is a frame; an unclosed one is begun
abbrev pub is_frame : ℕ → Bool → Bool
is_frame d spoilt = not spoilt && eqb (d % 8) 0

abbrev pub is_begun : ℕ → Bool → Bool
is_begun d spoilt = spoilt || not (eqb d 0)

abbrev pub frame : Line → Option (List ℤ)
frame l = cond (is_frame l.digits l.spoilt) (some l.words) none

-- ---- a run

pub record Session : Type 0 where
  pub line : Line
  pub state : State
  pub out : List ℕ

-- what a reader, the frame buffer, a state and the first a bytes of the out buffer hold
abbrev pub session_of : Reader → List ℤ → State → List ℕ → ℕ → Session
session_of r frame s out a = record { line = line_of r frame; state = s; out = take a out }

abbrev pub started : State → Session
started s = record { line = fresh; state = s; out = [] }

-- 0A: the line is answered
abbrev pub close : Session → Session
close r = let o = line_outcome r.state (frame r.line) in record { line = fresh; state = o.state; out = r.out ++ reply r.state.vars o }

-- one byte
unfoldable pub move : Session → ℕ → Session
move r b = cond (eqb b 10) (close r) (record { line = push r.line b; state = r.state; out = r.out })

unfoldable pub session_after : Session → List ℕ → Session
session_after r [] = r
session_after r (b ∷ bs) = session_after (move r b) bs

-- input in parts
unfoldable pub session_after_parts : Session → List (List ℕ) → Session
session_after_parts r [] = r
session_after_parts r (p ∷ ps) = session_after_parts (session_after r p) ps

-- what the end of input adds
abbrev pub end_reply : ℕ → Bool → List ℕ
end_reply d spoilt = cond (is_begun d spoilt) refusal []
