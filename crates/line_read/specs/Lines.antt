-- Document 01, "Tables and hexadecimal lines": from any input bytes to the program's whole output.
use Rattle.std.specs.Prelude.{cond, ◌&&◌, List, [], ◌∷◌, ◌++◌, ℕ, zero, suc, ◌*◌, ◌/◌, ◌%◌, eqb, leb, ℤ, length}
use Rattle.std.proofs.Math.Option.{Option, none, some}
use Rattle.rules.specs.Lists.{all_pass}
use Rattle.rules.specs.Terms.{State}
use Rattle.rules.specs.Frames.{malformed}
use Rattle.rules.specs.Answers.{numbers, Handed, untouched, mended, Outcome, outcome, outcome_parsed, opened}
use Rattle.rules.specs.Outcomes.{trues}
use Rattle.rules.specs.Results.{Answer}
use Rattle.std.specs.Prelude.{Err}
use Rattle.rules.specs.declared.Fault.TheVariants.{Malformed}
use Rattle.line_hex.specs.Hex.{is_digit, value_at, signed, hex}

-- ---- the lines of an input

-- "each line closed by 0A": the closed lines; begun is what was read of the first
unfoldable pub closed_lines : List ℕ → List ℕ → List (List ℕ)
closed_lines begun [] = []
closed_lines begun (b ∷ bs) = cond (eqb b 10) (begun ∷ closed_lines [] bs) (closed_lines (begun ++ (b ∷ [])) bs)

-- what is left unclosed
unfoldable pub unclosed : List ℕ → List ℕ → List ℕ
unclosed begun [] = begun
unclosed begun (b ∷ bs) = cond (eqb b 10) (unclosed [] bs) (unclosed (begun ++ (b ∷ [])) bs)

-- ---- a line is a frame, or refused

-- "eight lowercase hexadecimal digits a word": the first k words
unfoldable pub words_of : List ℕ → ℕ → List ℤ
words_of l zero = []
words_of l (suc k) = words_of l k ++ (signed (value_at l (8 * k) 8) ∷ [])

-- "A line with any other byte, a length not a multiple of eight, over 32,768 digits .. is refused 2."
unfoldable pub frame_of : List ℕ → Option (List ℤ)
frame_of l = cond ((all_pass is_digit l && leb (length l) 32768) && eqb (length l % 8) 0) (some (words_of l (length l / 8))) none

abbrev pub line_outcome : State → Option (List ℤ) → Outcome
line_outcome s none = outcome_parsed s malformed
line_outcome s (some ws) = outcome s ws

-- ---- what is written

unfoldable pub in_hex : List ℕ → List ℕ
in_hex [] = []
in_hex (v ∷ vs) = hex 8 v ++ in_hex vs

-- "For each line it writes code and detail in the same form"
unfoldable pub numbered : Answer → List ℕ
numbered a = hex 8 (numbers a).0 ++ hex 8 (numbers a).1

abbrev pub answer_line : Answer → List ℕ → List ℕ
answer_line a vs = numbered a ++ (in_hex vs ++ (10 ∷ []))

-- "after an accepted SAT the true variables follow, rising"
abbrev pub following : ℕ → Handed → List ℕ
following vars untouched = []
following vars (mended α β) = trues β vars []

abbrev pub reply : ℕ → Outcome → List ℕ
reply vars o = answer_line o.answer (following vars o.handed)

-- ---- the program

unfoldable pub replies : State → List (List ℕ) → List ℕ
replies s [] = []
replies s (l ∷ ls) = let o = line_outcome s (frame_of l) in reply s.vars o ++ replies o.state ls

abbrev pub refusal : List ℕ
refusal = answer_line (Err Malformed) []

-- a line "unclosed at the end, is refused 2"
abbrev pub ending : List ℕ → List ℕ
ending [] = []
ending (b ∷ bs) = refusal

unfoldable pub program : State → List ℕ → List ℕ
program s bs = replies s (closed_lines [] bs) ++ ending (unclosed [] bs)

-- "The program opens V = 2,048, 1,024 entries and 8,192 words. It reads standard input": what it writes
abbrev pub output : List ℕ → List ℕ
output = program (opened 2048 1024 8192)
