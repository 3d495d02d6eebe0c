-- What a head says of a frame's words.
use Rattle.std.specs.Prelude.{◌≡◌, true, false, cond, List, Option, Some, None, ℕ, ◌+◌, ◌-◌, ◌≤◌, eqb, ℤ, length, get_or, take, drop}
use Rattle.rules.specs.Frames.{Frame, Parsed, malformed, framed, ADD, LEARN, FORGET, PROMOTE, DROP, WEAKEN, RESTORE, SAT, UNSAT, word, number, counts, rows}
use Rattle.step_frame.specs.declared.Head.{Head}
use Rattle.step_frame.specs.declared.Head.TheVariants as head

-- the row of an operation, in the table of the nine frames
abbrev pub row : ℕ → List ℤ → Parsed
row op ws = get_or rows op (λ ws. malformed) ws

-- the word at `at` counts words behind it, or does not
abbrev pub CountsWords : ℕ → List ℤ → ℕ → Option ℕ → Type 0
CountsWords least ws at (Some n) = (counts least (word ws at) (length ws - (at + 1)) ≡ true) × (number (word ws at) ≡ n) × (at + 1 + n ≤ length ws) × (n ≤ 256)
CountsWords least ws at None = counts least (word ws at) (length ws - (at + 1)) ≡ false

-- the frame that the words are by their head
abbrev pub frame_by : Head → List ℤ → Frame
frame_by (head.Add i) ws = ADD i (drop 2 ws)
frame_by (head.Learn i n) ws = LEARN i (take n (drop 3 ws)) (drop (3 + n) ws)
frame_by (head.Forget i) ws = FORGET i
frame_by (head.Promote i) ws = PROMOTE i
frame_by (head.Drop i) ws = DROP i (drop 2 ws)
frame_by (head.Weaken i n) ws = WEAKEN i (take n (drop 3 ws)) (drop (3 + n) ws)
frame_by (head.Restore i) ws = RESTORE i
frame_by (head.Sat n) ws = SAT (take n (drop 2 ws)) (drop (2 + n) ws)
frame_by (head.Unsat n) ws = UNSAT (take n (drop 2 ws)) (drop (2 + n) ws)

-- the same, where there is no head in malformed words
abbrev pub parsed_by : Option Head → List ℤ → Parsed
parsed_by None ws = malformed
parsed_by (Some h) ws = framed (frame_by h ws)

-- a head that stands for exactly 2 words
abbrev pub pair : ℕ → Head → Option Head
pair n h = cond (eqb n 2) (Some h) None

-- its lists lie inside the words, and are short; the id of a new clause is one
abbrev pub HeadInside : Head → ℕ → Type 0
HeadInside (head.Add i) n = (2 ≤ n) × (n ≤ 258) × (i ≤ 2147483647)
HeadInside (head.Learn i k) n = (3 + k ≤ n) × (k ≤ 256) × (n ≤ 4096) × (i ≤ 2147483647)
HeadInside (head.Forget i) n = Unit {0}
HeadInside (head.Promote i) n = Unit {0}
HeadInside (head.Drop i) n = (2 ≤ n) × (n ≤ 4096)
HeadInside (head.Weaken i k) n = (3 + k ≤ n) × (k ≤ 256) × (n ≤ 4096)
HeadInside (head.Restore i) n = Unit {0}
HeadInside (head.Sat k) n = (2 + k ≤ n) × (k ≤ 256) × (n ≤ 4096)
HeadInside (head.Unsat k) n = (2 + k ≤ n) × (k ≤ 256) × (n ≤ 4096)

abbrev pub Inside : Option Head → ℕ → Type 0
Inside None n = Unit {0}
Inside (Some h) n = HeadInside h n

pub record Reads (p : Parsed) (ws : List ℤ) (h : Option Head) : Type 0 where
  pub frame : p ≡ parsed_by h ws
  pub inside : Inside h (length ws)
