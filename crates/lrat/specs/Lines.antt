-- Document 02, request 3: "lines of id, literals, 0, hint ids, 0, and deletion lines of id, d, ids, 0".
use Rattle.std.specs.Prelude.{Bool, true, false, cond, ◌&&◌, List, [], ◌∷◌, ◌++◌, map, ℕ, zero, suc, eqb, ltb, leb, ℤ, pos, negsuc, nat_abs}
use Rattle.std.proofs.Math.Option.{Option, none, some}
use Rattle.rules.specs.Lists.{all_pass}
use Rattle.rules.specs.Frames.{positive}
use Rattle.text.specs.Words.{TextWord, line_words}
use Rattle.text_numbers.specs.Numbers.{integer_of}

-- ---- lines

-- a last line without LF is a line; nothing behind the last LF is none
abbrev pub last_line : List ℕ → List (List ℕ)
last_line [] = []
last_line (b ∷ bs) = (b ∷ bs) ∷ []

-- A line ends at LF. `begun` are the bytes of the first line that were read already.
unfoldable pub proof_lines : List ℕ → List ℕ → List (List ℕ)
proof_lines begun [] = last_line begun
proof_lines begun (b ∷ bs) = cond (eqb b 10) (begun ∷ proof_lines [] bs) (proof_lines (begun ++ (b ∷ [])) bs)

-- the words of a line: the longest runs of bytes that are no blanks
abbrev pub words_in : List ℕ → List TextWord
words_in line = line_words true 0 [] line

-- ---- numbers up to a 0

-- the numbers before the first 0, and the words behind it
pub record Closed : Type 0 where
  pub numbers : List ℤ
  pub behind : List TextWord

-- a number before them
abbrev pub ahead : ℤ → Option Closed → Option Closed
ahead z none = none
ahead z (some x) = some (record { numbers = z ∷ x.numbers; behind = x.behind })

-- a word that is no number, the 0, or another number, before what the words behind it come to
abbrev pub by_number : Option ℤ → List TextWord → Option Closed → Option Closed
by_number none ws more = none
by_number (some (pos zero)) ws more = some (record { numbers = []; behind = ws })
by_number (some (pos (suc n))) ws more = ahead (pos (suc n)) more
by_number (some (negsuc n)) ws more = ahead (negsuc n) more

unfoldable pub up_to_zero : List TextWord → Option Closed
up_to_zero [] = none
up_to_zero (w ∷ ws) = by_number (integer_of w.bytes) ws (up_to_zero ws)

-- ---- a line

-- an addition has an id, literals and hints
pub data Line : Type 0 where
  malformed : Line
  addition : ℕ → List ℤ → List ℤ → Line
  deletion : List ℕ → Line

-- nothing stands behind the last 0
abbrev pub at_end : List TextWord → Line → Line
at_end [] l = l
at_end (w ∷ ws) l = malformed

-- an id is 1 to 2,147,483,647
abbrev pub is_id : ℤ → Bool
is_id (pos n) = ltb 0 n && leb n 2147483647
is_id (negsuc n) = false

abbrev pub with_hints : ℤ → List ℤ → Option Closed → Line
with_hints i lits none = malformed
with_hints i lits (some x) = at_end x.behind (addition (nat_abs i) lits x.numbers)

abbrev pub with_literals : ℤ → Option Closed → Line
with_literals i none = malformed
with_literals i (some x) = cond (is_id i) (with_hints i x.numbers (up_to_zero x.behind)) malformed

-- a deleted id is not negative
abbrev pub with_ids : Option Closed → Line
with_ids none = malformed
with_ids (some x) = at_end x.behind (cond (all_pass positive x.numbers) (deletion (map nat_abs x.numbers)) malformed)

-- the word d
abbrev pub is_d : List ℕ → Bool
is_d [] = false
is_d (b ∷ []) = eqb b 100
is_d (b ∷ c ∷ bs) = false

abbrev pub behind_id : Option ℤ → List TextWord → Line
behind_id none ws = malformed
behind_id (some i) [] = malformed
behind_id (some i) (w ∷ ws) = cond (is_d w.bytes) (with_ids (up_to_zero ws)) (with_literals i (up_to_zero (w ∷ ws)))

abbrev pub read_words : List TextWord → Line
read_words [] = malformed
read_words (w ∷ ws) = behind_id (integer_of w.bytes) ws

abbrev pub read_line : List ℕ → Line
read_line line = read_words (words_in line)
