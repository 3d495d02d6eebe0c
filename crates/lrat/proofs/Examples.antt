-- Small texts and proofs, and what they come to, by computing.
use mathlib.Core.Path.{◌≡◌, refl}
use mathlib.Core.List.{List, [], ◌∷◌, map}
use Prim.Native.Nat.{ℕ}
use Prim.Native.Char.{code}
use Prim.Native.String.{String, [] as end, ◌∷◌ as ◌on◌}
use Rattle.rules.specs.Lists.{any_passes, all_pass, only}
use Rattle.rules.specs.Terms.{distinct, is_clause, fetch, room}
use Rattle.rules.specs.Propagation.{among, read, run, proves}
use Rattle.rules.specs.Frames.{without, place}
use Rattle.text.specs.Words.{text_lines, line_words, words_of_lines}
use Rattle.text_numbers.specs.Numbers.{said_on, natural_of, integer_of}
use Rattle.dimacs.specs.Reading.{expect, expect_number, clause_word, take_word, read_clauses, read_number, read_format, read_problem}
use Rattle.lrat.specs.Lines.{proof_lines, up_to_zero}
use Rattle.lrat.specs.Checking.{answer, check_deletion, all_gone, check_line, check_lines, fill, lrat}
use Rattle.lrat.specs.declared.LratAnswer.{LratAnswer}

-- the bytes between the quotes
pub quoted : String → List ℕ
quoted end = []
quoted (c on s) = code c ∷ quoted s

-- ---- the texts that proofs stand behind

-- (1) and (-1); and three clauses of five literals
abbrev opposed : String
opposed = "p cnf 1 2\n1 0\n-1 0\n"

abbrev three : String
three = "p cnf 2 3\n1 2 0\n-1 2 0\n-2 0\n"

-- a text, a proof, and the number with its detail, in tables of 4 entries and 6 words
pub proofs : List (String × String × ℕ × ℕ)
proofs =
    (opposed, "3 0 1 2 0\n", 0, 0) ∷
    -- an added clause is a hint from then on, and a deleted one gives its room back
    (three, "4 2 0 1 2 0\n4 d 1 2 0\n5 0 4 3 0\n", 0, 0) ∷
    -- the last line need not be closed; CR is a blank; words may stand apart
    (opposed, "3 0 1 2 0", 0, 0) ∷
    (opposed, " 3\t0  1 2 0\r\n", 0, 0) ∷
    -- nothing behind the empty clause is read
    (opposed, "3 0 1 2 0\nx", 0, 0) ∷
    -- no room for an entry, and for words; in the text with line 0
    (three, "4 2 0 1 2 0\n5 0 4 3 0\n", 12, 2) ∷
    (three, "4 1 2 0 1 0\n", 13, 1) ∷
    ("p cnf 1 5\n0 0 0 0 0", "", 12, 0) ∷
    ("p cnf 4 2\n1 2 3 4 0 1 2 3 0", "", 13, 0) ∷
    -- the text's faults come first
    ("p cnf 1 1\n2 0", "x", 24, 10) ∷
    -- an empty line, a line cut short, a word that is no number, words behind the last 0, an id of 0 and one above 2,147,483,647
    (opposed, "\n", 31, 1) ∷
    (opposed, "3 0 1 2", 31, 1) ∷
    (opposed, "3 -0 0 0", 31, 1) ∷
    (opposed, "3 0 1 2 0 0", 31, 1) ∷
    (opposed, "0 0 1 2 0", 31, 1) ∷
    (opposed, "2147483648 0 1 2 0", 31, 1) ∷
    -- d stands behind the id alone, and no deleted id is negative
    (opposed, "3 1 d 1 0", 31, 1) ∷
    (opposed, "3 d 1 -2 0", 31, 1) ∷
    -- a literal past the count, before all that comes behind it; a variable twice; an id that is not above all others
    (opposed, "2 1 1 2 0 -1 0", 32, 1) ∷
    (opposed, "2 1 -1 0 -1 0", 33, 1) ∷
    (opposed, "2 0 1 2 -1 0", 34, 1) ∷
    -- a deleted id that is not held, or not any more; a deletion may have no id, and its own is not judged
    (opposed, "3 d 3 0", 35, 1) ∷
    (opposed, "3 d 1 1 0", 35, 1) ∷
    (opposed, "5 d 0\n-7 d 1 0\n", 38, 2) ∷
    -- a negative hint, even if unread
    (opposed, "3 0 1 2 -1 0", 36, 1) ∷
    -- hints that do not prove: too few, a clause that is gone, a number of any length that names nothing
    (opposed, "3 0 1 0", 37, 1) ∷
    (opposed, "3 d 1 0\n3 0 1 2 0", 37, 2) ∷
    (opposed, "3 0 4294967297 2 0", 37, 1) ∷
    -- an end without an empty clause; a text that has one still needs a line
    (opposed, "", 38, 0) ∷
    ("p cnf 1 1\n0", "", 38, 0) ∷
    ("p cnf 1 1\n0", "2 0 1 0", 0, 0) ∷
    []

abbrev answered : String × String × ℕ × ℕ → LratAnswer
answered x = lrat 4 6 (quoted x.0) (quoted x.1)

pub proof_examples : map answered proofs ≡ map (λ (x : String × String × ℕ × ℕ). answer x.2 x.3) proofs
unfolding quoted proofs any_passes all_pass only distinct is_clause fetch room among read run proves without place text_lines line_words words_of_lines said_on
    natural_of integer_of expect expect_number clause_word take_word read_clauses read_number read_format read_problem proof_lines up_to_zero check_deletion
    all_gone check_line check_lines fill
proof_examples = refl

-- lent sizes out of range
pub lent_example : lrat 0 6 (quoted "") (quoted "") ≡ answer 1 0
lent_example = refl
