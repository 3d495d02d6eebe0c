-- Small texts, and what they are read as, by computing.
use mathlib.Core.Path.{◌≡◌, refl}
use mathlib.Core.List.{List, [], ◌∷◌, map}
use mathlib.Core.Option.{Option, none, some}
use Prim.Native.Nat.{ℕ, zero, suc}
use Prim.Native.Char.{code}
use Prim.Native.String.{String, [] as end, ◌∷◌ as ◌on◌}
use lib.IntN.{ℤ, pos}
use Rattle.rules.specs.Lists.{any_passes, all_pass}
use Rattle.rules.specs.Outcomes.{◌⊞◌, ◌⊟◌}
use Rattle.text.specs.Words.{text_lines, line_words, words_of_lines}
use Rattle.text_numbers.specs.Numbers.{said_on, natural_of, integer_of, decimal_in}
use Rattle.dimacs.specs.Reading.{fault_numbers, Read, faulty, sound, expect, expect_number, clause_word, take_word, read_clauses, Cnf, read_number}
use Rattle.dimacs.specs.Reading.{read_format}
use Rattle.dimacs.specs.Reading.{read_problem, read_text}
use Rattle.dimacs.specs.Frames.{add_frames, frames_of}
use Rattle.dimacs.specs.Writing.{clause_text, clauses_text, cnf_text}

-- the bytes between the quotes
pub quoted : String → List ℕ
quoted end = []
quoted (c on s) = code c ∷ quoted s

-- ---- texts without fault, with V and their clauses

pub sound_texts : List (String × ℕ × List (List ℤ))
sound_texts =
    ("p cnf 1 1\n1 0\n", 1, (1 ⊞ []) ∷ []) ∷
    -- the last line need not be closed; CR is a blank; a clause may be empty
    ("p cnf 1 1\n1 0", 1, (1 ⊞ []) ∷ []) ∷
    ("p cnf 1 1\r\n0\r\n", 1, [] ∷ []) ∷
    -- a comment line stands anywhere, inside a clause too
    ("c\np cnf 1 0", 1, []) ∷
    ("p cnf 1 1\n1\nc\n0", 1, (1 ⊞ []) ∷ []) ∷
    -- clauses are closed by 0, and not by the line's end; first digits may be 0
    ("p cnf 1 2\n0 1\n0", 1, [] ∷ (1 ⊞ []) ∷ []) ∷
    ("p cnf 02 1\n-2 0", 2, (2 ⊟ []) ∷ []) ∷
    []

abbrev pub read_so : String × ℕ × List (List ℤ) → Read Cnf
read_so x = sound (record { vars = x.1; clauses = x.2 })

pub sound_examples : map (λ x. read_text (quoted x.0)) sound_texts ≡ map read_so sound_texts
unfolding quoted sound_texts any_passes all_pass text_lines line_words words_of_lines said_on natural_of integer_of expect expect_number clause_word take_word
    read_clauses read_number read_format read_problem
sound_examples = refl

-- ---- texts with a fault, with its number and place

abbrev pub fault_of : Read Cnf → Option (ℕ × ℕ)
fault_of (faulty f) = some (fault_numbers f)
fault_of (sound x) = none

pub faulty_texts : List (String × ℕ × ℕ)
faulty_texts =
    -- no problem line: at the word found instead, or at the text's length; a comment line starts with c, and with no blank
    ("", 21, 0) ∷
    ("c\n", 21, 2) ∷
    ("1 0\np cnf 1 1", 21, 0) ∷
    (" c\np cnf 1 0", 21, 1) ∷
    -- p as the first word of a line behind the problem line, and as another
    ("p cnf 1 0\np", 22, 10) ∷
    ("p cnf 1 1\n1 p", 23, 12) ∷
    -- words of the problem line, and a fifth
    ("p dnf 1 0", 23, 2) ∷
    ("p cnf -1 0", 23, 6) ∷
    ("p cnf 1 1 0", 23, 10) ∷
    -- a problem line that is cut by the line's end: at the next word, whatever it is, or at the text's length
    ("p cnf 1\n1\n0", 23, 8) ∷
    ("p\np", 23, 2) ∷
    ("p cnf 1\n", 23, 8) ∷
    -- words that are no numbers
    ("p cnf 1 1\n-0", 23, 10) ∷
    ("p cnf 5 1\n+5", 23, 10) ∷
    ("p cnf 1 1\n1\0", 23, 10) ∷
    -- a literal past the declared count; a number of any length is that number, and not 1
    ("p cnf 1 1\n-2 0", 24, 10) ∷
    ("p cnf 1 1\n4294967297", 24, 10) ∷
    -- a variable twice, with either sign: at the second
    ("p cnf 1 1\n1 1", 25, 12) ∷
    ("p cnf 1 1\n1 -1", 25, 12) ∷
    -- a declared variable count out of range
    ("p cnf 0 0", 27, 6) ∷
    ("p cnf 2049 0", 27, 6) ∷
    -- unclosed, whatever the count, else a wrong count: at the text's length, and only where no word is faulty
    ("p cnf 1 1\n1", 28, 11) ∷
    ("p cnf 1 2\n1\n", 28, 12) ∷
    ("p cnf 1 2\n1 0", 29, 13) ∷
    ("p cnf 1 0\n1 0\n", 29, 14) ∷
    ("p cnf 1 2\n1 x", 23, 12) ∷
    []

pub faulty_examples : map (λ x. fault_of (read_text (quoted x.0))) faulty_texts ≡ map (λ x. some (x.1, x.2)) faulty_texts
unfolding quoted faulty_texts any_passes all_pass text_lines line_words words_of_lines said_on natural_of integer_of expect expect_number clause_word take_word
    read_clauses read_number read_format read_problem
faulty_examples = refl

-- a clause of 257 literals: at the last of them
pub upto : ℕ → List ℤ → List ℤ
upto zero c = c
upto (suc n) c = upto n (pos (suc n) ∷ c)

pub long_example : fault_of (read_text (cnf_text 257 (upto 257 [] ∷ []))) ≡ some (26, 928)
unfolding upto clause_text clauses_text decimal_in any_passes all_pass text_lines line_words words_of_lines said_on natural_of integer_of expect expect_number
    clause_word take_word read_clauses read_number read_format read_problem
long_example = refl

-- ---- frames

-- two clauses, (1 -3) and (2)
pub frames_example : frames_of (sound (record { vars = 3; clauses = (1 ⊞ 3 ⊟ []) ∷ (2 ⊞ []) ∷ [] })) ≡ (1 ⊞ 1 ⊞ 1 ⊞ 3 ⊟ []) ∷ (1 ⊞ 2 ⊞ 2 ⊞ []) ∷ []
unfolding add_frames
frames_example = refl
