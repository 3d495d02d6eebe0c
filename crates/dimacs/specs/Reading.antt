-- Document 02, request 1: from any bytes to V and clauses, or to the first fault. A text is read word by word; the first faulty word decides.
use Rattle.std.specs.Prelude.{Bool, true, false, not, cond, ◌&&◌, List, [], ◌∷◌, ◌++◌, ℕ, zero, suc, eqb, ltb, leb, ℤ, pos, negsuc, nat_abs, length, drop, Result, Ok, Err}
use Rattle.std.proofs.Math.Option.{Option, none, some}
use Rattle.rules.specs.Terms.{in_range, mentions, null}
use Rattle.text.specs.Words.{TextWord, text_words}
use Rattle.text_numbers.specs.Numbers.{natural_of, integer_of}
use Rattle.dimacs.specs.declared.TextCounts.{TextCounts}
use Rattle.dimacs.specs.declared.TextFault.{TextFault}
use Rattle.dimacs.specs.declared.TextFault.TheVariants.{NoProblemLine, SecondProblemLine, MalformedWord, PastDeclared, VariableTwice, LongClause}
use Rattle.dimacs.specs.declared.TextFault.TheVariants.{VarsOutOfRange, UnclosedClause, WrongClauseCount}

-- ---- "each under its own number and with the byte position where the first faulty word starts .., the text's length for the last two or where no word is
-- left"

-- In the order of "Refuse a missing or second problem line, any other malformed word, a literal past the declared count, a variable twice in a clause, a clause
-- over 256 literals, a declared variable count outside 1 to 2,048, an unclosed clause and a wrong clause count".
abbrev pub fault_numbers : TextFault → ℕ × ℕ
fault_numbers (NoProblemLine at) = (21, at)
fault_numbers (SecondProblemLine at) = (22, at)
fault_numbers (MalformedWord at) = (23, at)
fault_numbers (PastDeclared at) = (24, at)
fault_numbers (VariableTwice at) = (25, at)
fault_numbers (LongClause at) = (26, at)
fault_numbers (VarsOutOfRange at) = (27, at)
fault_numbers (UnclosedClause at) = (28, at)
fault_numbers (WrongClauseCount at) = (29, at)

-- ---- what reading comes to

pub data Read (A : Type 0) : Type 0 where
  faulty : TextFault → Read A
  sound : A → Read A

-- "at one place this list's order decides": tests in order, the first that fails decides
unfoldable pub expect : {A : Type 0} → Bool → TextFault → Read A → Read A
expect true f r = r
expect false f r = faulty f

-- goes on with a number, if there is one
unfoldable pub expect_number : {A : Type 0} → Option ℕ → TextFault → (ℕ → Read A) → Read A
expect_number none f r = faulty f
expect_number (some n) f r = r n

-- ---- words

-- these bytes, and no others
abbrev pub spells : List ℕ → List ℕ → Bool
spells [] [] = true
spells [] (b ∷ bs) = false
spells (x ∷ xs) [] = false
spells (x ∷ xs) (b ∷ bs) = eqb b x && spells xs bs

-- the word p, and the word cnf
abbrev pub is_p : TextWord → Bool
is_p w = spells (112 ∷ []) w.bytes

abbrev pub is_cnf : TextWord → Bool
is_cnf w = spells (99 ∷ 110 ∷ 102 ∷ []) w.bytes

-- ---- "clauses closed by 0"

-- What a word behind the problem line is by itself: a fault, the 0 that closes a clause, or a literal. It stays a type of its own: no code hands it on, and an
-- optional literal in a `Result` would not say that none is the 0.
pub data ClauseWord : Type 0 where
  Wrong : TextFault → ClauseWord
  Closing : ClauseWord
  Literal : ℤ → ClauseWord

-- a literal by itself: "a literal past the declared count"
abbrev pub literal_word : ℕ → ℕ → ℤ → ClauseWord
literal_word vars at l = cond (in_range vars l) (Literal l) (Wrong (PastDeclared at))

abbrev pub number_word : ℕ → ℕ → Option ℤ → ClauseWord
number_word vars at none = Wrong (MalformedWord at)
number_word vars at (some (pos zero)) = Closing
number_word vars at (some (pos (suc n))) = literal_word vars at (pos (suc n))
number_word vars at (some (negsuc n)) = literal_word vars at (negsuc n)

-- The word p as the first of a line is a second problem line.
unfoldable pub clause_word : ℕ → TextWord → ClauseWord
clause_word vars w = cond (w.first && is_p w) (Wrong (SecondProblemLine w.at)) (number_word vars w.at (integer_of w.bytes))

-- What it does to a clause that is not closed yet, whose literals are `begun`: "a variable twice in a clause, a clause over 256 literals".
unfoldable pub take_word : {A : Type 0} → ClauseWord → ℕ → List ℤ → Read A → (ℤ → Read A) → Read A
take_word (Wrong f) at begun closed more = faulty f
take_word Closing at begun closed more = closed
take_word (Literal l) at begun closed more =
    expect (not (mentions begun (nat_abs l))) (VariableTwice at) (expect (ltb (length begun) 256) (LongClause at) (more l))

-- a clause before those that are read behind it
abbrev pub preceded : List ℤ → Read (List (List ℤ)) → Read (List (List ℤ))
preceded c (faulty f) = faulty f
preceded c (sound cs) = sound (c ∷ cs)

-- the clauses of words; `end` is the text's length
unfoldable pub read_clauses : ℕ → ℕ → List ℤ → List TextWord → Read (List (List ℤ))
read_clauses vars end begun [] = expect (null begun) (UnclosedClause end) (sound [])
read_clauses vars end begun (w ∷ ws) =
    take_word (clause_word vars w) w.at begun (preceded begun (read_clauses vars end [] ws)) λ l. read_clauses vars end (begun ++ (l ∷ [])) ws

-- ---- "one line "p cnf" with the variable and clause counts"

pub record Cnf : Type 0 where
  pub vars : ℕ
  pub clauses : List (List ℤ)

-- "a wrong clause count", at the text's length: whatever else is wrong comes before
abbrev pub counted : ℕ → ℕ → ℕ → Read (List (List ℤ)) → Read Cnf
counted vars count end (faulty f) = faulty f
counted vars count end (sound cs) = expect (eqb (length cs) count) (WrongClauseCount end) (sound (record { vars = vars; clauses = cs }))

-- no fifth word stands on the problem line
abbrev pub read_behind : ℕ → ℕ → List TextWord → Read (List (List ℤ))
read_behind vars end [] = read_clauses vars end [] []
read_behind vars end (w ∷ ws) = expect w.first (MalformedWord w.at) (read_clauses vars end [] (w ∷ ws))

-- a number that goes on with the problem line, which p began; `more` goes on with its place, itself and the words behind it
abbrev pub count_of : TextWord → Option ℕ
count_of w = cond w.first none (natural_of w.bytes)

unfoldable pub read_number : ℕ → List TextWord → (ℕ → ℕ → List TextWord → Read Cnf) → Read Cnf
read_number end [] more = faulty (MalformedWord end)
read_number end (w ∷ ws) more = expect_number (count_of w) (MalformedWord w.at) λ n. more w.at n ws

abbrev pub read_count : ℕ → ℕ → List TextWord → Read Cnf
read_count vars end ws = read_number end ws λ at n rest. counted vars n end (read_behind vars end rest)

-- "a declared variable count outside 1 to 2,048"
abbrev pub read_vars : ℕ → List TextWord → Read Cnf
read_vars end ws = read_number end ws λ at n rest. expect (ltb 0 n && leb n 2048) (VarsOutOfRange at) (read_count n end rest)

unfoldable pub read_format : ℕ → List TextWord → Read Cnf
read_format end [] = faulty (MalformedWord end)
read_format end (w ∷ ws) = expect (not w.first && is_cnf w) (MalformedWord w.at) (read_vars end ws)

-- "a missing .. problem line": "the word found instead"
unfoldable pub read_problem : ℕ → List TextWord → Read Cnf
read_problem end [] = faulty (NoProblemLine end)
read_problem end (w ∷ ws) = expect (is_p w) (NoProblemLine w.at) (read_format end ws)

-- a text
abbrev pub read_text : List ℕ → Read Cnf
read_text text = read_problem (length text) (text_words text)

-- the words behind the four of the problem line
abbrev pub body_words : List ℕ → List TextWord
body_words text = drop 4 (text_words text)

-- ---- what is told of a text

-- V and the number of clauses, or the fault
abbrev pub judged_text : Read Cnf → Result TextCounts TextFault
judged_text (faulty f) = Err f
judged_text (sound x) = Ok (record { vars = x.vars; clauses = length x.clauses })
