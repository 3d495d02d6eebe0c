-- Document 02, request 3: "Check such a file against a CNF text, read by request 1 into tables of its own".
use Rattle.std.specs.Prelude.{Bool, true, false, cond, ◌&&◌, ◌||◌, List, [], ◌∷◌, map, ℕ, ◌+◌, min, eqb, ltb, leb, ℤ, pos, negsuc, length}
use Rattle.rules.specs.Lists.{all_pass}
use Rattle.rules.specs.Terms.{State, in_range, is_clause, null, has, everything, room}
use Rattle.rules.specs.Propagation.{among, proves}
use Rattle.rules.specs.Frames.{ADD, LEARN, FORGET, DROP, next}
use Rattle.rules.specs.Answers.{lent, opened}
use Rattle.rules.specs.declared.Verdict.{Verdict}
use Rattle.rules.specs.declared.Verdict.TheVariants.{Proved, BadHint, UsedUp}
use Rattle.dimacs.specs.Reading.{Read, faulty, sound, Cnf, fault_numbers, read_text}
use Rattle.lrat.specs.Lines.{Line, malformed, addition, deletion, proof_lines, read_line}
use Rattle.lrat.specs.declared.LratAnswer.{LratAnswer}

-- ---- "each under its own number": the first question that is answered no decides, and 0 passes

abbrev pub ask : Bool → ℕ → ℕ → ℕ
ask test number more = cond test more number

-- ---- ids

-- no clause has an id above 2,147,483,647: a number above it names nothing, as a negative word does
abbrev pub named_by : ℤ → ℤ
named_by (pos n) = cond (leb n 2147483647) (pos n) (negsuc 0)
named_by (negsuc n) = negsuc n

abbrev pub is_held : State → ℕ → Bool
is_held s i = leb i 2147483647 && (has s.irredundant i || has s.learned i)

-- the clause goes, from whichever of the two places it is in
abbrev pub gone : State → ℕ → State
gone s i = cond (has s.learned i) (next s (FORGET i)) (next s (DROP i []))

-- ---- an addition

abbrev pub not_negative : ℤ → Bool
not_negative (pos n) = true
not_negative (negsuc n) = false

abbrev pub is_proved : Verdict → Bool
is_proved (Proved n) = true
is_proved (BadHint n) = false
is_proved UsedUp = false

-- 12, 13 and 37, as LEARN asks: "no room (12, then 13) and a failed proof"
abbrev pub ask_room : State → List ℤ → ℕ → ℕ
ask_room s c more =
    ask (ltb (length (everything s)) s.entries) 12
    (ask (leb (room (everything s) + length c) s.words) 13 more)

-- "a literal past the CNF's count, a clause against Terms, an added line's id not above all CNF and earlier added ids, .. a negative hint even if unread,
-- no room (12, then 13) and a failed proof .., in this order within a line"
abbrev pub check_addition : State → ℕ → List ℤ → List ℤ → ℕ
check_addition s i c hints =
    ask (all_pass (in_range s.vars) c) 32
    (ask (is_clause s.vars c) 33
    (ask (ltb s.highest i) 34
    (ask (all_pass not_negative hints) 36
    (ask_room s c
    (ask (is_proved (proves (among (everything s)) c (map named_by hints))) 37 0)))))

-- ---- a deletion: "a deleted id not held"; one after the other, so an id that is deleted twice is not held the second time

unfoldable pub check_deletion : State → List ℕ → ℕ
check_deletion s [] = 0
check_deletion s (i ∷ is) = ask (is_held s i) 35 (check_deletion (gone s i) is)

unfoldable pub all_gone : State → List ℕ → State
all_gone s [] = s
all_gone s (i ∷ is) = all_gone (gone s i) is

-- ---- a line

unfoldable pub check_line : State → Line → ℕ
check_line s malformed = 31
check_line s (addition i c hints) = check_addition s i c hints
check_line s (deletion is) = check_deletion s is

-- an addition is LEARN's: it becomes learned
abbrev pub next_line : State → Line → State
next_line s malformed = s
next_line s (addition i c hints) = next s (LEARN i c hints)
next_line s (deletion is) = all_gone s is

-- "the first empty clause"
abbrev pub is_empty_clause : Line → Bool
is_empty_clause malformed = false
is_empty_clause (addition i c hints) = null c
is_empty_clause (deletion is) = false

-- ---- a proof

abbrev pub answer : ℕ → ℕ → LratAnswer
answer code detail = record { code = code; detail = detail }

-- lines are counted in 64 bits, which no proof needs
abbrev pub one_more : ℕ → ℕ
one_more n = min (n + 1) 18446744073709551615

-- a line with this number of refusal, or 0, that is an empty clause or not, before what the lines behind it come to
abbrev pub by_line : ℕ → Bool → ℕ → LratAnswer → LratAnswer
by_line code empty n more = cond (eqb code 0) (cond empty (answer 0 0) more) (answer code n)

-- "accept exactly when every line up to the first empty clause passes and one is reached"; n lines were read before. "so is an end without an empty clause,
-- with the number of lines". "Nothing after the first empty clause is read."
unfoldable pub check_lines : State → ℕ → List (List ℕ) → LratAnswer
check_lines s n [] = answer 38 n
check_lines s n (l ∷ ls) =
    by_line (check_line s (read_line l)) (is_empty_clause (read_line l)) (one_more n) (check_lines (next_line s (read_line l)) (one_more n) ls)

abbrev pub check_proof : State → List ℕ → LratAnswer
check_proof s proof = check_lines s 0 (proof_lines [] proof)

-- ---- the clauses of the text, as ADD takes them: "no room for it is 12 or 13 with line 0"

-- a number of refusal, or the state that holds them
pub data Filled : Type 0 where
  full : ℕ → Filled
  filled : State → Filled

abbrev pub filled_if : ℕ → Filled → Filled
filled_if code more = cond (eqb code 0) more (full code)

-- the first of them under id i
unfoldable pub fill : State → ℕ → List (List ℤ) → Filled
fill s i [] = filled s
fill s i (c ∷ cs) = filled_if (ask_room s c 0) (fill (next s (ADD i c)) (i + 1) cs)

abbrev pub opened_for : ℕ → ℕ → Cnf → State
opened_for entries words x = opened x.vars entries words

abbrev pub against : List ℕ → Filled → LratAnswer
against proof (full code) = answer code 0
against proof (filled s) = check_proof s proof

-- ---- both texts: "That text's faults come first, as there"

abbrev pub against_text : ℕ → ℕ → Read Cnf → List ℕ → LratAnswer
against_text entries words (faulty f) proof = answer (fault_numbers f).0 (fault_numbers f).1
against_text entries words (sound x) proof = against proof (fill (opened_for entries words x) 1 x.clauses)

-- lent sizes out of range are 1
abbrev pub lrat : ℕ → ℕ → List ℕ → List ℕ → LratAnswer
lrat entries words cnf proof = cond (lent entries words) (against_text entries words (read_text cnf) proof) (answer 1 0)
