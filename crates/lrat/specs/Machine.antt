-- The same as a machine over bytes: what is kept of a line does not grow with it. That its run is the definition's answer, wherever the proof is cut, is proved
-- in proofs/Runs.
use Rattle.std.specs.Prelude.{Bool, true, false, not, cond, ◌&&◌, ◌||◌, List, [], ◌∷◌, ◌++◌, ℕ, ◌+◌, ◌-◌, ◌*◌, min, eqb, ltb, leb, ℤ, neg_ℤ}
use Rattle.rules.specs.Terms.{Literals, State, in_range, holds, is_clause, null, everything}
use Rattle.rules.specs.Propagation.{Named, nobody, Allowed, among, Looked, conflict, forced, bad, judge, also}
use Rattle.rules.specs.Frames.{LEARN, next}
use Rattle.rules.specs.Answers.{opened}
use Rattle.text.specs.Words.{is_blank}
use Rattle.text_numbers.specs.Numbers.{is_decimal}
use Rattle.text_numbers.specs.Told.{with_sign}
use Rattle.lrat.specs.Checking.{ask, is_held, gone, ask_room, answer, one_more}
use Rattle.lrat.specs.declared.LratAnswer.{LratAnswer}
use Rattle.lrat.specs.declared.LineWord.{LineWord}
use Rattle.lrat.specs.declared.LineWord.TheVariants.{Number, Deletion, Other}
use Rattle.lrat.specs.declared.ProofWord.{ProofWord}
use Rattle.lrat.specs.declared.ProofLine.{ProofLine}

-- ---- a word

abbrev pub word : ℕ → Bool → ℕ → ProofWord
word kind minus value = record { kind = kind; minus = minus; value = value }

abbrev pub at_start : ProofWord
at_start = word 0 false 0

abbrev pub between : ProofWord
between = word 5 false 0

-- one digit more; 2^32 stands for all numbers from there on
abbrev pub grown : ℕ → ℕ → ℕ
grown v d = min (v * 10 + d) 4294967296

-- the first byte of a word
abbrev pub begin : ℕ → ProofWord
begin b = cond (is_decimal b) (word 2 false (b - 48)) (cond (eqb b 45) (word 1 true 0) (cond (eqb b 100) (word 3 false 0) (word 4 false 0)))

-- a digit or another byte behind a minus or a digit
abbrev pub digit_or : ProofWord → ℕ → ProofWord
digit_or w b = cond (is_decimal b) (word 2 w.minus (grown w.value (b - 48))) (word 4 false 0)

-- a word is on its way
abbrev pub is_word : ProofWord → Bool
is_word w = ltb 0 w.kind && ltb w.kind 5

-- one byte more, no blank
unfoldable pub push : ProofWord → ℕ → ProofWord
push w b = cond (is_word w) (cond (ltb w.kind 3) (digit_or w b) (word 4 false 0)) (begin b)

-- bytes of a word, one after the other
unfoldable pub pushes : ProofWord → List ℕ → ProofWord
pushes w [] = w
pushes w (b ∷ bs) = pushes (push w b) bs

-- what it is where it ends here; there is no -0
unfoldable pub said : ProofWord → LineWord
said w = cond (eqb w.kind 3) Deletion (cond (eqb w.kind 2 && not (w.minus && eqb w.value 0)) (Number w.minus w.value) Other)

-- ---- a line

-- what is read of it, with the literals and the false literals
pub record Reading : Type 0 where
  pub line : ProofLine
  pub lits : List ℤ
  pub falses : Literals

abbrev pub line_start : ProofLine
line_start = record { phase = 0; noted = 37; id = 0; count = 0; proof = 0 }

abbrev pub with_line : ProofLine → Reading → Reading
with_line l r = record { line = l; lits = r.lits; falses = r.falses }

-- a number of refusal is noted: the least of a line decides
abbrev pub noting : ℕ → ProofLine → ProofLine
noting code l = record { phase = l.phase; noted = min l.noted code; id = l.id; count = l.count; proof = l.proof }

abbrev pub note : ℕ → Reading → Reading
note code r = with_line (noting code r.line) r

abbrev pub in_phase : ℕ → ProofLine → ProofLine
in_phase p l = record { phase = p; noted = l.noted; id = l.id; count = l.count; proof = l.proof }

abbrev pub enter : ℕ → Reading → Reading
enter p r = with_line (in_phase p r.line) r

-- the id of a line, 0 where the number is none
abbrev pub id_said : Bool → ℕ → ℕ
id_said minus v = cond (not minus && leb v 2147483647) v 0

abbrev pub take_id : Bool → ℕ → Reading → Reading
take_id minus v r = with_line (record { phase = 1; noted = r.line.noted; id = id_said minus v; count = r.line.count; proof = r.line.proof }) r

-- a literal, kept as the last
abbrev pub keep : ℤ → Reading → Reading
keep l r = record {
  line = record { phase = 2; noted = r.line.noted; id = r.line.id; count = r.line.count + 1; proof = r.line.proof };
  lits = r.lits ++ (l ∷ []);
  falses = r.falses;
}

abbrev pub take_literal : ℕ → ℤ → Reading → Reading
take_literal vars l r = cond (in_range vars l) (cond (ltb r.line.count 256) (keep l r) (note 33 (enter 2 r))) (note 32 (enter 2 r))

-- the literals end: they are false
abbrev pub end_literals : Reading → Reading
end_literals r = record { line = in_phase 3 r.line; lits = r.lits; falses = holds r.lits }

-- what a hint names
abbrev pub named : Allowed → ℕ → Named
named A v = cond (leb v 2147483647) (A v) nobody

abbrev pub deciding : ℕ → ProofLine → ProofLine
deciding p l = record { phase = l.phase; noted = l.noted; id = l.id; count = l.count; proof = p }

abbrev pub looked_at : Looked → Reading → Reading
looked_at conflict r = with_line (deciding 1 r.line) r
looked_at (forced u) r = record { line = r.line; lits = r.lits; falses = also (neg_ℤ u) r.falses }
looked_at bad r = with_line (deciding 2 r.line) r

-- a hint is read as it comes, while the hints go on
abbrev pub take_hint : Allowed → ℕ → Reading → Reading
take_hint A v r = cond (eqb r.line.proof 0) (looked_at (judge r.falses (named A v)) r) r

-- the state with it, since a deleted clause goes as its id comes
pub record Step : Type 0 where
  pub state : State
  pub reading : Reading

abbrev pub step : State → Reading → Step
step s r = record { state = s; reading = r }

abbrev pub take_deleted : State → ℕ → Reading → Step
take_deleted s v r = cond (is_held s v) (step (gone s v) r) (step s (note 35 r))

-- among literals, hints, deleted ids
abbrev pub among_literals : State → Bool → ℕ → Reading → Step
among_literals s minus v r = step s (cond (eqb v 0) (end_literals r) (take_literal s.vars (with_sign minus v) r))

abbrev pub among_hints : State → Bool → ℕ → Reading → Step
among_hints s minus v r = step s (cond (eqb v 0) (enter 4 r) (cond minus (note 36 r) (take_hint (among (everything s)) v r)))

abbrev pub among_ids : State → Bool → ℕ → Reading → Step
among_ids s minus v r = cond (eqb v 0) (step s (enter 6 r)) (cond minus (step s (note 31 r)) (take_deleted s v r))

-- a number, by the phase
unfoldable pub take_number : State → Bool → ℕ → Reading → Step
take_number s minus v r =
    let p = r.line.phase in
    cond (eqb p 0) (step s (take_id minus v r))
    (cond (eqb p 1 || eqb p 2) (among_literals s minus v r)
    (cond (eqb p 3) (among_hints s minus v r)
    (cond (eqb p 5) (among_ids s minus v r) (step s (note 31 r)))))

-- a word: d stands behind the id alone
unfoldable pub take_word : State → LineWord → Reading → Step
take_word s (Number minus v) r = take_number s minus v r
take_word s Deletion r = step s (cond (eqb r.line.phase 1) (enter 5 r) (note 31 r))
take_word s Other r = step s (note 31 r)

-- ---- the end of a line

-- 31 to 36, where one of them decides an addition, else 37
abbrev pub addition_fault : State → Reading → ℕ
addition_fault s r =
    min r.line.noted
    (ask (ltb 0 r.line.id && leb r.line.id 2147483647) 31 (ask (is_clause s.vars r.lits) 33 (ask (ltb s.highest r.line.id) 34 37)))

abbrev pub addition_code : State → Reading → ℕ
addition_code s r = ask (leb 37 (addition_fault s r)) (addition_fault s r) (ask_room s r.lits (ask (eqb r.line.proof 1) 37 0))

abbrev pub deletion_code : Reading → ℕ
deletion_code r = ask (leb 37 r.line.noted) r.line.noted 0

-- the number of refusal of a line that ends here, or 0
unfoldable pub line_code : State → Reading → ℕ
line_code s r = cond (eqb r.line.phase 4) (addition_code s r) (cond (eqb r.line.phase 6) (deletion_code r) 31)

abbrev pub is_addition : Reading → Bool
is_addition r = eqb r.line.phase 4

-- the answer is known behind a line that is refused, and behind the empty clause
abbrev pub is_last : ℕ → Reading → Bool
is_last code r = not (eqb code 0) || (is_addition r && null r.lits)

-- the state behind a line that passed
abbrev pub state_behind : State → Reading → State
state_behind s r = cond (is_addition r) (next s (LEARN r.line.id r.lits [])) s

-- ---- a run

-- what is read of a proof, with the tables
pub record Session : Type 0 where
  pub word : ProofWord
  pub reading : Reading
  pub lines : ℕ
  pub over : Bool
  pub code : ℕ
  pub state : State

-- "opened empty and left so whatever the outcome"
abbrev pub emptied : State → State
emptied s = opened s.vars s.entries s.words

-- the lines before the first byte of a line
abbrev pub fresh : Reading → Reading
fresh r = record { line = line_start; lits = []; falses = r.falses }

abbrev pub no_literal : Literals
no_literal l = false

abbrev pub started : State → Session
started s =
    record { word = at_start; reading = record { line = line_start; lits = []; falses = no_literal }; lines = 0; over = false; code = 0; state = s }

-- a word ends, if one is on its way
abbrev pub word_taken : Session → Step → Session
word_taken m t = record { word = between; reading = t.reading; lines = m.lines; over = m.over; code = m.code; state = t.state }

unfoldable pub end_word : Session → Session
end_word m = word_taken m (cond (is_word m.word) (take_word m.state (said m.word) m.reading) (step m.state m.reading))

-- the line ends with this number of refusal, or 0
abbrev pub line_closed : Session → ℕ → Session
line_closed m code = record {
  word = at_start;
  reading = fresh m.reading;
  lines = one_more m.lines;
  over = is_last code m.reading;
  code = code;
  state = cond (is_last code m.reading) (emptied m.state) (state_behind m.state m.reading);
}

abbrev pub close_line : Session → Session
close_line m = line_closed m (line_code m.state m.reading)

abbrev pub pushed : ℕ → Session → Session
pushed b m = record { word = push m.word b; reading = m.reading; lines = m.lines; over = m.over; code = m.code; state = m.state }

-- one byte; none is read once the answer is known
unfoldable pub move : Session → ℕ → Session
move m b = cond m.over m (cond (eqb b 10) (close_line (end_word m)) (cond (is_blank b) (end_word m) (pushed b m)))

unfoldable pub run : Session → List ℕ → Session
run m [] = m
run m (b ∷ bs) = run (move m b) bs

-- ---- the end of the proof

-- without an empty clause: 38
abbrev pub unproved : Session → Session
unproved m =
    record { word = at_start; reading = m.reading; lines = m.lines; over = true; code = 38; state = emptied m.state }

abbrev pub decided : Session → Session
decided m = cond m.over m (unproved m)

-- a last line without LF is a line
abbrev pub end_line : Session → Session
end_line m = cond (eqb m.word.kind 0) m (close_line (end_word m))

unfoldable pub finish : Session → Session
finish m = cond m.over m (decided (end_line m))

-- the answer of a run that is over: the detail of an acceptance is 0
abbrev pub told : Session → LratAnswer
told m = answer m.code (cond (eqb m.code 0) 0 m.lines)
