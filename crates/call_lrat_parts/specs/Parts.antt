-- A proof given in parts over lent tables: what each call comes to, for every input.
use Rattle.std.specs.Prelude.{◌≡◌, Bool, true, cond, ◌&&◌, List, ℕ, leb, ℤ, length, take}
use Rattle.std.proofs.Math.Option.{Option, none, some}
use Rattle.rules.specs.Lists.{all_pass}
use Rattle.rules.specs.Terms.{State, in_range}
use Rattle.rules.specs.Answers.{lent}
use Rattle.dimacs.specs.Reading.{Read, faulty, sound, Cnf, fault_numbers, read_text}
use Rattle.lent.specs.declared.Carried.{Carried}
use Rattle.lent_entries.specs.Lent.{state_lent}
use Rattle.lent_entries.specs.declared.Entry.{Entry}
use Rattle.lent_open.specs.Opened as opening
use Rattle.lrat.specs.Checking.{answer, Filled, full, filled, fill, opened_for}
use Rattle.lrat.specs.Machine.{Session, started, run, finish, told}
use Rattle.lrat.specs.declared.LratAnswer.{LratAnswer}
use Rattle.lrat_feed.specs.Feeding.{session_of}
use Rattle.call_lrat_parts.specs.declared.ProofReading.{ProofReading}
use Rattle.call_lrat_parts.specs.declared.LratGiven.{LratGiven}

-- ---- what is read

-- at most 256 literals are kept, each of 1 to 2,048 variables, and no number of refusal below 31 is noted
abbrev pub is_reading : ProofReading → Bool
is_reading r =
    leb r.reader.line.count 256 && (all_pass (in_range 2048) (take r.reader.line.count r.lits) && leb 31 r.reader.line.noted)

-- the state that the bytes meet, where there is one: what is lent is a state, and a proof is being read
abbrev pub met : List Entry → List ℤ → Carried → ProofReading → Option State
met entries pool c r = cond (is_reading r) (state_lent entries pool c) none

-- the machine's session that all of them hold
abbrev pub session : ProofReading → State → Session
session r s = session_of r.reader r.lits r.falses.plus r.falses.minus s

-- nothing else has changed
abbrev pub refused : LratAnswer → Carried → ProofReading → LratGiven
refused a c r = record { answer = a; carried = c; reading = r }

-- ---- opening

-- the rules of a text in tables of these sizes
pub data Rules : Type 0 where
  unopened : LratAnswer → Rules
  no_room : ℕ → ℕ → Rules
  holding : State → Rules

abbrev pub by_room : ℕ → Filled → Rules
by_room vars (full code) = no_room code vars
by_room vars (filled s) = holding s

abbrev pub by_text : ℕ → ℕ → Read Cnf → Rules
by_text entries words (faulty f) = unopened (answer (fault_numbers f).0 (fault_numbers f).1)
by_text entries words (sound x) = by_room x.vars (fill (opened_for entries words x) 1 x.clauses)

abbrev pub rules_of : ℕ → ℕ → List ℕ → Rules
rules_of entries words cnf = cond (lent entries words) (by_text entries words (read_text cnf)) (unopened (answer 1 0))

-- the tables hold the rules, and nothing of a proof is read; or they are opened empty, with no room for the rules; or nothing is opened, and nothing changed
abbrev pub LratOpens : Rules → List Entry → List ℤ → Carried → ProofReading → LratGiven → List Entry → List ℤ → Type 0
LratOpens (unopened a) entries pool c r q entries' pool' = (q ≡ refused a c r) × (entries' ≡ entries) × (pool' ≡ pool)
LratOpens (no_room code vars) entries pool c r q entries' pool' = (q ≡ refused (answer code 0) (opening.empty vars) r) × (entries' ≡ entries)
LratOpens (holding s) entries pool c r q entries' pool' =
    (q.answer ≡ answer 0 0) × (met entries' pool' q.carried q.reading ≡ some s) × (session q.reading s ≡ started s)

pub record LratOpening (entries : List Entry) (pool : List ℤ) (c : Carried) (r : ProofReading) (cnf : List ℕ) (q : LratGiven) (entries' : List Entry)
    (pool' : List ℤ) : Type 0 where
  pub opens : LratOpens (rules_of (length entries) (length pool) cnf) entries pool c r q entries' pool'
  pub sizes : (length entries' ≡ length entries) × (length pool' ≡ length pool)

-- ---- a part

-- the proof ends with it, or not
abbrev pub ended : Bool → Session → Session
ended last m = cond last (finish m) m

-- the answer where it is known; till then the part is accepted
abbrev pub answer_so_far : Session → LratAnswer
answer_so_far m = cond m.over (told m) (answer 0 0)

-- the part met s: its bytes are fed to the machine, and what goes out spells its session after them
pub record GivenFrom (s : State) (entries : List Entry) (pool : List ℤ) (c : Carried) (r : ProofReading) (part : List ℕ) (last : Bool) (q : LratGiven)
    (entries' : List Entry) (pool' : List ℤ) : Type 0 where
  pub after : Session
  pub fed : after ≡ ended last (run (session r s) part)
  pub answered : q.answer ≡ answer_so_far after
  pub spells : met entries' pool' q.carried q.reading ≡ some after.state
  pub reads : session q.reading after.state ≡ after
  -- once the answer is known it is told again, and nothing changes
  pub again : r.reader.over ≡ true → (entries' ≡ entries) × (pool' ≡ pool) × (q.carried ≡ c) × (q.reading ≡ r)

pub record LratGiving (entries : List Entry) (pool : List ℤ) (c : Carried) (r : ProofReading) (part : List ℕ) (last : Bool) (q : LratGiven)
    (entries' : List Entry) (pool' : List ℤ) : Type 0 where
  pub given : (s : State) → met entries pool c r ≡ some s → GivenFrom s entries pool c r part last q entries' pool'
  -- a refusal by 1 leaves every lent word, what is carried and what is read
  pub left : met entries pool c r ≡ none → (q ≡ refused (answer 1 0) c r) × (entries' ≡ entries) × (pool' ≡ pool)
  pub sizes : (length entries' ≡ length entries) × (length pool' ≡ length pool)
