-- A part of a proof, and the rules of a text, on the rows of a table of n entries, and which of them are to be put back.
use Rattle.std.specs.Prelude.{◌≡◌, Bool, true, false, not, cond, ◌&&◌, List, ℕ, ◌≤◌, eqb, ℤ, pos, length, take, replicate}
use Rattle.std.proofs.Math.Option.{none, some}
use Rattle.rules.specs.Terms.{State}
use Rattle.rules.specs.Answers.{lent}
use Rattle.table.specs.Spelled.{Row}
use Rattle.table.specs.declared.Table.{Table}
use Rattle.lent.specs.State.{state_carried}
use Rattle.lent.specs.Stored.{carried_of, Stores, PutsBack}
use Rattle.lent.specs.declared.Carried.{Carried}
use Rattle.lent_open.specs.Opened as opening
use Rattle.lrat.specs.Checking.{answer}
use Rattle.lrat.specs.Machine.{Session, run}
use Rattle.lrat.specs.declared.LratAnswer.{LratAnswer}
use Rattle.lrat.specs.declared.ProofReader.{ProofReader}
use Rattle.lrat_feed.specs.Feeding.{start_reader}
use Rattle.call_lrat_parts.specs.Parts.{is_reading, session, refused, Rules, unopened, no_room, holding, rules_of, ended, answer_so_far}
use Rattle.call_lrat_parts.specs.declared.ProofReading.{ProofReading}
use Rattle.lent_entries.specs.declared.Ran.{Ran}
use Rattle.call_lrat_parts.specs.declared.LratGiven.{LratGiven}

-- ---- what is handed back

abbrev pub proof_left : LratAnswer → Carried → ProofReading → Ran LratGiven
proof_left a c r = record { given = refused a c r; count = 0 }

abbrev pub proof_stored : LratAnswer → Table → List ℕ → ProofReading → Ran LratGiven
proof_stored a t stack r = record { given = refused a (carried_of t stack) r; count = t.count }

-- the answer that a reader tells where it is known, and till then
abbrev pub reader_told : ProofReader → LratAnswer
reader_told r = answer r.code (cond (eqb r.code 0) 0 r.lines)

abbrev pub reader_answer : ProofReader → LratAnswer
reader_answer r = cond r.over (reader_told r) (answer 0 0)

abbrev pub fresh_reading : ProofReading
fresh_reading = record { reader = start_reader; lits = replicate 256 (pos 0); falses = record { plus = replicate 32 0; minus = replicate 32 0 } }

-- ---- a part

-- a working table of n entries spelled s, and the answer was not known yet
pub record ReadOn (n : ℕ) (s : State) (r : ProofReading) (part : List ℕ) (last : Bool) (q : Ran LratGiven) (rows' : List Row) (pool' : List ℤ) : Type 0 where
  pub after : Session
  pub fed : after ≡ ended last (run (session r s) part)
  pub answered : q.given.answer ≡ answer_so_far after
  pub reading_is : is_reading q.given.reading ≡ true
  pub reads : session q.given.reading after.state ≡ after
  pub bounded : (q.count ≤ n) × (q.count ≤ length rows')
  pub stores : Stores n q.count q.given.carried rows' pool' after.state

-- the rows spelled s: once the answer is known nothing goes back, and what is read stays
pub record RanFrom (s : State) (n : ℕ) (pool : List ℤ) (c : Carried) (r : ProofReading) (part : List ℕ) (last : Bool) (q : Ran LratGiven) (rows' : List Row)
    (pool' : List ℤ) : Type 0 where
  pub after : Session
  pub fed : after ≡ ended last (run (session r s) part)
  pub answered : q.given.answer ≡ answer_so_far after
  pub reading_is : is_reading q.given.reading ≡ true
  pub reads : session q.given.reading after.state ≡ after
  pub back : PutsBack (not r.reader.over) n c pool s q.count q.given.carried rows' pool' after.state
  pub again : r.reader.over ≡ true → q.given.reading ≡ r

pub record RanOn (n : ℕ) (rows : List Row) (pool : List ℤ) (c : Carried) (r : ProofReading) (part : List ℕ) (last : Bool) (q : Ran LratGiven) (rows' : List Row)
    (pool' : List ℤ) : Type 0 where
  pub bounded : (q.count ≤ n) × (q.count ≤ length rows')
  pub ran : (s : State) → state_carried c (take n rows) pool ≡ some s → RanFrom s n pool c r part last q rows' pool'
  pub left : state_carried c (take n rows) pool ≡ none → (q ≡ proof_left (answer 1 0) c r) × (pool' ≡ pool)

-- the same where the sizes may be out of range, and what is read may be no proof
abbrev pub give_sized : ℕ → List ℤ → ProofReading → Bool
give_sized n pool r = lent n (length pool) && is_reading r

pub record GiveRun (n : ℕ) (rows : List Row) (pool : List ℤ) (c : Carried) (r : ProofReading) (part : List ℕ) (last : Bool) (q : Ran LratGiven) (rows' : List Row)
    (pool' : List ℤ) : Type 0 where
  pub bounded : (q.count ≤ n) × (q.count ≤ 1280)
  pub judged_so : give_sized n pool r ≡ true → RanOn n rows pool c r part last q rows' pool'
  pub refused : give_sized n pool r ≡ false → (q ≡ proof_left (answer 1 0) c r) × (pool' ≡ pool)

-- ---- opening

abbrev pub OpensOn : Rules → ℕ → List ℤ → Carried → ProofReading → Ran LratGiven → List Row → List ℤ → Type 0
OpensOn (unopened a) n pool c r q rows' pool' = (q ≡ proof_left a c r) × (pool' ≡ pool)
OpensOn (no_room code vars) n pool c r q rows' pool' = q ≡ proof_left (answer code 0) (opening.empty vars) r
OpensOn (holding s) n pool c r q rows' pool' =
    (q.given.answer ≡ answer 0 0) × (q.given.reading ≡ fresh_reading) × Stores n q.count q.given.carried rows' pool' s

pub record OpenRun (n : ℕ) (pool : List ℤ) (c : Carried) (r : ProofReading) (cnf : List ℕ) (q : Ran LratGiven) (rows' : List Row) (pool' : List ℤ) :
    Type 0 where
  pub bounded : (q.count ≤ n) × (q.count ≤ 1280)
  pub opens : OpensOn (rules_of n (length pool) cnf) n pool c r q rows' pool'
