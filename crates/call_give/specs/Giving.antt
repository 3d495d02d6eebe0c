-- A part of the input given over the lent tables, and the end of input: what each call comes to, for every input.
use Rattle.std.specs.Prelude.{◌≡◌, Bool, true, false, cond, ◌&&◌, List, ℕ, leb, ℤ, length, take}
use Rattle.std.proofs.Math.Option.{Option, none, some}
use Rattle.rules.specs.Terms.{State}
use Rattle.rules.specs.Results.{Answer}
use Rattle.std.specs.Prelude.{Ok, Err}
use Rattle.rules.specs.declared.Fault.TheVariants.{NoState}
use Rattle.lent_entries.specs.Lent.{state_lent}
use Rattle.lent_entries.specs.declared.Entry.{Entry}
use Rattle.lent.specs.declared.Carried.{Carried}
use Rattle.line_read.specs.Machine.{line_of, session_of, end_reply}
use Rattle.line_read.specs.Parts.{closes, some_alters, largest_reply}
use Rattle.line_read.specs.Lent as lines
use Rattle.line_read.specs.declared.Reader.{Reader}
use Rattle.call_give.specs.declared.Given.{Given}
use Rattle.call_give.specs.declared.Ended.{Ended}

-- ---- a part of the input

-- a line being read: at most 32,768 digits, in a frame buffer of 4,096 words or more
abbrev pub is_line : Reader → ℕ → Bool
is_line r words = leb r.digits 32768 && leb 4096 words

-- the state that the lines of the part meet, where there is one: what is lent is a state, a line is being read, and the out buffer has room for one answer, the
-- largest
abbrev pub met : List Entry → List ℤ → Carried → Reader → List ℤ → List ℕ → Option State
met entries pool c r frame out = cond (is_line r (length frame) && leb largest_reply (length out)) (state_lent entries pool c) none

-- the call's own answer; the answers to lines stand in the out buffer
abbrev pub given_to : Option State → Answer
given_to (some s) = Ok 0
given_to none = Err NoState

-- its code and detail
abbrev pub given_numbers : Option State → ℕ × ℕ
given_numbers (some s) = (0, 0)
given_numbers none = (1, 0)

abbrev pub give_refused : Carried → Reader → Given
give_refused c r = record { answer = Err NoState; carried = c; reader = r; taken = 0; written = 0 }

-- the part met s: its bytes are fed to the machine, as many as are taken, and what goes out spells the state after them
pub record GivenFrom (s : State) (entries : List Entry) (pool : List ℤ) (c : Carried) (r : Reader) (frame : List ℤ) (part out : List ℕ) (q : Given)
    (entries' : List Entry) (pool' : List ℤ) (frame' : List ℤ) (out' : List ℕ) : Type 0 where
  pub after : State
  pub spells : met entries' pool' q.carried q.reader frame' out' ≡ some after
  pub fed : lines.LinesFed part 0 q.taken (session_of r frame s out 0) (session_of q.reader frame' after out' q.written) out out' q.written
  -- where no line of the bytes taken was an accepted change, every entry, every word of the pool and what is carried are what they were
  pub unaltered : some_alters s (closes (line_of r frame) (take q.taken part)) ≡ false → (entries' ≡ entries) × (pool' ≡ pool) × (q.carried ≡ c)

pub record Giving (entries : List Entry) (pool : List ℤ) (c : Carried) (r : Reader) (frame : List ℤ) (part out : List ℕ) (q : Given) (entries' : List Entry)
    (pool' : List ℤ) (frame' : List ℤ) (out' : List ℕ) : Type 0 where
  pub answered : q.answer ≡ given_to (met entries pool c r frame out)
  pub given : (s : State) → met entries pool c r frame out ≡ some s → GivenFrom s entries pool c r frame part out q entries' pool' frame' out'
  -- a refusal leaves every lent word, what is carried and what is read
  pub left : met entries pool c r frame out ≡ none → (q ≡ give_refused c r) × (entries' ≡ entries) × (pool' ≡ pool) × (frame' ≡ frame) × (out' ≡ out)

-- ---- the end of input

-- the answer to an unclosed line: code and detail, and 0A
abbrev pub last_reply : ℕ
last_reply = 17

-- a line being read, whose answer the out buffer has room for
abbrev pub may_end : Reader → List ℕ → Bool
may_end r out = leb r.digits 32768 && leb last_reply (length out)

abbrev pub ended_to : Bool → Answer
ended_to may = cond may (Ok 0) (Err NoState)

-- what is written: an unclosed line that was begun is refused 2
pub record Ending (r : Reader) (out : List ℕ) (q : Ended) (out' : List ℕ) : Type 0 where
  pub answered : q.answer ≡ ended_to (may_end r out)
  pub wrote : may_end r out ≡ true → lines.Wrote out 0 (end_reply r.digits r.spoilt) out' q.written
  pub left : may_end r out ≡ false → (q.written ≡ 0) × (out' ≡ out)
