-- A part on the rows taken in of a table of n entries, and which of them are to be put back.
use Rattle.std.specs.Prelude.{◌≡◌, Bool, true, false, ◌&&◌, List, ℕ, ◌≤◌, leb, ℤ, length, take}
use Rattle.std.proofs.Math.Option.{none, some}
use Rattle.rules.specs.Terms.{State}
use Rattle.rules.specs.Answers.{lent}
use Rattle.std.specs.Prelude.{Ok, Err}
use Rattle.table.specs.Spelled.{Row}
use Rattle.table.specs.declared.Table.{Table}
use Rattle.lent.specs.State.{state_carried}
use Rattle.lent.specs.Stored.{carried_of, PutsBack}
use Rattle.lent.specs.declared.Carried.{Carried}
use Rattle.line_read.specs.Machine.{line_of, session_of}
use Rattle.line_read.specs.Parts.{closes, some_alters, largest_reply}
use Rattle.line_read.specs.Lent as lines
use Rattle.line_read.specs.declared.Reader.{Reader}
use Rattle.line_feed.specs.declared.Fed.{Fed}
use Rattle.call_give.specs.Giving.{is_line, given_to, give_refused}
use Rattle.lent_entries.specs.declared.Ran.{Ran}
use Rattle.call_give.specs.declared.Given.{Given}

-- ---- what is handed back

abbrev pub give_left : Carried → Reader → Ran Given
give_left c r = record { given = give_refused c r; count = 0 }

abbrev pub give_answered : Fed → Carried → ℕ → Ran Given
give_answered f c k = record { given = record { answer = Ok 0; carried = c; reader = f.reader; taken = f.from; written = f.at }; count = k }

abbrev pub give_stored : Fed → Table → List ℕ → Ran Given
give_stored f t stack = give_answered f (carried_of t stack) t.count

-- ---- the part

pub record Sized (n : ℕ) (pool : List ℤ) (r : Reader) (frame : List ℤ) : Type 0 where
  pub rows_most : n ≤ 1024
  pub pool_most : length pool ≤ 8192
  pub digits_most : r.digits ≤ 32768
  pub frame_least : 4096 ≤ length frame

-- the rows spelled s
pub record RanFrom (s : State) (n : ℕ) (pool : List ℤ) (c : Carried) (r : Reader) (frame : List ℤ) (part out : List ℕ) (q : Ran Given) (rows' : List Row)
    (pool' : List ℤ) (frame' : List ℤ) (out' : List ℕ) : Type 0 where
  pub after : State
  pub fed : lines.LinesFed part 0 q.given.taken (session_of r frame s out 0) (session_of q.given.reader frame' after out' q.given.written) out out'
      q.given.written
  pub back : PutsBack (some_alters s (closes (line_of r frame) (take q.given.taken part))) n c pool s q.count q.given.carried rows' pool' after

pub record RanOn (n : ℕ) (rows : List Row) (pool : List ℤ) (c : Carried) (r : Reader) (frame : List ℤ) (part out : List ℕ) (q : Ran Given) (rows' : List Row)
    (pool' : List ℤ) (frame' : List ℤ) (out' : List ℕ) : Type 0 where
  pub answered : q.given.answer ≡ given_to (state_carried c (take n rows) pool)
  pub bounded : (q.count ≤ n) × (q.count ≤ length rows')
  pub ran : (s : State) → state_carried c (take n rows) pool ≡ some s → RanFrom s n pool c r frame part out q rows' pool' frame' out'
  pub left : state_carried c (take n rows) pool ≡ none → (q ≡ give_left c r) × (pool' ≡ pool) × (frame' ≡ frame) × (out' ≡ out)

-- the same where the sizes may be out of range
abbrev pub give_sized : ℕ → List ℤ → Reader → List ℤ → List ℕ → Bool
give_sized n pool r frame out = lent n (length pool) && (is_line r (length frame) && leb largest_reply (length out))

pub record GiveRun (n : ℕ) (rows : List Row) (pool : List ℤ) (c : Carried) (r : Reader) (frame : List ℤ) (part out : List ℕ) (q : Ran Given) (rows' : List Row)
    (pool' : List ℤ) (frame' : List ℤ) (out' : List ℕ) : Type 0 where
  pub bounded : (q.count ≤ n) × (q.count ≤ 1280)
  pub judged_so : give_sized n pool r frame out ≡ true → RanOn n rows pool c r frame part out q rows' pool' frame' out'
  pub refused : give_sized n pool r frame out ≡ false → (q ≡ give_left c r) × (pool' ≡ pool) × (frame' ≡ frame) × (out' ≡ out)
