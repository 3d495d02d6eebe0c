-- What serving the input comes to: what was read is no value, so the promises speak of some bytes. Line and state are those after them, and so is what is put
-- back.
use Rattle.std.specs.Prelude.{◌≡◌, true, false, List, ℕ, ◌≤◌, ℤ, length, take}
use Rattle.std.proofs.Math.Option.{some}
use Rattle.rules.specs.Terms.{State}
use Rattle.rules.specs.Answers.{opened}
use Rattle.table.specs.Spelled as working
use Rattle.table.specs.Spelled.{Row, Fit}
use Rattle.table.specs.declared.Table.{Table}
use Rattle.lent.specs.State.{state_carried}
use Rattle.lent.specs.Stored.{PutsBack}
use Rattle.lent.specs.declared.Carried.{Carried}
use Rattle.lent_entries.specs.Lent.{state_lent}
use Rattle.lent_entries.specs.declared.Entry.{Entry}
use Rattle.line_read.specs.Machine.{fresh, line_of}
use Rattle.line_read.specs.Parts.{closes, line_after, state_after, some_alters}
use Rattle.line_read.specs.declared.Reader.{Reader}
use Rattle.line_close.specs.Replies.{Altering, Feedable}
use Rattle.call_serve.specs.declared.Pumped.{Pumped}
use Rattle.call_serve.specs.declared.Attended.{Attended}
use Rattle.lent_entries.specs.declared.Ran.{Ran}

-- ---- a part

-- as much of the part as was fed; all of it where every write was taken whole
pub record Pumping (part : List ℕ) (r : Reader) (frame : List ℤ) (t : Table) (rows : List Row) (pool : List ℤ) (stack : List ℕ) (q : Pumped) (frame' : List ℤ)
    (rows' : List Row) (pool' : List ℤ) (stack' : List ℕ) : Type 0 where
  pub few : q.taken ≤ length part
  pub whole : q.sent ≡ true → q.taken ≡ length part
  pub feedable : Feedable q.table rows' pool' stack' q.reader frame'
  pub line : line_of q.reader frame' ≡ line_after (line_of r frame) (take q.taken part)
  pub state : working.spelled q.table rows' pool' stack' ≡ state_after (working.spelled t rows pool stack) (closes (line_of r frame) (take q.taken part))
  pub altered : Altering (some_alters (working.spelled t rows pool stack) (closes (line_of r frame) (take q.taken part))) q.altered t rows pool stack
      q.table rows' pool' stack'

-- ---- the input, of which these bytes were fed

pub record Attending (bs : List ℕ) (t : Table) (rows : List Row) (pool : List ℤ) (stack : List ℕ) (q : Attended) (rows' : List Row) (pool' : List ℤ)
    (stack' : List ℕ) : Type 0 where
  pub fit : Fit q.table rows' pool' stack'
  pub state : working.spelled q.table rows' pool' stack' ≡ state_after (working.spelled t rows pool stack) (closes fresh bs)
  pub altered : Altering (some_alters (working.spelled t rows pool stack) (closes fresh bs)) q.altered t rows pool stack q.table rows' pool' stack'

-- on the rows taken in of a table of n entries
pub record ServedRows (n : ℕ) (rows : List Row) (pool : List ℤ) (c : Carried) (q : Ran Carried) (rows' : List Row) (pool' : List ℤ) : Type 0 where
  pub bounded : (q.count ≤ n) × (q.count ≤ length rows')
  pub served : (s : State) → state_carried c (take n rows) pool ≡ some s →
      (bs : List ℕ) × PutsBack (some_alters s (closes fresh bs)) n c pool s q.count q.given rows' pool' (state_after s (closes fresh bs))

-- "The program opens V = 2,048, 1,024 entries and 8,192 words. It reads standard input": what is put back spells the state after some bytes, and where no line
-- of them was an accepted change every word is what it was
pub record Serving (entries : List Entry) (pool : List ℤ) (c r : Carried) (entries' : List Entry) (pool' : List ℤ) : Type 0 where
  pub bytes : List ℕ
  pub spells : state_lent entries' pool' r ≡ some (state_after (opened 2048 1024 8192) (closes fresh bytes))
  pub unaltered : some_alters (opened 2048 1024 8192) (closes fresh bytes) ≡ false → (entries' ≡ entries) × (pool' ≡ pool) × (r ≡ c)
