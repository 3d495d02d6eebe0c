-- What is said of the lent buffers.
use Rattle.std.specs.Prelude.{◌≡◌, true, List, ◌++◌, ℕ, ◌+◌, ◌≤◌, length, take, drop}
use Rattle.std.proofs.Math.Seq.{slice}
use Rattle.rules.specs.Lists.{all_pass}
use Rattle.rules.specs.Terms.{State}
use Rattle.text.specs.Places.{goes_on}
use Rattle.line_read.specs.Lines.{line_outcome, reply}
use Rattle.line_read.specs.Machine.{Line, reads, frame, Session, session_after}
use Rattle.line_read.specs.Parts.{taken_of}

-- the bytes from `from` to before from' were taken, none of them 0A, and l became l'
pub record Took (part : List ℕ) (from from' : ℕ) (l l' : Line) : Type 0 where
  pub low : from ≤ from'
  pub high : from' ≤ length part
  pub most : l'.digits ≤ 32768
  pub unclosed : all_pass goes_on (slice from from' part) ≡ true
  pub read : l' ≡ reads l (slice from from' part)

-- o became o' by the bytes bs from place a on, and r is the place behind them
pub record Wrote (o : List ℕ) (a : ℕ) (bs : List ℕ) (o' : List ℕ) (r : ℕ) : Type 0 where
  pub place : r ≡ a + length bs
  pub bytes : take r o' ≡ take a o ++ bs
  pub behind : drop r o' ≡ drop r o

-- the line l was closed in state s: its reply is written from place a on, and s' is the state after it
pub record LineClosed (s : State) (l : Line) (o : List ℕ) (a : ℕ) (s' : State) (o' : List ℕ) (r : ℕ) : Type 0 where
  pub wrote : Wrote o a (reply s.vars (line_outcome s (frame l))) o' r
  pub state : s' ≡ (line_outcome s (frame l)).state

-- the bytes of a part from `from` on were fed, as many as are taken, up to before from', and r became r'; its replies stand in the out buffer before place a',
-- and behind it nothing changed
pub record LinesFed (part : List ℕ) (from from' : ℕ) (r r' : Session) (out : List ℕ) (out' : List ℕ) (a' : ℕ) : Type 0 where
  pub taken : from' ≡ from + taken_of (length out) r (drop from part)
  pub moved : r' ≡ session_after r (slice from from' part)
  pub most : r'.line.digits ≤ 32768
  pub room : a' ≤ length out
  pub kept : length out' ≡ length out
  pub behind : drop a' out' ≡ drop a' out
