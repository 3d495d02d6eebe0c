-- What feeding a proof to the working table comes to: the machine's run.
use Rattle.std.specs.Prelude.{◌≡◌, true, false, List, ℕ, ◌≤◌, ℤ}
use Rattle.rules.specs.Terms.{State}
use Rattle.table.specs.Spelled.{Row, spelled, Fit}
use Rattle.table.specs.declared.Table.{Table}
use Rattle.lrat.specs.Kept.{Keeps}
use Rattle.lrat.specs.Machine.{Session, at_start, line_start}
use Rattle.lrat.specs.declared.ProofWord.{ProofWord}
use Rattle.lrat.specs.declared.ProofReader.{ProofReader}
use Rattle.lrat_line.specs.Lines.{reading}
use Rattle.lrat_feed.specs.declared.Fed.{Fed}

abbrev pub start_reader : ProofReader
start_reader = record { word = at_start; line = line_start; lines = 0; over = false; code = 0 }

-- the same with another word on its way
abbrev pub worded : ProofWord → ProofReader → ProofReader
worded w r = record { word = w; line = r.line; lines = r.lines; over = r.over; code = r.code }

-- the answer is 38
abbrev pub refused_at_end : ProofReader → ProofReader
refused_at_end r = record { word = at_start; line = r.line; lines = r.lines; over = true; code = 38 }

-- what a reader, the buffer of literals, the two arrays of the false ones and the tables hold
abbrev pub session_of : ProofReader → List ℤ → List ℕ → List ℕ → State → Session
session_of r lits plus minus s =
    record { word = r.word; reading = reading r.line lits plus minus; lines = r.lines; over = r.over; code = r.code; state = s }

-- the tables fit, and so does what is kept of the line; no number of refusal is below 31
pub record Feedable (t : Table) (rows : List Row) (pool : List ℤ) (stack : List ℕ) (r : ProofReader) (lits : List ℤ) : Type 0 where
  pub fit : Fit t rows pool stack
  pub keeps : Keeps r.line lits
  pub noted : 31 ≤ r.line.noted

-- all of them after a call are this session of the machine
pub record Feeds (whole : Session) (q : Fed) (rows' : List Row) (pool' : List ℤ) (stack : List ℕ) (lits' : List ℤ) (plus' minus' : List ℕ) : Type 0 where
  pub feedable : Feedable q.table rows' pool' stack q.reader lits'
  pub moved : session_of q.reader lits' plus' minus' (spelled q.table rows' pool' stack) ≡ whole
