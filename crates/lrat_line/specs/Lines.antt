-- What is told of the words of a line.
use Rattle.std.specs.Prelude.{◌≡◌, Bool, cond, List, ℕ, eqb, ℤ, take}
use Rattle.rules.specs.Terms.{Literals, State, holds}
use Rattle.lit_sets.specs.Words.{set_of}
use Rattle.table.specs.Spelled.{Row, spelled, Fit}
use Rattle.text_numbers.specs.Told.{with_sign}
use Rattle.lrat.specs.Kept.{Keeps, read_with}
use Rattle.lrat.specs.Machine.{Reading, Step, step, in_phase, take_literal, end_literals, among_hints}
use Rattle.lrat.specs.declared.ProofLine.{ProofLine}
use Rattle.lrat_line.specs.declared.Taken.{Taken}

-- what a line, the buffer and the two arrays hold
abbrev pub reading : ProofLine → List ℤ → List ℕ → List ℕ → Reading
reading l lits plus minus = read_with l (take l.count lits) (set_of plus minus)

-- ---- literals

pub record LiteralTaken (vars : ℕ) (minus : Bool) (v : ℕ) (l : ProofLine) (lits : List ℤ) (r : ProofLine) (lits' : List ℤ) : Type 0 where
  pub keeps : Keeps r lits'
  pub taken : (F : Literals) → read_with r (take r.count lits') F ≡ take_literal vars (with_sign minus v) (read_with l (take l.count lits) F)

abbrev pub LiteralsEnded : ProofLine → List ℤ → ProofLine → List ℕ → List ℕ → Type 0
LiteralsEnded l lits r plus' minus' = (r ≡ in_phase 3 l) × (set_of plus' minus' ≡ holds (take l.count lits))

-- the line and what goes with it are this reading
pub record LineRead (whole : Reading) (r : ProofLine) (lits' : List ℤ) (plus' minus' : List ℕ) : Type 0 where
  pub keeps : Keeps r lits'
  pub taken : reading r lits' plus' minus' ≡ whole

-- what a number among the literals comes to; of the state, only its variables are asked
abbrev pub literal_or_end : ℕ → Bool → ℕ → Reading → Reading
literal_or_end vars minus v r = cond (eqb v 0) (end_literals r) (take_literal vars (with_sign minus v) r)

-- ---- hints

-- the literals stay, whatever they are
pub record HintTaken (takes : Reading → Reading) (l : ProofLine) (plus minus : List ℕ) (r : ProofLine) (plus' minus' : List ℕ) : Type 0 where
  pub counted : r.count ≡ l.count
  pub taken : (lits : List ℤ) → read_with r lits (set_of plus' minus') ≡ takes (read_with l lits (set_of plus minus))

-- what a number among the hints comes to
abbrev pub hint_or_end : State → Bool → ℕ → Reading → Reading
hint_or_end s minus v r = (among_hints s minus v r).reading

-- ---- deleted ids

-- the literals and the false literals stay, whatever they are
pub record DeletedTaken (takes : Reading → Step) (pool : List ℤ) (stack : List ℕ) (l : ProofLine) (r : Taken) (rows' : List Row) : Type 0 where
  pub fit : Fit r.table rows' pool stack
  pub counted : r.line.count ≡ l.count
  pub taken : (lits : List ℤ) (F : Literals) → step (spelled r.table rows' pool stack) (read_with r.line lits F) ≡ takes (read_with l lits F)

-- ---- any word

-- the tables, the line and what goes with it after a word are this step of the machine
pub record Takes (whole : Step) (r : Taken) (rows' : List Row) (pool : List ℤ) (stack : List ℕ) (lits' : List ℤ) (plus' minus' : List ℕ) : Type 0 where
  pub fit : Fit r.table rows' pool stack
  pub keeps : Keeps r.line lits'
  pub taken : step (spelled r.table rows' pool stack) (reading r.line lits' plus' minus') ≡ whole
