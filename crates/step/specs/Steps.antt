-- A frame of any words: the paper's answer, and what the tables spell and the model buffer holds after it.
use Rattle.std.specs.Prelude.{◌≡◌, List, ℕ, ℤ}
use Rattle.rules.specs.Frames.{ADD, LEARN, FORGET, PROMOTE, DROP, WEAKEN, RESTORE, SAT, UNSAT, Parsed, malformed, framed, parse}
use Rattle.rules.specs.Answers.{outcome}
use Rattle.table.specs.Spelled.{Row, spelled, Same, Fit}
use Rattle.table.specs.declared.Table.{Table}
use Rattle.step_outcome.specs.Told.{unless_refused}
use Rattle.step_answers.specs.Answered.{ModelWritten}
use Rattle.step_outcome.specs.declared.Stepped.{Stepped}
use Rattle.step_outcome.specs.declared.Written.{Written}
use Rattle.step_outcome.specs.declared.Written.TheVariants.{Nothing, Tables, Model}

-- "SAT and UNSAT never write the tables; only an accepted SAT writes the model buffer": what an accepted frame writes
abbrev pub writes : Parsed → Written
writes malformed = Nothing
writes (framed (ADD i c)) = Tables
writes (framed (LEARN i c hints)) = Tables
writes (framed (FORGET i)) = Tables
writes (framed (PROMOTE i)) = Tables
writes (framed (DROP i hints)) = Tables
writes (framed (WEAKEN i w ws)) = Tables
writes (framed (RESTORE i)) = Tables
writes (framed (SAT assumed vs)) = Model
writes (framed (UNSAT assumed hints)) = Nothing

-- a frame's words: the paper's answer, the state that the tables spell after it, the model buffer, and what was written; whatever did not write the tables
-- left every word of them
pub record Steps (t : Table) (rows : List Row) (pool : List ℤ) (stack : List ℕ) (ws : List ℤ) (r : Stepped) (rows' : List Row) (pool' : List ℤ)
    (stack' : List ℕ) (model model' : List ℕ) : Type 0 where
  pub answered : r.answer ≡ (outcome (spelled t rows pool stack) ws).answer
  pub fit : Fit r.table rows' pool' stack'
  pub state : spelled r.table rows' pool' stack' ≡ (outcome (spelled t rows pool stack) ws).state
  pub handed : ModelWritten (outcome (spelled t rows pool stack) ws).handed model model'
  pub told : r.written ≡ unless_refused (writes (parse ws)) r.answer
  pub left : (r.written ≡ Tables → ⊥) → Same t rows pool stack r.table rows' pool' stack'
