-- A frame on the rows of what is lent, and which of the rows are to be put back.
use Rattle.std.specs.Prelude.{◌≡◌, Bool, true, false, ◌&&◌, List, ℕ, ◌≤◌, eqb, ℤ, length, take}
use Rattle.std.proofs.Math.Option.{none, some}
use Rattle.rules.specs.Terms.{State}
use Rattle.rules.specs.Frames.{parse}
use Rattle.rules.specs.Answers.{outcome, altered, lent}
use Rattle.rules.specs.Results.{Answer}
use Rattle.std.specs.Prelude.{Ok, Err}
use Rattle.rules.specs.declared.Fault.TheVariants.{NoState}
use Rattle.table.specs.Spelled.{Row}
use Rattle.table.specs.declared.Table.{Table}
use Rattle.step_answers.specs.Answered.{ModelWritten}
use Rattle.lent.specs.State.{state_carried}
use Rattle.lent.specs.Stored.{carried_of, PutsBack}
use Rattle.lent.specs.declared.Carried.{Carried}
use Rattle.call_step.specs.Calls.{judged, answer_to, handed_by}
use Rattle.lent_entries.specs.declared.Ran.{Ran}
use Rattle.lent.specs.declared.Called.{Called}

abbrev pub step_left : Answer → Carried → Ran Called
step_left a c = record { given = record { answer = a; carried = c }; count = 0 }

abbrev pub step_stored : Answer → Table → List ℕ → Ran Called
step_stored a t stack = record { given = record { answer = a; carried = carried_of t stack }; count = t.count }

-- a frame on the rows of a table of n entries: what the paper says of the state that they spell, and what goes back over the entries
pub record Running (n : ℕ) (rows : List Row) (c : Carried) (pool : List ℤ) (frame : List ℤ) (model : List ℕ) (r : Ran Called) (rows' : List Row) (pool' : List ℤ)
    (model' : List ℕ) : Type 0 where
  pub answered : r.given.answer ≡ answer_to (judged true (state_carried c rows pool) frame)
  pub handed : ModelWritten (handed_by (judged true (state_carried c rows pool) frame)) model model'
  pub back : (s : State) → state_carried c rows pool ≡ some s →
      PutsBack (altered (parse frame) r.given.answer) n c pool s r.count r.given.carried rows' pool' (outcome s frame).state
  pub left : state_carried c rows pool ≡ none → (r ≡ step_left (Err NoState) c) × (pool' ≡ pool)

-- the sizes are in range
abbrev pub step_sized : ℕ → List ℤ → List ℕ → Bool
step_sized n pool model = lent n (length pool) && eqb (length model) 32

-- the same on the rows taken in, of which the first n are the table's
pub record StepRun (n : ℕ) (rows : List Row) (pool : List ℤ) (c : Carried) (frame : List ℤ) (model : List ℕ) (r : Ran Called) (rows' : List Row) (pool' : List ℤ)
    (model' : List ℕ) : Type 0 where
  pub bounded : (r.count ≤ n) × (r.count ≤ 1280)
  pub judged_so : step_sized n pool model ≡ true → Running n (take n rows) c pool frame model r rows' pool' model'
  pub refused : step_sized n pool model ≡ false → (r ≡ step_left (Err NoState) c) × (pool' ≡ pool) × (model' ≡ model)
