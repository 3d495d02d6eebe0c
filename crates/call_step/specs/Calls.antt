-- What each public call comes to, for every input: answer, tables, what is carried, and the model buffer.
use Rattle.std.specs.Prelude.{◌≡◌, Bool, true, false, List, ℕ, eqb, ℤ, length}
use Rattle.std.proofs.Math.Option.{Option, none, some}
use Rattle.rules.specs.Terms.{State}
use Rattle.rules.specs.Frames.{parse}
use Rattle.rules.specs.Answers.{Handed, untouched, Outcome, numbers, outcome, is_change, check_open, opened}
use Rattle.rules.specs.Results.{Answer}
use Rattle.std.specs.Prelude.{Ok, Err}
use Rattle.rules.specs.Results.{Check}
use Rattle.rules.specs.declared.Fault.{Fault}
use Rattle.rules.specs.declared.Fault.TheVariants.{NoState}
use Rattle.step_answers.specs.Answered.{ModelWritten}
use Rattle.lent_entries.specs.Lent.{state_lent}
use Rattle.lent_entries.specs.declared.Entry.{Entry}
use Rattle.lent.specs.declared.Carried.{Carried}
use Rattle.lent.specs.declared.Called.{Called}
use Rattle.lent_open.specs.Opened.{opened_with}

-- ---- open

-- "Opening .. gives 1 for lent sizes only and then 3, both writing nothing; else 0, detail 0, and an empty state with highest id 0, whatever the tables held"
pub record Opening (vars : ℕ) (entries : List Entry) (pool : List ℤ) (r : Called) : Type 0 where
  pub called : r ≡ opened_with vars (check_open vars (length entries) (length pool))
  pub state : check_open vars (length entries) (length pool) ≡ Ok tt → state_lent entries pool r.carried ≡ some (opened vars (length entries) (length pool))

-- its code and detail
abbrev pub opening_numbers : Check → ℕ × ℕ
opening_numbers (Ok tt) = (0, 0)
opening_numbers (Err e) = numbers (Err e)

-- ---- step

-- what the paper says, where there is a state and the model buffer has 32 words; else code 1
abbrev pub judged : Bool → Option State → List ℤ → Option Outcome
judged true (some s) frame = some (outcome s frame)
judged true none frame = none
judged false s frame = none

abbrev pub answer_to : Option Outcome → Answer
answer_to (some o) = o.answer
answer_to none = Err NoState

abbrev pub handed_by : Option Outcome → Handed
handed_by (some o) = o.handed
handed_by none = untouched

abbrev pub outcome_of : List Entry → List ℤ → Carried → List ℤ → List ℕ → Option Outcome
outcome_of entries pool c frame model = judged (eqb (length model) 32) (state_lent entries pool c) frame

-- "Each answer is a code and a detail": those of the paper's answer
abbrev pub code_and_detail : Option Outcome → ℕ × ℕ
code_and_detail (some o) = numbers o.answer
code_and_detail none = (1, 0)

pub record Stepping (entries : List Entry) (pool : List ℤ) (c : Carried) (frame : List ℤ) (model : List ℕ) (r : Called) (entries' : List Entry) (pool' : List ℤ)
    (model' : List ℕ) : Type 0 where
  pub answered : r.answer ≡ answer_to (outcome_of entries pool c frame model)
  -- what goes out spells the state that the paper says
  pub state : (o : Outcome) → outcome_of entries pool c frame model ≡ some o → state_lent entries' pool' r.carried ≡ some o.state
  -- the model buffer: the mended assignment's 32 words after an accepted SAT, else as it was
  pub handed : ModelWritten (handed_by (outcome_of entries pool c frame model)) model model'
  pub sized : length model' ≡ length model
  -- "Every code but 0 leaves all tables, V, the highest id and the model buffer as found."
  pub refused : (e : Fault) → r.answer ≡ Err e → (entries' ≡ entries) × (pool' ≡ pool) × (r.carried ≡ c) × (model' ≡ model)
  -- "SAT and UNSAT never write the tables"; nor do words that are no frame
  pub tables_left : is_change (parse frame) ≡ false → (entries' ≡ entries) × (pool' ≡ pool) × (r.carried ≡ c)
