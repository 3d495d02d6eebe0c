-- What is heard of a chain of calls: a SAT or an UNSAT that was accepted, by `step` or as a line that `give` answered.
use Rattle.std.specs.Prelude.{◌≡◌, List, ◌∷◌, ◌++◌, ℕ, eqb, ℤ, take, false}
use Rattle.std.proofs.Math.Option.{Option, some}
use Rattle.rules.specs.Lists.{any_passes}
use Rattle.rules.specs.Terms.{is_variable, Assignment, State}
use Rattle.rules.specs.Frames.{SAT, UNSAT, framed, parse, offered}
use Rattle.rules.specs.Answers.{outcome}
use Rattle.rules.specs.Histories.{Models, Assumes, Unwitnessed}
use Rattle.rules.specs.Results.{Answer}
use Rattle.std.specs.Prelude.{Ok, Err}
use Rattle.lit_sets.specs.Words.{assigned}
use Rattle.lent_entries.specs.Lent.{state_lent}
use Rattle.lent_entries.specs.declared.Entry.{Entry}
use Rattle.lent.specs.declared.Carried.{Carried}
use Rattle.lent.specs.declared.Called.{Called}
use Rattle.line_read.specs.Lines.{following}
use Rattle.line_read.specs.Machine.{line_of}
use Rattle.line_read.specs.Parts.{closes, state_after}
use Rattle.line_read.specs.declared.Reader.{Reader}
use Rattle.call_step.specs.Calls.{Stepping}
use Rattle.call_give.specs.Giving.{met, Giving}
use Rattle.call_give.specs.declared.Given.{Given}
use Rattle.call_demands.specs.Chains.{Chain, added_after}

-- ---- a line that `give` answered

-- of the lines that a part closed, the one behind `before` is the frame ws: it met the state st, when these clauses had been added, and its answer stands in
-- the out buffer, behind those to the lines before it, with the variables that were printed
pub record LineHeard (added : List (List ℤ)) (st : State) (ws : List ℤ) (answer : Answer) (printed : List ℕ) : Type 0 where
  pub entries : List Entry
  pub pool : List ℤ
  pub c : Carried
  pub added_before : List (List ℤ)
  pub chain : Chain entries pool c added_before
  pub r : Reader
  pub frame : List ℤ
  pub part : List ℕ
  pub out : List ℕ
  pub q : Given
  pub entries' : List Entry
  pub pool' : List ℤ
  pub frame' : List ℤ
  pub out' : List ℕ
  pub gives : Giving entries pool c r frame part out q entries' pool' frame' out'
  pub start : State
  pub meets : met entries pool c r frame out ≡ some start
  pub before : List (Option (List ℤ))
  pub after : List (Option (List ℤ))
  pub closed : closes (line_of r frame) (take q.taken part) ≡ before ++ (some ws ∷ after)
  pub state : st ≡ state_after start before
  pub adds : added ≡ added_after start before added_before
  pub answered : answer ≡ (outcome st ws).answer
  pub prints : printed ≡ following st.vars (outcome st ws).handed

-- ---- SAT and UNSAT, by either call

-- the variables of the list are true, and no others
abbrev pub true_of : List ℕ → Assignment
true_of vs v = any_passes (eqb v) vs

-- SAT was accepted in the state st, when these clauses had been added, and handed out the model β: in the model buffer, or as printed variables
pub data SatHeard : List (List ℤ) → State → List ℤ → List ℤ → Assignment → Type 0 where
  sat_step : {entries : List Entry} {pool : List ℤ} {c : Carried} {added : List (List ℤ)} → Chain entries pool c added →
      (frame : List ℤ) (model : List ℕ) (r : Called) (entries' : List Entry) (pool' : List ℤ) (model' : List ℕ) →
      Stepping entries pool c frame model r entries' pool' model' →
      (st : State) → state_lent entries pool c ≡ some st → (n : ℕ) → r.answer ≡ Ok n → (assumed vs : List ℤ) → parse frame ≡ framed (SAT assumed vs) →
      SatHeard added st assumed vs (assigned model')
  sat_line : {added : List (List ℤ)} {st : State} {ws : List ℤ} {answer : Answer} {printed : List ℕ} → LineHeard added st ws answer printed → (n : ℕ) →
      answer ≡ Ok n →
      (assumed vs : List ℤ) → parse ws ≡ framed (SAT assumed vs) → SatHeard added st assumed vs (true_of printed)

-- UNSAT was accepted when these clauses had been added
pub data UnsatHeard : List (List ℤ) → List ℤ → Type 0 where
  unsat_step : {entries : List Entry} {pool : List ℤ} {c : Carried} {added : List (List ℤ)} → Chain entries pool c added →
      (frame : List ℤ) (model : List ℕ) (r : Called) (entries' : List Entry) (pool' : List ℤ) (model' : List ℕ) →
      Stepping entries pool c frame model r entries' pool' model' →
      (n : ℕ) → r.answer ≡ Ok n → (assumed hints : List ℤ) → parse frame ≡ framed (UNSAT assumed hints) → UnsatHeard added assumed
  unsat_line : {added : List (List ℤ)} {st : State} {ws : List ℤ} {answer : Answer} {printed : List ℕ} → LineHeard added st ws answer printed → (n : ℕ) →
      answer ≡ Ok n →
      (assumed hints : List ℤ) → parse ws ≡ framed (UNSAT assumed hints) → UnsatHeard added assumed

-- what an accepted SAT hands out: a model of every clause ever added and of the assumptions, which differs from the offered one only in variables of stacked
-- witnesses, and where what is no variable of 1 to V is not true
pub record Mended (added : List (List ℤ)) (st : State) (assumed vs : List ℤ) (β : Assignment) : Type 0 where
  pub of_added : Models β added
  pub of_assumptions : Assumes β assumed
  pub elsewhere : (v : ℕ) → Unwitnessed st v → β v ≡ offered vs v
  pub nowhere_else : (v : ℕ) → is_variable st.vars v ≡ false → β v ≡ false
