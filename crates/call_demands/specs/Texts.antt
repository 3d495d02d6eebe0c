-- Document 02, request 1: the frames of a text, given to `step` one after the other.
use Rattle.std.specs.Prelude.{◌≡◌, List, [], ◌∷◌, ℕ, ℤ, length}
use Rattle.rules.specs.Results.{Answer}
use Rattle.lent_entries.specs.declared.Entry.{Entry}
use Rattle.lent.specs.declared.Carried.{Carried}
use Rattle.lent.specs.declared.Called.{Called}
use Rattle.call_step.specs.Calls.{Stepping}

-- calls of `step` over frames, each with any model buffer of 32 words and any outcome that the promise allows, and what they answer
pub data StepCalls : List Entry → List ℤ → Carried → List (List ℤ) → List Answer → Type 0 where
  no_call : {entries : List Entry} {pool : List ℤ} {c : Carried} → StepCalls entries pool c [] []
  then_call : {entries : List Entry} {pool : List ℤ} {c : Carried} {frames : List (List ℤ)} {answers : List Answer}
      (frame : List ℤ) (model : List ℕ) (r : Called) (entries' : List Entry) (pool' : List ℤ) (model' : List ℕ) → length model ≡ 32 →
      Stepping entries pool c frame model r entries' pool' model' → StepCalls entries' pool' r.carried frames answers →
      StepCalls entries pool c (frame ∷ frames) (r.answer ∷ answers)
