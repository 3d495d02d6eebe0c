-- What `step` says to frames, in the terms of document 01's marked outcomes: code, detail and, after an accepted SAT, the true variables of the model buffer.
use Rattle.std.specs.Prelude.{List, [], ◌∷◌, ℕ, ℤ}
use Rattle.std.proofs.Math.Option.{Option, none, some}
use Rattle.rules.specs.Frames.{ADD, LEARN, FORGET, PROMOTE, DROP, WEAKEN, RESTORE, SAT, UNSAT, Parsed, malformed, framed, parse}
use Rattle.rules.specs.Answers.{numbers}
use Rattle.rules.specs.Outcomes.{trues, Said}
use Rattle.rules.specs.Results.{Answer}
use Rattle.std.specs.Prelude.{Ok, Err}
use Rattle.lit_sets.specs.Words.{assigned}
use Rattle.lent_entries.specs.declared.Entry.{Entry}
use Rattle.lent.specs.declared.Carried.{Carried}
use Rattle.lent.specs.declared.Called.{Called}
use Rattle.call_step.specs.Calls.{Stepping}

-- the model that the buffer shows after an accepted SAT
abbrev pub shown : Parsed → Answer → List ℕ → Option (List ℕ)
shown malformed a model = none
shown (framed (ADD i c)) a model = none
shown (framed (LEARN i c hints)) a model = none
shown (framed (FORGET i)) a model = none
shown (framed (PROMOTE i)) a model = none
shown (framed (DROP i hints)) a model = none
shown (framed (WEAKEN i w ws)) a model = none
shown (framed (RESTORE i)) a model = none
shown (framed (SAT assumed vs)) (Ok n) model = some (trues (assigned model) 2048 [])
shown (framed (SAT assumed vs)) (Err e) model = none
shown (framed (UNSAT assumed hints)) a model = none

abbrev pub said_by : List ℤ → Answer → List ℕ → Said
said_by frame a model = record { code = (numbers a).0; detail = (numbers a).1; model = shown (parse frame) a model }

-- frames given one after the other, with any outcomes that the promise of `step` allows, and what is said to them
pub data Replies : List Entry → List ℤ → Carried → List ℕ → List (List ℤ) → List Said → Type 0 where
  no_more : (entries : List Entry) (pool : List ℤ) (c : Carried) (model : List ℕ) → Replies entries pool c model [] []
  then_next : {entries : List Entry} {pool : List ℤ} {c : Carried} {frame : List ℤ} {model : List ℕ} {r : Called} {entries' : List Entry} {pool' : List ℤ}
      {model' : List ℕ}
      {frames : List (List ℤ)} {said : List Said} → Stepping entries pool c frame model r entries' pool' model' →
      Replies entries' pool' r.carried model' frames said →
      Replies entries pool c model (frame ∷ frames) (said_by frame r.answer model' ∷ said)
