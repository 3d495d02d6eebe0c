-- Chains of public calls, mixed at will: an accepted `open`, then frames by `step`, parts of line input by `give`, ends of input by `end`, while nobody else
-- writes what is lent and carried.
use Rattle.std.specs.Prelude.{◌≡◌, List, [], ◌∷◌, ℕ, ℤ, take}
use Rattle.std.proofs.Math.Option.{Option, none, some}
use Rattle.rules.specs.Terms.{State}
use Rattle.rules.specs.Frames.{parse}
use Rattle.rules.specs.Histories.{added_by}
use Rattle.std.specs.Prelude.{Ok, Err}
use Rattle.lent_entries.specs.declared.Entry.{Entry}
use Rattle.lent.specs.declared.Carried.{Carried}
use Rattle.lent.specs.declared.Called.{Called}
use Rattle.line_read.specs.Lines.{line_outcome}
use Rattle.line_read.specs.Machine.{line_of}
use Rattle.line_read.specs.Parts.{closes, parsed}
use Rattle.line_read.specs.declared.Reader.{Reader}
use Rattle.call_step.specs.Calls.{Opening, Stepping}
use Rattle.call_give.specs.Giving.{met, Giving, Ending}
use Rattle.call_give.specs.declared.Given.{Given}
use Rattle.call_give.specs.declared.Ended.{Ended}

-- the clauses ever added, after lines that met a state: the accepted ADDs among them add theirs
unfoldable pub added_after : State → List (Option (List ℤ)) → List (List ℤ) → List (List ℤ)
added_after s [] cs = cs
added_after s (f ∷ fs) cs = added_after (line_outcome s f).state fs (added_by (line_outcome s f).answer (parsed f) cs)

-- after a part, whose lines meet a state or, where the call is refused, nothing
abbrev pub added_given : Option State → List (Option (List ℤ)) → List (List ℤ) → List (List ℤ)
added_given none fs cs = cs
added_given (some s) fs cs = added_after s fs cs

-- what is lent and carried after a chain of calls, and the clauses that were ever added in it. Every outcome that the promises allow may be a link, with any
-- reader, buffers and bytes.
pub data Chain : List Entry → List ℤ → Carried → List (List ℤ) → Type 0 where
  open_first : (vars : ℕ) (entries : List Entry) (pool : List ℤ) (r : Called) → Opening vars entries pool r → r.answer ≡ Ok 0 →
      Chain entries pool r.carried []
  then_step : {entries : List Entry} {pool : List ℤ} {c : Carried} {added : List (List ℤ)} → Chain entries pool c added →
      (frame : List ℤ) (model : List ℕ) (r : Called) (entries' : List Entry) (pool' : List ℤ) (model' : List ℕ) →
      Stepping entries pool c frame model r entries' pool' model' →
      Chain entries' pool' r.carried (added_by r.answer (parse frame) added)
  then_give : {entries : List Entry} {pool : List ℤ} {c : Carried} {added : List (List ℤ)} → Chain entries pool c added →
      (r : Reader) (frame : List ℤ) (part out : List ℕ) (q : Given) (entries' : List Entry) (pool' : List ℤ) (frame' : List ℤ) (out' : List ℕ) →
      Giving entries pool c r frame part out q entries' pool' frame' out' →
      Chain entries' pool' q.carried (added_given (met entries pool c r frame out) (closes (line_of r frame) (take q.taken part)) added)
  then_end : {entries : List Entry} {pool : List ℤ} {c : Carried} {added : List (List ℤ)} → Chain entries pool c added →
      (r : Reader) (out : List ℕ) (q : Ended) (out' : List ℕ) → Ending r out q out' → Chain entries pool c added
