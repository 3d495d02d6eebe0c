-- From what a step promises to the reply of its line.
use mathlib.Core.Path.{◌≡◌, refl, sym, ap, ◌∙◌}
use mathlib.Core.Bool.{true, false}
use mathlib.Core.List.{List, []}
use Prim.Native.Nat.{ℕ, ◌/◌}
use lib.IntN.{ℤ}
use lib.ListN.{take}
use Rattle.rules.specs.Terms.{State}
use Rattle.rules.specs.Frames.{Frame, ADD, LEARN, FORGET, PROMOTE, DROP, WEAKEN, RESTORE, SAT, UNSAT, Parsed, malformed, framed, parse}
use Rattle.rules.specs.Answers.{check, settled, outcome, outcome_parsed, altered}
use Rattle.rules.specs.Outcomes.{trues}
use Rattle.rules.specs.Results.{Check}
use Rattle.std.specs.Prelude.{Ok, Err}
use Rattle.rules.specs.declared.Fault.TheVariants.{Malformed}
use Rattle.table.specs.Spelled.{Row, spelled, Fit}
use Rattle.table.specs.declared.Table.{Table}
use Rattle.step_answers.specs.Answered as answered
use Rattle.step_outcome.specs.Told.{unless_refused, is_tables}
use Rattle.step_outcome.specs.declared.Stepped.{Stepped}
use Rattle.step.specs.Steps.{Steps, writes}
use Rattle.step.proofs.Altered.{told_altered, unaltered}
use Rattle.line_read.specs.Lines.{answer_line, following}
use Rattle.line_read.specs.Machine.{line_of, is_frame, frame}
use Rattle.line_read.specs.Parts.{line_alters}
use Rattle.line_read.specs.Lent.{Wrote, LineClosed}
use Rattle.line_read.specs.declared.Reader.{Reader}
use Rattle.line_close.specs.Replies.{listed, Altering}
use Rattle.line_close.proofs.Past.{trues_within}

-- what follows the answer is what was written of the model: by the frame, and by what its check says
module _ {t : Table} {rows : List Row} {pool : List ℤ} {stack : List ℕ} (fit : Fit t rows pool stack) (model model' : List ℕ) where
  abbrev s : State
  s = spelled t rows pool stack

  followed : (f : Frame) (k : Check) → check s f ≡ k → answered.ModelWritten (settled s f k).handed model model' →
      listed (unless_refused (writes (framed f)) (settled s f k).answer) model' ≡ following t.vars (settled s f k).handed
  followed f (Err e) q h = refl
  followed (ADD i c) (Ok tt) q h = refl
  followed (LEARN i c hints) (Ok tt) q h = refl
  followed (FORGET i) (Ok tt) q h = refl
  followed (PROMOTE i) (Ok tt) q h = refl
  followed (DROP i hints) (Ok tt) q h = refl
  followed (WEAKEN i w groups) (Ok tt) q h = refl
  followed (RESTORE i) (Ok tt) q h = refl
  followed (SAT assumed vs) (Ok tt) q h = ap (λ β. trues β 2048 []) h ∙ trues_within fit assumed vs q
  followed (UNSAT assumed hints) (Ok tt) q h = refl

  follows : (p : Parsed) → answered.ModelWritten (outcome_parsed s p).handed model model' →
      listed (unless_refused (writes p) (outcome_parsed s p).answer) model' ≡ following t.vars (outcome_parsed s p).handed
  follows malformed h = refl
  follows (framed f) h = followed f (check s f) refl h

module _ (t : Table) (rows : List Row) (pool : List ℤ) (stack : List ℕ) (r : Reader) (frame₁ : List ℤ) where
  -- a line that is no frame
  pub close_spoilt : is_frame r.digits r.spoilt ≡ false → {o : List ℕ} {a : ℕ} {o' : List ℕ} {a' : ℕ} →
      Wrote o a (answer_line (Err Malformed) []) o' a' →
      LineClosed (spelled t rows pool stack) (line_of r frame₁) o a (spelled t rows pool stack) o' a'
  close_spoilt n w = record { wrote = rw n w; state = rw n refl }

  -- a frame, stepped
  pub close_framed : Fit t rows pool stack → is_frame r.digits r.spoilt ≡ true →
      {q : Stepped} {rows' : List Row} {pool' : List ℤ} {stack' : List ℕ} {model model' : List ℕ} →
      Steps t rows pool stack (take (r.digits / 8) frame₁) q rows' pool' stack' model model' →
      {o : List ℕ} {a : ℕ} {o' : List ℕ} {a' : ℕ} → Wrote o a (answer_line q.answer (listed q.written model')) o' a' →
      LineClosed (spelled t rows pool stack) (line_of r frame₁) o a (spelled q.table rows' pool' stack') o' a'
  unfolding outcome
  close_framed fit n {q} {model} {model'} s {o} {a} {o'} {a'} w =
      let ws = take (r.digits / 8) frame₁ in
      let st = spelled t rows pool stack in
      let same : listed q.written model' ≡ following t.vars (outcome st ws).handed =
      ap (λ x. listed x model') (s.told ∙ ap (unless_refused (writes (parse ws))) s.answered) ∙ follows fit model model' (parse ws) s.handed in
      record {
        wrote = rw n (rw (s.answered, same) at w);
        state = rw n s.state;
      }

  -- what either did to the tables
  pub alters_nothing : is_frame r.digits r.spoilt ≡ false →
      Altering (line_alters (spelled t rows pool stack) (frame (line_of r frame₁))) false t rows pool stack t rows pool stack
  alters_nothing n = record { told_so = rw n; left = λ e. record { table = refl; same_rows = refl; same_pool = refl; same_stack = refl } }

  pub alters_framed : is_frame r.digits r.spoilt ≡ true → {q : Stepped} {rows' : List Row} {pool' : List ℤ} {stack' : List ℕ} {model model' : List ℕ} →
      Steps t rows pool stack (take (r.digits / 8) frame₁) q rows' pool' stack' model model' →
      Altering (line_alters (spelled t rows pool stack) (frame (line_of r frame₁))) (is_tables q.written) t rows pool stack q.table rows' pool' stack'
  alters_framed n {q} s =
      let p = parse (take (r.digits / 8) frame₁) in
      let told = ap is_tables s.told ∙ told_altered p q.answer in
      record {
        told_so = rw n (told ∙ ap (altered p) s.answered);
        left = λ e. s.left (λ w. unaltered p q.answer (sym told ∙ e) (sym s.told ∙ w));
      }
