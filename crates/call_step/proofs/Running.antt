-- From what loading and a step on the working table promise to what a call does to the rows of what is lent.
use mathlib.Core.Path.{◌≡◌, refl, sym, ap, subst, ◌∙◌}
use mathlib.Core.Bool.{Bool, true, false}
use mathlib.Core.List.{List}
use mathlib.Core.Option.{none, some, some-injective, none-ne-some, some-ne-none}
use Prim.Native.Nat.{ℕ}
use lib.IntN.{ℤ}
use lib.ListN.{length}
use Rattle.rules.specs.Terms.{State}
use Rattle.rules.specs.Frames.{Frame, ADD, LEARN, FORGET, PROMOTE, DROP, WEAKEN, RESTORE, SAT, UNSAT, Parsed, malformed, framed, parse}
use Rattle.rules.specs.Answers.{check, Handed, untouched, Outcome, settled, outcome, outcome_parsed, altered}
use Rattle.std.specs.Prelude.{Ok, Err}
use Rattle.rules.specs.Results.{Check}
use Rattle.rules.specs.declared.Fault.TheVariants.{NoState}
use Rattle.rules.proofs.Lists.{true-false}
use Rattle.rules.proofs.Lasting.{outcome_lasts, unaltered_state}
use Rattle.table.specs.Spelled as working
use Rattle.table.specs.Spelled.{Row}
use Rattle.table.specs.declared.Table.{Table}
use Rattle.lent.specs.State.{is_state, state_of, state_carried}
use Rattle.lent.specs.Stored.{PutsBack}
use Rattle.lent.specs.declared.Carried.{Carried}
use Rattle.lent.proofs.Stored.{stored_back, nothing_back}
use Rattle.lent_load.specs.Loads.{Loads}
use Rattle.std.specs.Prelude.{Some}
use Rattle.step_outcome.specs.Told.{unless_refused, is_tables}
use Rattle.step_answers.specs.Answered.{ModelWritten}
use Rattle.step_outcome.specs.declared.Stepped.{Stepped}
use Rattle.step_outcome.specs.declared.Written.{Written}
use Rattle.step_outcome.specs.declared.Written.TheVariants.{Nothing, Tables, Model}
use Rattle.table_room.specs.Room.{Squeezed}
use Rattle.step.specs.Steps.{Steps, writes}
use Rattle.step.proofs.Altered.{told_altered}
use Rattle.call_step.specs.Calls.{judged}
use Rattle.call_step.specs.Running.{Running, step_left, step_stored}

-- ---- the model: it is handed out exactly where it is told so

-- of an outcome, what was written and what was handed
abbrev Told : Written → Handed → Type 0
Told Nothing h = h ≡ untouched
Told Tables h = h ≡ untouched
Told Model h = (model words : List ℕ) → ModelWritten h model words → (other : List ℕ) → ModelWritten h other words

tells : (s : State) (p : Parsed) → Told (unless_refused (writes p) (outcome_parsed s p).answer) (outcome_parsed s p).handed
tells s malformed = refl
tells s (framed f) = by_check f (check s f)
  where
    by_check : (f : Frame) (k : Check) → Told (unless_refused (writes (framed f)) (settled s f k).answer) (settled s f k).handed
    by_check f (Err e) = refl
    by_check (ADD i c) (Ok tt) = refl
    by_check (LEARN i c hints) (Ok tt) = refl
    by_check (FORGET i) (Ok tt) = refl
    by_check (PROMOTE i) (Ok tt) = refl
    by_check (DROP i hints) (Ok tt) = refl
    by_check (WEAKEN i w groups) (Ok tt) = refl
    by_check (RESTORE i) (Ok tt) = refl
    by_check (SAT assumed vs) (Ok tt) = λ model words w other. w
    by_check (UNSAT assumed hints) (Ok tt) = refl

-- ---- no state

no_state : (c : Carried) (rows : List Row) (pool : List ℤ) → is_state c rows pool ≡ false → (frame : List ℤ) →
    judged true (state_carried c rows pool) frame ≡ none
no_state c rows pool n frame = rw n

pub unloaded : (c : Carried) (rows : List Row) (pool : List ℤ) → is_state c rows pool ≡ false → (frame : List ℤ) (model : List ℕ) {rows' : List Row} →
    Running (length rows) rows c pool frame model (step_left (Err NoState) c) rows' pool model
unloaded c rows pool n frame model =
    let e = no_state c rows pool n frame in
    record {
      answered = rw e;
      handed = rw e refl;
      back = λ s d. absurd (none-ne-some s (rw n at d));
      left = λ d. (refl, refl);
    }

-- ---- a state, loaded and stepped

module _ (c : Carried) (rows : List Row) (pool : List ℤ) {t : Table} {rows₁ : List Row} (loaded : Loads c rows pool (Some t) rows₁)
    {frame : List ℤ} {s : Stepped} {rows₂ : List Row} {pool₂ : List ℤ} {stack₂ : List ℕ} {model₀ words : List ℕ}
    (st : Steps t rows₁ pool c.stack frame s rows₂ pool₂ stack₂ model₀ words) where
  abbrev before : State
  before = state_of c rows pool

  abbrev out : Outcome
  out = outcome before frame

  abbrev changed : Bool
  changed = altered (parse frame) s.answer

  paper : judged true (state_carried c rows pool) frame ≡ some out
  paper = let is = loaded.0 in rw is

  answer_is : s.answer ≡ out.answer
  answer_is = st.answered ∙ ap (λ x. (outcome x frame).answer) loaded.2

  told_is : s.written ≡ unless_refused (writes (parse frame)) out.answer
  told_is = st.told ∙ ap (unless_refused (writes (parse frame))) answer_is

  after_is : working.spelled s.table rows₂ pool₂ stack₂ ≡ out.state
  after_is = st.state ∙ ap (λ x. (outcome x frame).state) loaded.2

  handed_is : Told s.written out.handed
  unfolding outcome
  handed_is = subst (λ w. Told w out.handed) (sym told_is) (tells before (parse frame))

  -- the tables were written exactly where the frame was an accepted change
  changed_is : changed ≡ is_tables s.written
  changed_is = sym (told_altered (parse frame) s.answer) ∙ ap is_tables (sym st.told)

  -- whatever goes back
  ran : (c' : Carried) (k : ℕ) {rows' : List Row} {model model' : List ℕ} → ModelWritten out.handed model model' →
      PutsBack changed (length rows) c pool before k c' rows' pool₂ out.state →
      Running (length rows) rows c pool frame model (record { given = record { answer = s.answer; carried = c' }; count = k }) rows' pool₂ model'
  ran c' k {rows'} h b =
      let p = paper in
      let is = loaded.0 in
      record {
        answered = rw p answer_is;
        handed = rw p h;
        back = λ x d. subst (λ y. PutsBack changed (length rows) c pool y k c' rows' pool₂ (outcome y frame).state) (some-injective _ x (rw is at d)) b;
        left = λ d. absurd (some-ne-none _ (rw is at d));
      }

  -- nothing goes back, and the model buffer is what the outcome says
  left_alone : is_tables s.written ≡ false → {model model' : List ℕ} → ModelWritten out.handed model model' →
      Running (length rows) rows c pool frame model (step_left s.answer c) rows₂ pool₂ model'
  left_alone u h =
      let e = changed_is ∙ u in
      ran c 0 h (nothing_back e (st.left (λ d. true-false (ap is_tables d) u)).same_pool
      (unaltered_state before frame (ap (altered (parse frame)) (sym answer_is) ∙ e)))

  pub ran_nothing : s.written ≡ Nothing → (model : List ℕ) → Running (length rows) rows c pool frame model (step_left s.answer c) rows₂ pool₂ model
  ran_nothing e model = let h : out.handed ≡ untouched = subst (λ w. Told w out.handed) e handed_is in
      left_alone (ap is_tables e) {model = model} (rw h refl)

  pub ran_model : s.written ≡ Model → (model : List ℕ) → Running (length rows) rows c pool frame model (step_left s.answer c) rows₂ pool₂ words
  ran_model e model =
      let h : Told Model out.handed = subst (λ w. Told w out.handed) e handed_is in
      let w : ModelWritten out.handed model₀ words = subst (λ x. ModelWritten (outcome x frame).handed model₀ words) loaded.2 st.handed in
      left_alone (ap is_tables e) (h model₀ words w model)

  -- the rows held go back, without those whose clause is gone; as many clauses may be held as entries are lent
  pub ran_tables : s.written ≡ Tables → {u : Table} {rows₃ : List Row} → Squeezed s.table rows₂ pool₂ stack₂ u rows₃ → (model : List ℕ) →
      Running (length rows) rows c pool frame model (step_stored s.answer u stack₂) rows₃ pool₂ model
  unfolding state_of
  ran_tables e {u} q model =
      let sized : u.entries ≡ length rows = ap (λ (x : State). x.entries) (q.same ∙ after_is) ∙ (outcome_lasts before frame).1 in
      let h : out.handed ≡ untouched = subst (λ w. Told w out.handed) e handed_is in
      ran _ u.count {model = model} (rw h refl) (stored_back q.fit q.none_gone (changed_is ∙ ap is_tables e) sized (q.same ∙ after_is))
