-- Demand 3 over the calls: of any outcomes that the promises of `open`, `step`, `give` and `end` allow, mixed at will, in terms of the lent words, what is
-- carried, the frames, the model buffer and the printed lines. To believe them, read specs/, those of rules, lent, lent_entries, line_read, call_step and
-- call_give, and this file.
use mathlib.Core.Path.{◌≡◌, refl, sym, ap, subst, ◌∙◌}
use mathlib.Core.Logic.{◌↔◌}
use mathlib.Core.Bool.{true, false}
use mathlib.Core.List.{List, [], ◌∷◌, ◌++◌}
use mathlib.Core.Option.{some, some-injective}
use Prim.Native.Nat.{ℕ, ◌≤◌}
use native.Mathlib.Omega.{arith}
use lib.Dec.{eqb}
use lib.IntN.{ℤ}
use lib.ListN.{length, take}
use borrow.Author.Tests.{eq-eqb, le-leb}
use Rattle.rules.specs.Terms.{is_variable, Assignment, State}
use Rattle.rules.specs.Frames.{Frame, SAT, UNSAT, framed, parse, offered}
use Rattle.rules.specs.Answers.{mended, outcome}
use Rattle.rules.specs.Histories.{History, models, Models, Assumes, Unwitnessed, Unopposed, Accepts, Answered, SameLiterals, SameClauses}
use Rattle.rules.specs.Outcomes.{trues}
use Rattle.rules.specs.Results.{Answer}
use Rattle.std.specs.Prelude.{Ok, Err}
use Rattle.rules.specs.declared.Fault.TheVariants.{NoState}
use Rattle.rules.proofs.Lists.{by_cases}
use Rattle.rules.proofs.Theorems as paper
use Rattle.rules.proofs.Codes.{never_no_state}
use Rattle.rules.proofs.Meaning.{within_models, same_assumes}
use Rattle.lit_sets.specs.Words.{assigned}
use Rattle.lent_entries.specs.Lent.{state_lent}
use Rattle.lent_entries.specs.declared.Entry.{Entry}
use Rattle.lent.specs.declared.Carried.{Carried}
use Rattle.lent.specs.declared.Called.{Called}
use Rattle.step_answers.specs.Answered.{ModelWritten}
use Rattle.line_read.specs.Lines.{following, answer_line}
use Rattle.line_read.specs.Machine.{Session, session_of}
use Rattle.line_read.specs.Parts.{replied}
use Rattle.line_read.specs.declared.Reader.{Reader}
use Rattle.line_read.proofs.Parts.{run_by_lines, replied_append}
use Rattle.call_step.specs.Calls.{outcome_of, answer_to, handed_by, Stepping}
use Rattle.call_give.specs.Giving.{met, given_to, Giving}
use Rattle.call_give.specs.declared.Given.{Given}
use Rattle.call_demands.specs.Chains.{Chain}
use Rattle.call_demands.specs.Heard.{LineHeard, true_of, SatHeard, sat_step, sat_line, UnsatHeard, unsat_step, unsat_line, Mended}
use Rattle.call_demands.proofs.Lines.{printed_true}
use Rattle.call_demands.proofs.Reaching.{HistoryOf, reached_by_calls, said_paper, said_none, line_history}

-- ---- 1. after a chain what is lent and carried is a state: code 1 is given for sizes of buffers alone

module _ {entries : List Entry} {pool : List ℤ} {c : Carried} {added : List (List ℤ)} (k : Chain entries pool c added) where
  abbrev h : HistoryOf entries pool c added
  h = reached_by_calls k

  pub spells_a_state : (s : State) × (state_lent entries pool c ≡ some s)
  spells_a_state = (h.history.state, h.spells)

  -- by `step`, but for a model buffer of another size than 32 words
  pub never_code_1 : (frame : List ℤ) (model : List ℕ) (r : Called) (entries' : List Entry) (pool' : List ℤ) (model' : List ℕ) →
      Stepping entries pool c frame model r entries' pool' model' →
      length model ≡ 32 → r.answer ≡ Err NoState → ⊥
  never_code_1 frame model r entries' pool' model' s n e =
      never_no_state h.history.state frame
      (sym (s.answered ∙ ap answer_to (said_paper h frame model r entries' pool' model' s (eq-eqb (length model) 32 n))) ∙ e)

  -- by `give`, but for a reader that reads no line, a frame buffer of fewer than 4,096 words or an out buffer of fewer than 16,401 bytes
  pub given_never_code_1 : (r : Reader) (frame : List ℤ) (part out : List ℕ) (q : Given) (entries' : List Entry) (pool' : List ℤ) (frame' : List ℤ)
      (out' : List ℕ) →
      Giving entries pool c r frame part out q entries' pool' frame' out' → r.digits ≤ 32768 → 4096 ≤ length frame → 16401 ≤ length out →
      q.answer ≡ Ok 0
  given_never_code_1 r frame part out q entries' pool' frame' out' g few wide room =
      let a = le-leb r.digits 32768 few in
      let b = le-leb 4096 (length frame) wide in
      let d = le-leb 16401 (length out) room in
      let here : met entries pool c r frame out ≡ some h.history.state = rw (a, b, d) h.spells in
      g.answered ∙ ap given_to here

  -- ---- 2. whenever no assumption is the opposite of a stacked witness literal, added clauses and irredundant clauses agree on yes and no

  same_state : (st : State) → state_lent entries pool c ≡ some st → st ≡ h.history.state
  same_state st d = some-injective st _ (sym d ∙ h.spells)

  pub same_yes_and_no : (st : State) → state_lent entries pool c ≡ some st → (assumed : List ℤ) → Unopposed st assumed →
      ((α : Assignment) × Models α added × Assumes α assumed) ↔ ((α : Assignment) × (models α st.irredundant ≡ true) × Assumes α assumed)
  same_yes_and_no st d assumed u =
      subst (λ cs. ((α : Assignment) × Models α cs × Assumes α assumed) ↔ ((α : Assignment) × (models α st.irredundant ≡ true) × Assumes α assumed))
      h.adds
      (subst (λ (x : State). ((α : Assignment) × Models α h.history.added × Assumes α assumed) ↔
      ((α : Assignment) × (models α x.irredundant ≡ true) × Assumes α assumed)) (sym (same_state st d))
      (paper.same_answers h.history h.reached assumed (subst (λ x. Unopposed x assumed) (same_state st d) u)))

  -- ---- a frame that `step` accepted was accepted in the history's state

  module _ (frame : List ℤ) (model : List ℕ) (r : Called) (entries' : List Entry) (pool' : List ℤ) (model' : List ℕ)
      (s : Stepping entries pool c frame model r entries' pool' model')
      (n : ℕ) (e : r.answer ≡ Ok n) where
    with_32 : eqb (length model) 32 ≡ true
    with_32 =
        by_cases (eqb (length model) 32) (λ b. b) (λ b. let a = sym (s.answered ∙ ap answer_to (said_none h frame model r entries' pool' model' s b)) ∙ e in
        let z : ◌≡◌ {A = ℕ} 0 1 = cc in absurd (omega arith))

    judged_so : outcome_of entries pool c frame model ≡ some (outcome h.history.state frame)
    judged_so = said_paper h frame model r entries' pool' model' s with_32

    accepts : (f : Frame) → parse frame ≡ framed f → Accepts h.history.state frame f
    accepts f p = record { parsed = p; changed = n; accepted = sym (s.answered ∙ ap answer_to judged_so) ∙ e }

    -- the model buffer holds what the paper hands out
    holds : {α β : Assignment} → (outcome h.history.state frame).handed ≡ mended α β → assigned model' ≡ β
    holds {α} {β} m = subst (λ x. ModelWritten x model model') (ap handed_by judged_so ∙ m) s.handed

-- ---- 3. an accepted SAT hands out a model of every clause ever added and of its assumptions, by either call

-- from the history that it met to what is said of it
mended_by : (g : History) {added : List (List ℤ)} {st : State} {assumed vs : List ℤ} {β γ : Assignment} → g.added ≡ added → g.state ≡ st → γ ≡ β →
    Answered g assumed (offered vs) β → Mended added st assumed vs γ
mended_by g {added} {st} {assumed} {vs} {β} {γ} a s w m = record {
  of_added = subst (λ cs. Models γ cs) a (subst (λ α. Models α g.added) (sym w) m.of_added);
  of_assumptions = subst (λ α. Assumes α assumed) (sym w) m.of_assumptions;
  elsewhere = λ v u. ap (λ (α : Assignment). α v) w ∙ m.elsewhere v (subst (λ x. Unwitnessed x v) (sym s) u);
  nowhere_else = λ v f. ap (λ (α : Assignment). α v) w ∙ m.nowhere_else v (ap (λ (x : State). is_variable x.vars v) s ∙ f);
}

-- a line that was accepted was accepted in the history that it met
line_accepts : {added : List (List ℤ)} {st : State} {ws : List ℤ} {answer : Answer} {printed : List ℕ} (l : LineHeard added st ws answer printed) (n : ℕ) →
    answer ≡ Ok n →
    (f : Frame) → parse ws ≡ framed f → Accepts (line_history l).0.state ws f
line_accepts {ws = ws} l n e f p = record { parsed = p; changed = n; accepted = ap (λ s. (outcome s ws).answer) (line_history l).2 ∙ sym l.answered ∙ e }

pub sat_is_a_model : {added : List (List ℤ)} {st : State} {assumed vs : List ℤ} {β : Assignment} → SatHeard added st assumed vs β → Mended added st assumed vs β
sat_is_a_model (sat_step k frame model r entries' pool' model' s st d n e assumed vs p) =
    let g = h k in
    let m = paper.accepted_sat g.history g.reached frame assumed vs (accepts k frame model r entries' pool' model' s n e (SAT assumed vs) p) in
    mended_by g.history g.adds (sym (same_state k st d)) (holds k frame model r entries' pool' model' s n e m.1) m.2
sat_is_a_model (sat_line {st = st} {ws = ws} {printed = printed} l n e assumed vs p) =
    let g = line_history l in
    let m = paper.accepted_sat g.0 g.1 ws assumed vs (line_accepts l n e (SAT assumed vs) p) in
    let hands : (outcome st ws).handed ≡ mended (offered vs) m.0 = ap (λ s. (outcome s ws).handed) (sym g.2) ∙ m.1 in
    let shown : printed ≡ trues m.0 st.vars [] = l.prints ∙ ap (following st.vars) hands in
    let none_else : (v : ℕ) → is_variable st.vars v ≡ false →
    m.0 v ≡ false = λ v f. m.2.nowhere_else v (ap (λ (x : State). is_variable x.vars v) g.2 ∙ f) in
    mended_by g.0 g.3 g.2 (ap true_of shown ∙ printed_true m.0 st.vars none_else) m.2

-- what a line's answer and printed variables are is what the out buffer holds: behind the answers to the lines before it
pub line_is_printed : {added : List (List ℤ)} {st : State} {ws : List ℤ} {answer : Answer} {printed : List ℕ} (l : LineHeard added st ws answer printed) →
    take l.q.written l.out' ≡ replied l.start l.before ++ (answer_line answer printed ++ replied (outcome st ws).state l.after)
unfolding replied
line_is_printed {st = st} {ws = ws} l =
    let g = l.gives.given l.start l.meets in
    let bytes = take l.q.taken l.part in
    let all = ap (λ (x : Session). x.out) (g.fed.moved ∙ run_by_lines bytes (session_of l.r l.frame l.start l.out 0)) in
    let lines = ap (replied l.start) l.closed ∙ replied_append l.before (some ws ∷ l.after) l.start in
    let met = l.state in let a = l.answered in let p = l.prints in
    all ∙ lines ∙ rw (a, p, ← met) refl

-- ---- 4. an accepted UNSAT is true of all added clauses under its assumptions, by either call

pub unsat_is_true : {added : List (List ℤ)} {assumed : List ℤ} → UnsatHeard added assumed → (α : Assignment) → Models α added → Assumes α assumed → ⊥
unsat_is_true (unsat_step k frame model r entries' pool' model' s n e assumed hints p) α m =
    let g = h k in
    paper.accepted_unsat g.history g.reached frame assumed hints (accepts k frame model r entries' pool' model' s n e (UNSAT assumed hints) p) α
    (subst (λ cs. Models α cs) (sym g.adds) m)
unsat_is_true (unsat_line {ws = ws} l n e assumed hints p) α m =
    let g = line_history l in
    paper.accepted_unsat g.0 g.1 ws assumed hints (line_accepts l n e (UNSAT assumed hints) p) α (subst (λ cs. Models α cs) (sym g.3) m)

-- ---- 5. order-free: in two chains whose added clauses are the same set, in whatever order and with whatever other calls, SAT is never accepted in one and
-- UNSAT in the other under assumptions that are the same set

-- the model that SAT hands out is one of all that UNSAT denies
pub never_both : {added added₂ : List (List ℤ)} {st : State} {assumed vs denied : List ℤ} {β : Assignment} → SatHeard added st assumed vs β →
    UnsatHeard added₂ denied →
    SameClauses added added₂ → SameLiterals assumed denied → ⊥
never_both {added} {added₂} {st} {assumed} {vs} {denied} {β} s u same alike =
    let m = sat_is_a_model s in
    unsat_is_true u β (within_models β added added₂ same.1 m.of_added) (same_assumes β assumed denied alike m.of_assumptions)
