-- A chain of calls is a history of the paper's: what is lent and carried spells its state. So is what a line met.
use mathlib.Core.Path.{◌≡◌, refl, sym, ap, ◌∙◌}
use mathlib.Core.Bool.{true, false, ◌&&◌}
use mathlib.Core.List.{List, []}
use mathlib.Core.Option.{Option, none, some, some-injective, none-ne-some}
use Prim.Native.Nat.{ℕ}
use native.Mathlib.Omega.{arith}
use lib.Dec.{eqb, leb}
use lib.IntN.{ℤ}
use lib.ListN.{length, take}
use Rattle.rules.specs.Terms.{State}
use Rattle.rules.specs.Frames.{parse}
use Rattle.rules.specs.Answers.{outcome, opened}
use Rattle.rules.specs.Histories.{History, step, steps, added_by, Reached}
use Rattle.rules.specs.Results.{Answer}
use Rattle.std.specs.Prelude.{Ok, Err}
use Rattle.rules.specs.Results.{Check}
use Rattle.rules.specs.declared.Fault.TheVariants.{NoState}
use Rattle.rules.proofs.Lists.{by_cases}
use Rattle.rules.proofs.Reaching.{reached_one}
use Rattle.lent_entries.specs.Lent.{state_lent}
use Rattle.lent_entries.specs.declared.Entry.{Entry}
use Rattle.lent.specs.declared.Carried.{Carried}
use Rattle.lent.specs.declared.Called.{Called}
use Rattle.lent_open.specs.Opened.{opened_with}
use Rattle.line_read.specs.Machine.{line_of, Session, session_of}
use Rattle.line_read.specs.Parts.{closes, largest_reply}
use Rattle.line_read.specs.declared.Reader.{Reader}
use Rattle.line_read.proofs.Parts.{run_by_lines}
use Rattle.call_step.specs.Calls.{outcome_of, answer_to, Opening, Stepping}
use Rattle.call_give.specs.Giving.{is_line, met, Giving}
use Rattle.call_give.specs.declared.Given.{Given}
use Rattle.call_demands.specs.Chains.{Chain, open_first, then_step, then_give, then_end, added_after, added_given}
use Rattle.call_demands.specs.Heard.{LineHeard}
use Rattle.call_demands.proofs.Lines.{after_lines}

-- the history that a chain comes to
pub record HistoryOf (entries : List Entry) (pool : List ℤ) (c : Carried) (added : List (List ℤ)) : Type 0 where
  pub history : History
  pub reached : Reached history
  pub spells : state_lent entries pool c ≡ some history.state
  pub adds : history.added ≡ added

-- ---- open

passed : (vars : ℕ) (k : Check) → (opened_with vars k).answer ≡ Ok 0 → k ≡ Ok tt
passed vars (Ok tt) e = refl
passed vars (Err f) e = let z : ◌≡◌ {A = ℕ} 0 1 = cc in absurd (omega arith)

pub opened_lent : (vars : ℕ) (entries : List Entry) (pool : List ℤ) (r : Called) → Opening vars entries pool r → r.answer ≡ Ok 0 →
    state_lent entries pool r.carried ≡ some (opened vars (length entries) (length pool))
opened_lent vars entries pool r o e = o.state (passed vars _ (sym (ap (λ (x : Called). x.answer) o.called) ∙ e))

opening : (vars : ℕ) (entries : List Entry) (pool : List ℤ) (r : Called) → Opening vars entries pool r → r.answer ≡ Ok 0 →
    HistoryOf entries pool r.carried []
unfolding steps
opening vars entries pool r o e =
    let k = passed vars _ (sym (ap (λ (x : Called). x.answer) o.called) ∙ e) in
    record {
      history = record { state = opened vars (length entries) (length pool); added = [] };
      reached = record { vars = vars; entries = length entries; words = length pool; accepted = k; frames = []; by_frames = refl };
      spells = opened_lent vars entries pool r o e;
      adds = refl;
    }

-- ---- step

module _ {entries : List Entry} {pool : List ℤ} {c : Carried} {added : List (List ℤ)} (h : HistoryOf entries pool c added)
    (frame : List ℤ) (model : List ℕ) (r : Called) (entries' : List Entry) (pool' : List ℤ) (model' : List ℕ)
    (s : Stepping entries pool c frame model r entries' pool' model') where
  abbrev st : State
  st = h.history.state

  -- with a model buffer of 32 words the paper's outcome was said
  pub said_paper : eqb (length model) 32 ≡ true → outcome_of entries pool c frame model ≡ some (outcome st frame)
  said_paper b = let e = h.spells in rw (b, e)

  pub said_none : eqb (length model) 32 ≡ false → outcome_of entries pool c frame model ≡ none
  said_none b = rw b

  stepped : eqb (length model) 32 ≡ true → HistoryOf entries' pool' r.carried (added_by r.answer (parse frame) added)
  unfolding step
  stepped b = record {
    history = step h.history frame;
    reached = reached_one h.history frame h.reached;
    spells = s.state (outcome st frame) (said_paper b);
    adds =
        ap (added_by (outcome st frame).answer (parse frame)) h.adds
        ∙ ap (λ x. added_by x (parse frame) added) (sym (s.answered ∙ ap answer_to (said_paper b)));
  }

  -- with another one, nothing was done
  unstepped : eqb (length model) 32 ≡ false → HistoryOf entries' pool' r.carried (added_by r.answer (parse frame) added)
  unstepped b =
      let a = s.answered ∙ ap answer_to (said_none b) in
      let l = s.refused NoState a in
      let x = l.0 in let y = l.1 in let z = l.2 in
      record {
        history = h.history;
        reached = h.reached;
        spells = rw (x, y, z) h.spells;
        adds = rw a h.adds;
      }

  stepping : HistoryOf entries' pool' r.carried (added_by r.answer (parse frame) added)
  stepping = by_cases (eqb (length model) 32) stepped unstepped

-- ---- give

-- what the part met was the state spelled
pub met_lent : (entries : List Entry) (pool : List ℤ) (c : Carried) (r : Reader) (frame : List ℤ) (out : List ℕ) (s : State) →
    met entries pool c r frame out ≡ some s → state_lent entries pool c ≡ some s
met_lent entries pool c r frame out s e = by_cases (is_line r (length frame) && leb largest_reply (length out))
    (λ t. rw t at e)
    (λ f. absurd (none-ne-some s (rw f at e)))

module _ {entries : List Entry} {pool : List ℤ} {c : Carried} {added : List (List ℤ)} (h : HistoryOf entries pool c added)
    (r : Reader) (frame : List ℤ) (part out : List ℕ) (q : Given) (entries' : List Entry) (pool' : List ℤ) (frame' : List ℤ) (out' : List ℕ)
    (g : Giving entries pool c r frame part out q entries' pool' frame' out') where
  abbrev lines : List (Option (List ℤ))
  lines = closes (line_of r frame) (take q.taken part)

  -- the state that a part meets is the history's
  pub met_here : (s : State) → met entries pool c r frame out ≡ some s → s ≡ h.history.state
  met_here s e = some-injective s _ (sym (met_lent entries pool c r frame out s e) ∙ h.spells)

  given_some : (s : State) → met entries pool c r frame out ≡ some s → HistoryOf entries' pool' q.carried (added_after s lines added)
  given_some s e =
      let f = g.given s e in
      let k = after_lines lines h.history h.reached in
      let same = met_here s e in
      let a = h.adds in
      let moved = ap (λ (x : Session). x.state) (f.fed.moved ∙ run_by_lines (take q.taken part) (session_of r frame s out 0)) in
      record {
        history = k.history;
        reached = k.reached;
        spells = met_lent entries' pool' q.carried q.reader frame' out' f.after f.spells ∙ ap some (moved ∙ rw same (sym k.state));
        adds = k.added ∙ rw (same, a);
      }

  given_none : met entries pool c r frame out ≡ none → HistoryOf entries' pool' q.carried added
  given_none e =
      let l = g.left e in
      let x = l.0 in let y = l.1 in let z = l.2 in
      record { history = h.history; reached = h.reached; spells = rw (x, y, z) h.spells; adds = h.adds }

  giving : HistoryOf entries' pool' q.carried (added_given (met entries pool c r frame out) lines added)
  giving = by_met (met entries pool c r frame out) refl
    where
      by_met : (m : Option State) → met entries pool c r frame out ≡ m → HistoryOf entries' pool' q.carried (added_given m lines added)
      by_met (some s) e = given_some s e
      by_met none e = given_none e

-- ---- a chain

pub reached_by_calls : {entries : List Entry} {pool : List ℤ} {c : Carried} {added : List (List ℤ)} → Chain entries pool c added →
    HistoryOf entries pool c added
reached_by_calls (open_first vars entries pool r o e) = opening vars entries pool r o e
reached_by_calls (then_step k frame model r entries' pool' model' s) = stepping (reached_by_calls k) frame model r entries' pool' model' s
reached_by_calls (then_give k r frame part out q entries' pool' frame' out' g) = giving (reached_by_calls k) r frame part out q entries' pool' frame' out' g
reached_by_calls (then_end k r out q out' e) = reached_by_calls k

-- ---- a line heard

-- the history that it met
pub line_history : {added : List (List ℤ)} {st : State} {ws : List ℤ} {answer : Answer} {printed : List ℕ} → LineHeard added st ws answer printed →
    (h : History) × Reached h × (h.state ≡ st) × (h.added ≡ added)
line_history l =
    let h = reached_by_calls l.chain in
    let k = after_lines l.before h.history h.reached in
    let same = met_here h l.r l.frame l.part l.out l.q l.entries' l.pool' l.frame' l.out' l.gives l.start l.meets in
    let a = h.adds in
    (k.history, k.reached, k.state ∙ sym (l.state ∙ rw same refl), k.added ∙ sym (l.adds ∙ rw (same, a) refl))
