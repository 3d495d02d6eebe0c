-- Any two outcomes that the promise of a public call allows agree; their code and detail are the paper's; and what is lent and is a state obeys Terms. To
-- believe them, read specs/, those of rules, lent, lent_entries, call_step and call_give, and this file.
use mathlib.Core.Path.{◌≡◌, refl, sym, ap, ap₂, subst, ◌∙◌}
use mathlib.Core.Bool.{false, cond}
use mathlib.Core.List.{List, ◌++◌}
use mathlib.Core.Option.{Option, none, some}
use Prim.Native.Nat.{ℕ, ◌<◌, ◌^◌}
use native.Mathlib.Omega.{arith}
use lib.IntN.{ℤ}
use lib.ListN.{length, get_or, take, drop, take-append-drop}
use lib.Seq.{length-take-le}
use Rattle.rules.specs.Terms.{State, Terms}
use Rattle.rules.specs.Frames.{parse}
use Rattle.rules.specs.Answers.{numbers, Handed, untouched, mended, Outcome, altered, check_open}
use Rattle.rules.specs.Results.{Check}
use Rattle.std.specs.Prelude.{Ok, Err}
use Rattle.rules.specs.declared.Fault.TheVariants.{NoState}
use Rattle.rules.proofs.Lists.{by_cases}
use Rattle.lit_sets.proofs.Assigned.{words_fixed}
use Rattle.lent_entries.specs.Lent.{state_lent}
use Rattle.lent_entries.specs.declared.Entry.{Entry}
use Rattle.lent.specs.State.{Alike}
use Rattle.lent.specs.declared.Carried.{Carried}
use Rattle.lent.specs.declared.Called.{Called}
use Rattle.lent_open.specs.Opened.{opened_with}
use Rattle.lent_load.proofs.Obeys.{carries_alike, same_alike}
use Rattle.step_answers.specs.Answered.{ModelWritten}
use Rattle.line_read.specs.Machine.{line_of, Session, session_of, session_after}
use Rattle.line_read.specs.Parts.{closes, some_alters}
use Rattle.line_read.specs.declared.Reader.{Reader}
use Rattle.call_step.specs.Calls.{outcome_of, answer_to, handed_by, code_and_detail, opening_numbers, Opening, Stepping}
use Rattle.call_step.proofs.Stepped.{unaltered_left}
use Rattle.call_give.specs.Giving.{met, given_to, given_numbers, GivenFrom, Giving, may_end, Ending}
use Rattle.call_give.specs.declared.Given.{Given}
use Rattle.call_give.specs.declared.Ended.{Ended}
use Rattle.call_demands.proofs.Spelling.{lent_obeys, lent_carries}
use Rattle.call_demands.proofs.Reaching.{met_lent}

-- ---- 1. any two outcomes that a promise allows agree

-- of `open`: they are equal
pub same_opening : (vars : ℕ) (entries : List Entry) (pool : List ℤ) (r q : Called) → Opening vars entries pool r → Opening vars entries pool q → r ≡ q
same_opening vars entries pool r q o p = o.called ∙ sym p.called

-- of `step`: they agree in all that the state settles. Free is where entries lie in the table and literals in the pool after an accepted change, and the ids
-- behind the stack's depth

-- 32 words of 64 bits, or the buffer as it was
abbrev pub Words : List ℕ → Type 0
Words model = (j : ℕ) → j < length model → get_or model j 0 < 2 ^ 64

pub record Agree (entries : List Entry) (pool : List ℤ) (c : Carried) (frame : List ℤ) (model : List ℕ) (r q : Called) (entries₁ entries₂ : List Entry)
    (pool₁ pool₂ : List ℤ) (model₁ model₂ : List ℕ) : Type 0 where
  pub answers : r.answer ≡ q.answer
  pub models : model₁ ≡ model₂
  -- the state that they spell
  pub states : (o : Outcome) → outcome_of entries pool c frame model ≡ some o → state_lent entries₁ pool₁ r.carried ≡ state_lent entries₂ pool₂ q.carried
  pub carried : Alike r.carried q.carried
  -- and where the frame was no accepted change, every word
  pub words : altered (parse frame) r.answer ≡ false → (entries₁ ≡ entries₂) × (pool₁ ≡ pool₂) × (r.carried ≡ q.carried)

module _ {entries : List Entry} {pool : List ℤ} {c : Carried} {frame : List ℤ} {model : List ℕ} {r q : Called} {entries₁ entries₂ : List Entry}
    {pool₁ pool₂ : List ℤ} {model₁ model₂ : List ℕ}
    (s : Stepping entries pool c frame model r entries₁ pool₁ model₁) (t : Stepping entries pool c frame model q entries₂ pool₂ model₂) (w : Words model₁)
    (v : Words model₂) where
  buffers : (h : Handed) → ModelWritten h model model₁ → ModelWritten h model model₂ → model₁ ≡ model₂
  buffers untouched a b = a ∙ sym b
  buffers (mended α β) a b =
      words_fixed (length model) model₁ model₂ s.sized t.sized (λ j h. w j (subst (λ n. j < n) (sym s.sized) h))
      (λ j h. v j (subst (λ n. j < n) (sym t.sized) h)) (a ∙ sym b)

  -- where the paper spoke, both spell the state that it said; else both are refused, and carry what was carried
  carried_alike : (x : Option Outcome) → outcome_of entries pool c frame model ≡ x → Alike r.carried q.carried
  carried_alike (some o) e = carries_alike (lent_carries entries₁ pool₁ r.carried (s.state o e)) (lent_carries entries₂ pool₂ q.carried (t.state o e))
  carried_alike none e = same_alike ((s.refused NoState (s.answered ∙ ap answer_to e)).2 ∙ sym (t.refused NoState (t.answered ∙ ap answer_to e)).2)

  pub same_outcome : Agree entries pool c frame model r q entries₁ entries₂ pool₁ pool₂ model₁ model₂
  same_outcome =
      let same = s.answered ∙ sym t.answered in
      record {
        answers = same;
        models = buffers (handed_by (outcome_of entries pool c frame model)) s.handed t.handed;
        states = λ o e. s.state o e ∙ sym (t.state o e);
        carried = carried_alike (outcome_of entries pool c frame model) refl;
        words = λ n.
            let a = unaltered_left s n in
            let b = unaltered_left t (sym (ap (altered (parse frame)) same) ∙ n) in
            (a.0 ∙ sym b.0, a.1 ∙ sym b.1, a.2 ∙ sym b.2);
      }

-- of `give`: they agree in all that the state settles too, and in every byte of the out buffer. Free is, besides, what the frame buffer holds behind the words
-- of the line that is being read
pub record AgreeGiven (entries : List Entry) (pool : List ℤ) (c : Carried) (r : Reader) (frame : List ℤ) (part out : List ℕ) (q p : Given)
    (entries₁ entries₂ : List Entry) (pool₁ pool₂ : List ℤ) (frame₁ frame₂ : List ℤ) (out₁ out₂ : List ℕ) : Type 0 where
  pub answers : q.answer ≡ p.answer
  pub taken : q.taken ≡ p.taken
  pub written : q.written ≡ p.written
  pub replies : out₁ ≡ out₂
  pub lines_read : line_of q.reader frame₁ ≡ line_of p.reader frame₂
  pub states : state_lent entries₁ pool₁ q.carried ≡ state_lent entries₂ pool₂ p.carried
  pub carried : Alike q.carried p.carried
  -- where no line was an accepted change, and where the call was refused, every word
  pub words : (s : State) → met entries pool c r frame out ≡ some s → some_alters s (closes (line_of r frame) (take q.taken part)) ≡ false →
      (entries₁ ≡ entries₂) × (pool₁ ≡ pool₂) × (q.carried ≡ p.carried)
  pub refused : met entries pool c r frame out ≡ none → (q ≡ p) × (entries₁ ≡ entries₂) × (pool₁ ≡ pool₂) × (frame₁ ≡ frame₂) × (out₁ ≡ out₂)

module _ {entries : List Entry} {pool : List ℤ} {c : Carried} {r : Reader} {frame : List ℤ} {part out : List ℕ}
    {q : Given} {entries₁ : List Entry} {pool₁ : List ℤ} {frame₁ : List ℤ} {out₁ : List ℕ}
    (a : Giving entries pool c r frame part out q entries₁ pool₁ frame₁ out₁)
    {p : Given} {entries₂ : List Entry} {pool₂ : List ℤ} {frame₂ : List ℤ} {out₂ : List ℕ}
    (b : Giving entries pool c r frame part out p entries₂ pool₂ frame₂ out₂) where
  refused_both : met entries pool c r frame out ≡ none → (q ≡ p) × (entries₁ ≡ entries₂) × (pool₁ ≡ pool₂) × (frame₁ ≡ frame₂) × (out₁ ≡ out₂)
  refused_both n = let x = a.left n in let y = b.left n in (x.0 ∙ sym y.0, x.1 ∙ sym y.1, x.2 ∙ sym y.2, x.3 ∙ sym y.3, x.4 ∙ sym y.4)

  -- the part met s: both are the machine's run over the same bytes
  module _ (s : State) (e : met entries pool c r frame out ≡ some s) where
    abbrev x : GivenFrom s entries pool c r frame part out q entries₁ pool₁ frame₁ out₁
    x = a.given s e

    abbrev y : GivenFrom s entries pool c r frame part out p entries₂ pool₂ frame₂ out₂
    y = b.given s e

    same_taken : q.taken ≡ p.taken
    same_taken = x.fed.taken ∙ sym y.fed.taken

    same_run : session_of q.reader frame₁ x.after out₁ q.written ≡ session_of p.reader frame₂ y.after out₂ p.written
    same_run = x.fed.moved ∙ ap (λ n. session_after (session_of r frame s out 0) (take n part)) same_taken ∙ sym y.fed.moved

    same_written : q.written ≡ p.written
    same_written =
        let k = length-take-le q.written out₁ (omega (arith, x.fed.room, x.fed.kept)) in
        let l = length-take-le p.written out₂ (omega (arith, y.fed.room, y.fed.kept)) in
        sym k ∙ ap (λ (z : Session). length z.out) same_run ∙ l

    same_out : out₁ ≡ out₂
    same_out =
        let w = same_written in
        let front = ap (λ (z : Session). z.out) same_run in
        let rest : drop q.written out₁ ≡ drop p.written out₂ = x.fed.behind ∙ ap (λ n. drop n out) w ∙ sym y.fed.behind in
        sym (take-append-drop q.written out₁) ∙ ap (λ o. o ++ drop q.written out₁) front ∙ ap (λ o. take p.written out₂ ++ o) rest
        ∙ take-append-drop p.written out₂

    spelled₁ : state_lent entries₁ pool₁ q.carried ≡ some x.after
    spelled₁ = met_lent entries₁ pool₁ q.carried q.reader frame₁ out₁ x.after x.spells

    spelled₂ : state_lent entries₂ pool₂ p.carried ≡ some x.after
    spelled₂ = met_lent entries₂ pool₂ p.carried p.reader frame₂ out₂ y.after y.spells ∙ ap (λ (z : Session). some z.state) (sym same_run)

    agree_met : AgreeGiven entries pool c r frame part out q p entries₁ entries₂ pool₁ pool₂ frame₁ frame₂ out₁ out₂
    agree_met = record {
      answers = a.answered ∙ sym b.answered;
      taken = same_taken;
      written = same_written;
      replies = same_out;
      lines_read = ap (λ (z : Session). z.line) same_run;
      states = spelled₁ ∙ sym spelled₂;
      carried = carries_alike (lent_carries entries₁ pool₁ q.carried spelled₁) (lent_carries entries₂ pool₂ p.carried spelled₂);
      words = λ t d u.
          let k = (a.given t d).unaltered u in
          let l = (b.given t d).unaltered (ap (λ n. some_alters t (closes (line_of r frame) (take n part))) (sym same_taken) ∙ u) in
          (k.0 ∙ sym l.0, k.1 ∙ sym l.1, k.2 ∙ sym l.2);
      refused = refused_both;
    }

  agree_refused : met entries pool c r frame out ≡ none → AgreeGiven entries pool c r frame part out q p entries₁ entries₂ pool₁ pool₂ frame₁ frame₂ out₁ out₂
  agree_refused n =
      let z = refused_both n in
      let e = z.0 in let f = z.1 in let g = z.2 in let h = z.3 in
      record {
        answers = a.answered ∙ sym b.answered;
        taken = ap (λ (x : Given). x.taken) e;
        written = ap (λ (x : Given). x.written) e;
        replies = z.4;
        lines_read = rw (e, h);
        states = rw (e, f, g);
        carried = same_alike (ap (λ (x : Given). x.carried) e);
        words = λ s d u. (f, g, ap (λ (x : Given). x.carried) e);
        refused = refused_both;
      }

  pub same_given : AgreeGiven entries pool c r frame part out q p entries₁ entries₂ pool₁ pool₂ frame₁ frame₂ out₁ out₂
  same_given = by_met (met entries pool c r frame out) refl
    where
      by_met : (m : Option State) → met entries pool c r frame out ≡ m →
          AgreeGiven entries pool c r frame part out q p entries₁ entries₂ pool₁ pool₂ frame₁ frame₂ out₁ out₂
      by_met (some s) e = agree_met s e
      by_met none e = agree_refused e

-- of `end`: they are equal, and so is every byte of the out buffer
pub same_end : (r : Reader) (out : List ℕ) (q p : Ended) (out₁ out₂ : List ℕ) → Ending r out q out₁ → Ending r out p out₂ → (q ≡ p) × (out₁ ≡ out₂)
same_end r out q p out₁ out₂ a b = by_cases (may_end r out)
    (λ t.
    let v = a.wrote t in
    let w = b.wrote t in
    let n = v.place ∙ sym w.place in
    let front = v.bytes ∙ sym w.bytes in
    let rest : drop q.written out₁ ≡ drop p.written out₂ = v.behind ∙ ap (λ k. drop k out) n ∙ sym w.behind in (
      alike n,
      sym (take-append-drop q.written out₁) ∙ ap (λ o. o ++ drop q.written out₁) front ∙ ap (λ o. take p.written out₂ ++ o) rest
          ∙ take-append-drop p.written out₂,
    ))
    (λ f. let v = a.left f in let w = b.left f in (alike (v.0 ∙ sym w.0), v.1 ∙ sym w.1))
  where
    alike : q.written ≡ p.written → q ≡ p
    alike n = let e = a.answered ∙ sym b.answered in ap₂ (λ x y. record { answer = x; written = y }) e n

-- ---- 2. code and detail are the paper's

pub opening_code : (vars : ℕ) (entries : List Entry) (pool : List ℤ) (r : Called) → Opening vars entries pool r →
    numbers r.answer ≡ opening_numbers (check_open vars (length entries) (length pool))
opening_code vars entries pool r o = ap (λ (x : Called). numbers x.answer) o.called ∙ by_check (check_open vars (length entries) (length pool))
  where
    by_check : (k : Check) → numbers (opened_with vars k).answer ≡ opening_numbers k
    by_check (Ok tt) = refl
    by_check (Err e) = refl

pub step_code : {entries : List Entry} {pool : List ℤ} {c : Carried} {frame : List ℤ} {model : List ℕ} {r : Called} {entries' : List Entry} {pool' : List ℤ}
    {model' : List ℕ} →
    Stepping entries pool c frame model r entries' pool' model' → numbers r.answer ≡ code_and_detail (outcome_of entries pool c frame model)
step_code {entries} {pool} {c} {frame} {model} s = ap numbers s.answered ∙ by_said (outcome_of entries pool c frame model)
  where
    by_said : (x : Option Outcome) → numbers (answer_to x) ≡ code_and_detail x
    by_said (some o) = refl
    by_said none = refl

-- of `give` and `end`: (0, 0), or (1, 0); the answers to lines stand in the out buffer
pub given_code : {entries : List Entry} {pool : List ℤ} {c : Carried} {r : Reader} {frame : List ℤ} {part out : List ℕ} {q : Given} {entries' : List Entry}
    {pool' : List ℤ} {frame' : List ℤ} {out' : List ℕ} →
    Giving entries pool c r frame part out q entries' pool' frame' out' → numbers q.answer ≡ given_numbers (met entries pool c r frame out)
given_code {entries} {pool} {c} {r} {frame} {out = out} g = ap numbers g.answered ∙ by_met (met entries pool c r frame out)
  where
    by_met : (m : Option State) → numbers (given_to m) ≡ given_numbers m
    by_met (some s) = refl
    by_met none = refl

pub end_code : (r : Reader) (out : List ℕ) (q : Ended) (out' : List ℕ) → Ending r out q out' → numbers q.answer ≡ cond (may_end r out) (0, 0) (1, 0)
end_code r out q out' e = ap numbers e.answered ∙ by_cases (may_end r out) (λ t. rw t) (λ f. rw f)

-- ---- 3. tables of any bits that are a state spell one that obeys Terms

pub lent_obeys_terms : (entries : List Entry) (pool : List ℤ) (c : Carried) {s : State} → state_lent entries pool c ≡ some s → Terms s
lent_obeys_terms = lent_obeys
