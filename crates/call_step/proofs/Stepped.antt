-- From a frame on the rows taken in, and the rows put back, to what the call promises of what is lent.
use mathlib.Core.Path.{◌≡◌, refl, sym, ap, subst, ◌∙◌}
use mathlib.Core.Bool.{true, false, true≢false}
use mathlib.Core.List.{List, map}
use mathlib.Core.Option.{Option, none, some}
use Prim.Native.Nat.{ℕ}
use native.Mathlib.Omega.{arith}
use lib.Dec.{eqb}
use lib.IntN.{ℤ}
use lib.ListN.{length, take}
use Rattle.rules.specs.Terms.{State}
use Rattle.rules.specs.Frames.{Parsed, parse}
use Rattle.rules.specs.Answers.{untouched, Outcome, outcome, is_change, altered, lent}
use Rattle.rules.specs.Results.{Answer}
use Rattle.std.specs.Prelude.{Ok, Err}
use Rattle.rules.specs.declared.Fault.{Fault}
use Rattle.rules.proofs.Lists.{by_cases, and_left, and_right, and_both}
use Rattle.rules.proofs.Lasting.{refused_hands}
use Rattle.table_slices.specs.Writes.{over}
use Rattle.table.specs.Spelled.{Row}
use Rattle.step_answers.specs.Answered.{ModelWritten}
use Rattle.lent_entries.specs.Lent.{entry_of, row_of, taken, state_lent}
use Rattle.lent_entries.specs.declared.Entry.{Entry}
use Rattle.lent_entries.proofs.Lending.{taken_spells, put_unaltered, put_spells}
use Rattle.lent.specs.State.{state_carried}
use Rattle.lent.specs.declared.Carried.{Carried}
use Rattle.lent.specs.declared.Called.{Called}
use Rattle.call_step.specs.Calls.{judged, outcome_of, answer_to, handed_by, Stepping}
use Rattle.call_step.specs.Running.{Running, StepRun, step_sized}
use Rattle.lent_entries.specs.declared.Ran.{Ran}
use Rattle.call_step.proofs.Sizes.{sizes}

-- ---- what the paper said

-- it spoke of a state
spoken : (x : Option State) (frame : List ℤ) (o : Outcome) → judged true x frame ≡ some o → (s : State) × (x ≡ some s) × (o ≡ outcome s frame)
spoken (some s) frame o e = (s, refl, cc)
spoken none frame o e = let z : ◌≡◌ {A = ℕ} 0 1 = cc in absurd (omega arith)

-- a refusal hands out nothing, code 1 neither
refused_hands_nothing : (x : Option State) (frame : List ℤ) (e : Fault) → answer_to (judged true x frame) ≡ Err e →
    handed_by (judged true x frame) ≡ untouched
refused_hands_nothing (some s) frame e q = refused_hands s frame e q
refused_hands_nothing none frame e q = refl

-- a refused frame, SAT and UNSAT are no accepted changes
no_change : (p : Parsed) (a : Answer) → is_change p ≡ false → altered p a ≡ false
no_change p (Ok n) e = e
no_change p (Err x) e = refl

module _ (entries : List Entry) (pool : List ℤ) (c : Carried) (frame : List ℤ) (model : List ℕ) (r : Ran Called) (rows' : List Row) (entries' : List Entry)
    (pool' : List ℤ) (model' : List ℕ)
    (ran : StepRun (length entries) (taken entries c.count) pool c frame model r rows' pool' model')
    (put : entries' ≡ over entries (map entry_of (take r.count rows'))) (put_rows : map row_of entries' ≡ over (map row_of entries) (take r.count rows'))
    (same_entries : length entries' ≡ length entries) (same_pool : length pool' ≡ length pool) (same-model : length model' ≡ length model) where
  -- where the call left what was taken in
  none_put : r.count ≡ 0 → entries' ≡ entries
  none_put z = put ∙ ap (λ n. over entries (map entry_of (take n rows'))) z

  -- ---- in range

  module _ (t : step_sized (length entries) pool model ≡ true) where
    fits : lent (length entries) (length pool) ≡ true
    fits = and_left (lent (length entries) (length pool)) (eqb (length model) 32) t

    buffer : eqb (length model) 32 ≡ true
    buffer = and_right (lent (length entries) (length pool)) (eqb (length model) 32) t

    abbrev own : Option State
    own = state_carried c (take (length entries) (taken entries c.count)) pool

    run : Running (length entries) (take (length entries) (taken entries c.count)) c pool frame model r rows' pool' model'
    run = ran.judged_so t

    own_is : state_lent entries pool c ≡ own
    own_is = let f = fits in rw f (sym (taken_spells c entries pool (sizes (length entries) pool model t).0))

    said_so : outcome_of entries pool c frame model ≡ judged true own frame
    said_so = let b = buffer in let e = own_is in rw (b, e)

    -- nothing goes back where the frame was no accepted change, or the rows were no state
    unaltered : altered (parse frame) r.given.answer ≡ false → (entries' ≡ entries) × (pool' ≡ pool) × (r.given.carried ≡ c)
    unaltered n = by_state own refl
      where
        by_state : (x : Option State) → own ≡ x → (entries' ≡ entries) × (pool' ≡ pool) × (r.given.carried ≡ c)
        by_state (some s) e = put_unaltered entries entries' (run.back s e) put n
        by_state none e = let q = run.left e in (none_put (ap (λ (y : Ran Called). y.count) q.0), q.1, ap (λ (y : Ran Called). y.given.carried) q.0)

    in_range : Stepping entries pool c frame model r.given entries' pool' model'
    in_range = record {
      answered = run.answered ∙ sym (ap answer_to said_so);
      state = λ o e.
          let z = spoken own frame o (sym said_so ∙ e) in
          put_spells entries entries' (run.back z.0 z.1) put put_rows same_entries same_pool fits (own_is ∙ z.1)
          ∙ ap (λ (x : Outcome). some x.state) (sym z.2);
      handed = rw said_so run.handed;
      sized = same-model;
      refused = λ e q.
          let u = unaltered (ap (altered (parse frame)) q) in
          let h = refused_hands_nothing own frame e (sym run.answered ∙ q) in
          (u.0, u.1, u.2, subst (λ x. ModelWritten x model model') h run.handed);
      tables_left = λ n. unaltered (no_change (parse frame) r.given.answer n);
    }

  -- ---- out of range

  module _ (f : step_sized (length entries) pool model ≡ false) where
    unsaid : outcome_of entries pool c frame model ≡ none
    unsaid = by_cases (eqb (length model) 32)
        (λ b. by_cases (lent (length entries) (length pool)) (λ l. absurd (true≢false (sym (and_both l b) ∙ f))) (λ l. rw (b, l)))
        (λ b. rw b)

    out_of_range : Stepping entries pool c frame model r.given entries' pool' model'
    out_of_range =
        let q = ran.refused f in
        let e = q.0 in
        let u = unsaid in
        let same = none_put (ap (λ (x : Ran Called). x.count) e) in
        let carried = ap (λ (x : Ran Called). x.given.carried) e in
        record {
          answered = rw (e, u);
          state = λ o d. let z : ◌≡◌ {A = ℕ} 0 1 = cc in absurd (omega arith);
          handed = rw u q.2;
          sized = same-model;
          refused = λ x d. (same, q.1, carried, q.2);
          tables_left = λ n. (same, q.1, carried);
        }

  pub steps_lent : Stepping entries pool c frame model r.given entries' pool' model'
  steps_lent = by_cases (step_sized (length entries) pool model) in_range out_of_range

-- ---- what the promise leaves

-- what is no accepted change leaves every lent word and what is carried
pub unaltered_left : {entries : List Entry} {pool : List ℤ} {c : Carried} {frame : List ℤ} {model : List ℕ} {r : Called} {entries' : List Entry}
    {pool' : List ℤ} {model' : List ℕ} →
    Stepping entries pool c frame model r entries' pool' model' → altered (parse frame) r.answer ≡ false →
    (entries' ≡ entries) × (pool' ≡ pool) × (r.carried ≡ c)
unaltered_left {entries} {pool} {c} {frame} {r = r} {entries' = entries'} {pool' = pool'} s n = by_answer r.answer refl n
  where
    by_answer : (a : Answer) → r.answer ≡ a → altered (parse frame) a ≡ false → (entries' ≡ entries) × (pool' ≡ pool) × (r.carried ≡ c)
    by_answer (Ok k) e u = s.tables_left u
    by_answer (Err x) e u = let l = s.refused x e in (l.0, l.1, l.2)
