-- SAT, answered. The walk down the stack changes no variable past V: so the variables that differ are counted over all 32 words.
use mathlib.Core.Path.{◌≡◌, refl, sym, ◌∙◌, ap}
use mathlib.Core.List.{List}
use Prim.Native.Nat.{ℕ}
use lib.IntN.{ℤ}
use Rattle.rules.specs.Frames.{Frame, SAT, offered, mend}
use Rattle.rules.specs.Answers.{check, differing}
use Rattle.rules.specs.declared.Fault.{Fault}
use Rattle.std.specs.Prelude.{Ok, Err}
use Rattle.rules.proofs.Past.{past_vars}
use Rattle.lit_sets.specs.Words.{assigned}
use Rattle.lit_sets.proofs.Counted.{differ_within}
use Rattle.table.specs.Spelled.{Row, spelled, Fit}
use Rattle.table.specs.declared.Table.{Table}
use Rattle.table.proofs.Obeys.{spelled_terms}
use Rattle.step_answers.specs.Answered.{AnswerOf}

module _ {t : Table} {rows : List Row} {pool : List ℤ} {stack : List ℕ} where
  pub sat_refused : (model : List ℕ) {f : Frame} {e : Fault} → check (spelled t rows pool stack) f ≡ Err e → AnswerOf t rows pool stack f (Err e) model model
  sat_refused model k = record { answered = rw k; handed = rw k refl }

  -- the words ow of the offered assignment, and mw of the mended one
  pub sat_accepted : Fit t rows pool stack → (assumed vs : List ℤ) → check (spelled t rows pool stack) (SAT assumed vs) ≡ Ok tt →
      (model ow mw : List ℕ) (n : ℕ) → assigned ow ≡ offered vs → assigned mw ≡ mend (assigned ow) (spelled t rows pool stack).stack →
      n ≡ differing (assigned ow) (assigned mw) 2048 →
      AnswerOf t rows pool stack (SAT assumed vs) (Ok n) model mw
  sat_accepted fit assumed vs q model ow mw n o m e =
      let rs = (spelled t rows pool stack).stack in
      let walked : assigned mw ≡ mend (offered vs) rs = m ∙ ap (λ α. mend α rs) o in
      let counted : n ≡ differing (offered vs) (mend (offered vs) rs) 2048 = e ∙ ap (λ α. differing α (assigned mw) 2048) o
      ∙ ap (λ β. differing (offered vs) β 2048) walked in
      let few = differ_within (offered vs) (mend (offered vs) rs) t.vars fit.vars_fit.1
      (λ v h. sym (past_vars (spelled t rows pool stack) (spelled_terms fit).stack (offered vs) v h)) in
      record { answered = rw q (ap Ok (counted ∙ few)); handed = rw q walked }
