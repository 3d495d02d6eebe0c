-- What holds of the archive's calls on proofs: any two outcomes agree in their numbers, and an accepted proof has no model.
use mathlib.Core.Path.{◌≡◌, sym, ap, ◌∙◌}
use mathlib.Core.List.{List}
use Prim.Native.Nat.{ℕ}
use lib.IntN.{ℤ}
use lib.ListN.{length}
use Rattle.dimacs.specs.Reading.{read_text}
use Rattle.lent.specs.declared.Carried.{Carried}
use Rattle.lent_entries.specs.declared.Entry.{Entry}
use Rattle.lrat.proofs.Sound.{NoModel}
use Rattle.call_lrat.proofs.Theorems.{accepted_has_no_model, checks_agree}
use Rattle.call_lrat_parts.specs.Parts.{Rules, unopened, no_room, holding, rules_of}
use Rattle.call_lrat_parts.specs.declared.LratGiven.{LratGiven}
use Rattle.call_lrat_parts.proofs.Agreement.{AgreeOpened, opens_agree, gives_agree}
use Rattle.library_back.specs.declared.Numbers.{Numbers}
use Rattle.library_proofs.specs.Handed.{lrat_numbers, is_set, reading_of}
use Rattle.library_proofs.specs.declared.ProofState.{ProofState}
use Rattle.library.specs.Proofs.{CheckExported, LratOpenExported, LratGiveExported}

-- ---- a proof whole: what is carried agrees too

module _ (entries : List Entry) (pool : List ℤ) (c : Carried) (cnf proof : List ℕ) where
  pub exported_checks_agree : {r r' : Numbers} {pool₁ pool₂ : List ℤ} {c₁ c₂ : Carried} → CheckExported entries pool c cnf proof r pool₁ c₁ →
      CheckExported entries pool c cnf proof r' pool₂ c₂ → (r ≡ r') × (c₁ ≡ c₂)
  exported_checks_agree x y =
      let a = checks_agree entries pool c cnf proof x.promised y.promised in
      (x.answered ∙ ap lrat_numbers a.answer ∙ sym y.answered, x.handed_back ∙ a.carried ∙ sym y.handed_back)

  pub exported_has_no_model : {r : Numbers} {pool' : List ℤ} {c' : Carried} → CheckExported entries pool c cnf proof r pool' c' → r.code ≡ 0 →
      NoModel (read_text cnf)
  exported_has_no_model x e =
      accepted_has_no_model entries pool c cnf proof x.promised (ap (λ (n : Numbers). n.code) (sym x.answered) ∙ e)

-- ---- in parts

answers_of : (k : Rules) (q p : LratGiven) (entries₁ entries₂ : List Entry) (pool₁ pool₂ : List ℤ) → AgreeOpened k q p entries₁ entries₂ pool₁ pool₂ →
    q.answer ≡ p.answer
answers_of (unopened a) q p entries₁ entries₂ pool₁ pool₂ e = ap (λ (g : LratGiven). g.answer) e.0
answers_of (no_room code vars) q p entries₁ entries₂ pool₁ pool₂ e = ap (λ (g : LratGiven). g.answer) e.0
answers_of (holding t) q p entries₁ entries₂ pool₁ pool₂ e = e.0

module _ (entries : List Entry) (pool : List ℤ) (c : Carried) (s : ProofState) (entries₁ entries₂ : List Entry) (pool₁ pool₂ : List ℤ) where
  pub exported_opens_agree : (cnf : List ℕ) {r r' : Numbers} {c₁ c₂ : Carried} {s₁ s₂ : ProofState} →
      LratOpenExported entries pool c s cnf r entries₁ pool₁ c₁ s₁ → LratOpenExported entries pool c s cnf r' entries₂ pool₂ c₂ s₂ → r ≡ r'
  exported_opens_agree cnf x y =
      let k = rules_of (length entries) (length pool) cnf in
      let a = opens_agree entries pool c (reading_of s) cnf x.given y.given entries₁ entries₂ pool₁ pool₂ x.promised y.promised in
      x.answered ∙ ap lrat_numbers (answers_of k x.given y.given entries₁ entries₂ pool₁ pool₂ a) ∙ sym y.answered

  pub exported_gives_agree : (part : List ℕ) (last : ℕ) {r r' : Numbers} {c₁ c₂ : Carried} {s₁ s₂ : ProofState} →
      LratGiveExported entries pool c s part last r entries₁ pool₁ c₁ s₁ → LratGiveExported entries pool c s part last r' entries₂ pool₂ c₂ s₂ → r ≡ r'
  exported_gives_agree part last x y =
      let a = gives_agree entries pool c (reading_of s) part (is_set last) x.given y.given entries₁ entries₂ pool₁ pool₂ x.promised y.promised in
      x.answered ∙ ap lrat_numbers a.answers ∙ sym y.answered
