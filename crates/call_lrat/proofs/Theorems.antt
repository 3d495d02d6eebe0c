-- What holds of the call, whatever is lent and handed in.
use mathlib.Core.Path.{◌≡◌, refl, sym, ap, ◌∙◌}
use mathlib.Core.List.{List}
use mathlib.Core.Option.{Option, none, some}
use Prim.Native.Nat.{ℕ}
use lib.IntN.{ℤ}
use lib.ListN.{length}
use Rattle.dimacs.specs.Reading.{read_text}
use Rattle.lent.specs.declared.Carried.{Carried}
use Rattle.lent_entries.specs.declared.Entry.{Entry}
use Rattle.lrat.specs.declared.LratAnswer.{LratAnswer}
use Rattle.lrat.proofs.Sound.{NoModel, no_model}
use Rattle.call_lrat.specs.Checks.{opens, Checks}
use Rattle.call_lrat.specs.declared.LratCalled.{LratCalled}

module _ (entries : List Entry) (pool : List ℤ) (c : Carried) (cnf proof : List ℕ) where
  -- "An accepted file means that the CNF has no model."
  pub accepted_has_no_model : {q : LratCalled} {pool' : List ℤ} → Checks entries pool c cnf proof q pool' → q.answer.code ≡ 0 → NoModel (read_text cnf)
  accepted_has_no_model k e = no_model (length entries) (length pool) cnf proof (ap (λ (a : LratAnswer). a.code) (sym k.answered) ∙ e)

  -- Any two outcomes agree in the answer and in what is carried, and in every word of the pool where nothing is opened. Free is what the pool holds of an empty
  -- state, which is no clause's.
  pub record Agree (q p : LratCalled) (pool₁ pool₂ : List ℤ) : Type 0 where
    pub answer : q.answer ≡ p.answer
    pub carried : q.carried ≡ p.carried
    pub words : opens (length entries) (length pool) cnf ≡ none → pool₁ ≡ pool₂

  pub checks_agree : {q p : LratCalled} {pool₁ pool₂ : List ℤ} → Checks entries pool c cnf proof q pool₁ → Checks entries pool c cnf proof p pool₂ →
      Agree q p pool₁ pool₂
  checks_agree {q} {p} k h = record {
    answer = k.answered ∙ sym h.answered;
    carried = same (opens (length entries) (length pool) cnf) (λ v e. (k.emptied v e).0 ∙ sym (h.emptied v e).0) (λ e. (k.left e).0 ∙ sym (h.left e).0);
    words = λ e. (k.left e).1 ∙ sym (h.left e).1;
  }
    where
      same : (o : Option ℕ) → ((v : ℕ) → o ≡ some v → q.carried ≡ p.carried) → (o ≡ none → q.carried ≡ p.carried) → q.carried ≡ p.carried
      same (some v) s n = s v refl
      same none s n = n refl
