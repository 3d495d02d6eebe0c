-- Any two outcomes that the promise of a call allows agree, in all that the state and what is read settle.
use mathlib.Core.Path.{◌≡◌, refl, sym, ap, ◌∙◌}
use mathlib.Core.Bool.{Bool}
use mathlib.Core.List.{List}
use mathlib.Core.Option.{Option, none, some, some-injective}
use Prim.Native.Nat.{ℕ}
use lib.IntN.{ℤ}
use lib.ListN.{length}
use Rattle.rules.specs.Terms.{State}
use Rattle.lent.specs.declared.Carried.{Carried}
use Rattle.lent_entries.specs.declared.Entry.{Entry}
use Rattle.lrat.specs.Machine.{Session}
use Rattle.call_lrat_parts.specs.Parts.{met, session, Rules, unopened, no_room, holding, rules_of, LratOpens, LratOpening, answer_so_far, LratGiving}
use Rattle.call_lrat_parts.specs.declared.ProofReading.{ProofReading}
use Rattle.call_lrat_parts.specs.declared.LratGiven.{LratGiven}

-- ---- opening: free is what the pool holds where there is no room, and where entries and literals lie

abbrev pub AgreeOpened : Rules → LratGiven → LratGiven → List Entry → List Entry → List ℤ → List ℤ → Type 0
AgreeOpened (unopened a) q p entries₁ entries₂ pool₁ pool₂ = (q ≡ p) × (entries₁ ≡ entries₂) × (pool₁ ≡ pool₂)
AgreeOpened (no_room code vars) q p entries₁ entries₂ pool₁ pool₂ = (q ≡ p) × (entries₁ ≡ entries₂)
AgreeOpened (holding s) q p entries₁ entries₂ pool₁ pool₂ =
    (q.answer ≡ p.answer) × (met entries₁ pool₁ q.carried q.reading ≡ met entries₂ pool₂ p.carried p.reading)
    × (session q.reading s ≡ session p.reading s)

module _ (entries : List Entry) (pool : List ℤ) (c : Carried) (r : ProofReading) where
  opened_so : (k : Rules) (q p : LratGiven) (entries₁ entries₂ : List Entry) (pool₁ pool₂ : List ℤ) → LratOpens k entries pool c r q entries₁ pool₁ →
      LratOpens k entries pool c r p entries₂ pool₂ → AgreeOpened k q p entries₁ entries₂ pool₁ pool₂
  opened_so (unopened a) q p entries₁ entries₂ pool₁ pool₂ x y = (x.0 ∙ sym y.0, x.1 ∙ sym y.1, x.2 ∙ sym y.2)
  opened_so (no_room code vars) q p entries₁ entries₂ pool₁ pool₂ x y = (x.0 ∙ sym y.0, x.1 ∙ sym y.1)
  opened_so (holding s) q p entries₁ entries₂ pool₁ pool₂ x y = (x.0 ∙ sym y.0, x.1 ∙ sym y.1, x.2 ∙ sym y.2)

  pub opens_agree : (cnf : List ℕ) (q p : LratGiven) (entries₁ entries₂ : List Entry) (pool₁ pool₂ : List ℤ) → LratOpening entries pool c r cnf q entries₁ pool₁ →
      LratOpening entries pool c r cnf p entries₂ pool₂ → AgreeOpened (rules_of (length entries) (length pool) cnf) q p entries₁ entries₂ pool₁ pool₂
  opens_agree cnf q p entries₁ entries₂ pool₁ pool₂ x y =
      opened_so (rules_of (length entries) (length pool) cnf) q p entries₁ entries₂ pool₁ pool₂ x.opens y.opens

-- ---- a part: free is where entries and literals lie, and what the buffers hold behind what is kept

pub record AgreeGiven (q p : LratGiven) (entries₁ entries₂ : List Entry) (pool₁ pool₂ : List ℤ) : Type 0 where
  pub answers : q.answer ≡ p.answer
  pub states : met entries₁ pool₁ q.carried q.reading ≡ met entries₂ pool₂ p.carried p.reading
  pub sessions : (s : State) → met entries₁ pool₁ q.carried q.reading ≡ some s → session q.reading s ≡ session p.reading s

module _ (entries : List Entry) (pool : List ℤ) (c : Carried) (r : ProofReading) (part : List ℕ) (last : Bool) (q p : LratGiven)
    (entries₁ entries₂ : List Entry) (pool₁ pool₂ : List ℤ) (x : LratGiving entries pool c r part last q entries₁ pool₁)
    (y : LratGiving entries pool c r part last p entries₂ pool₂) where
  on_state : (s : State) → met entries pool c r ≡ some s → AgreeGiven q p entries₁ entries₂ pool₁ pool₂
  on_state s e =
      let a = x.given s e in
      let b = y.given s e in
      let same : a.after ≡ b.after = a.fed ∙ sym b.fed in
      let state = ap (λ (m : Session). m.state) same in
      record {
        answers = a.answered ∙ ap answer_so_far same ∙ sym b.answered;
        states = a.spells ∙ ap some state ∙ sym b.spells;
        sessions = λ t k.
            let is : a.after.state ≡ t = some-injective a.after.state t (sym a.spells ∙ k) in
            ap (session q.reading) (sym is) ∙ a.reads ∙ same ∙ sym b.reads ∙ ap (session p.reading) (sym state ∙ is);
      }

  on_none : met entries pool c r ≡ none → AgreeGiven q p entries₁ entries₂ pool₁ pool₂
  on_none e =
      let (a, f, k) = x.left e in
      let (b, g, l) = y.left e in
      rw (a, b, f, g, k, l) (record { answers = refl; states = refl; sessions = λ s h. refl })

  pub gives_agree : AgreeGiven q p entries₁ entries₂ pool₁ pool₂
  gives_agree = by_met (met entries pool c r) refl
    where
      by_met : (o : Option State) → met entries pool c r ≡ o → AgreeGiven q p entries₁ entries₂ pool₁ pool₂
      by_met (some s) e = on_state s e
      by_met none e = on_none e
