-- A word, and a number by the line's phase: what is read of each is the machine's step.
use mathlib.Core.Path.{◌≡◌, refl, sym, ◌∙◌, ap}
use mathlib.Core.Bool.{Bool, true, false, ◌||◌}
use mathlib.Core.List.{List}
use Prim.Native.Nat.{ℕ, zero, suc, ◌≤◌, ◌<◌}
use native.Mathlib.Omega.{arith}
use lib.Dec.{eqb}
use lib.IntN.{ℤ}
use lib.ListN.{take}
use borrow.Author.Tests.{eq-eqb, ne_eqb}
use Rattle.rules.specs.Terms.{State}
use Rattle.lit_sets.specs.Words.{set_of}
use Rattle.table.specs.Spelled.{Row, spelled, Fit}
use Rattle.table.specs.declared.Table.{Table}
use Rattle.lrat.specs.Kept.{Keeps, read_with}
use Rattle.lrat.specs.Machine.{Reading, Step, step, noting, note, in_phase, take_id, id_said, among_literals, among_hints, among_ids, take_number, take_word}
use Rattle.lrat.specs.declared.LineWord.{LineWord}
use Rattle.lrat.specs.declared.LineWord.TheVariants.{Number, Deletion, Other}
use Rattle.lrat.specs.declared.ProofLine.{ProofLine}
use Rattle.lrat_line.specs.Lines.{reading, LineRead, literal_or_end, HintTaken, hint_or_end, DeletedTaken, Takes}
use Rattle.lrat_line.specs.declared.Taken.{Taken}

-- ---- the phase

one_or_two : (p : ℕ) → (p ≡ 0 → ⊥) → p < 3 → (eqb p 1 || eqb p 2) ≡ true
one_or_two zero n h = absurd (n refl)
one_or_two (suc zero) n h = refl
one_or_two (suc (suc zero)) n h = refl
one_or_two (suc (suc (suc p))) n h = absurd (omega arith)

module _ (s : State) (minus : Bool) (v : ℕ) (r : Reading) where
  abbrev p : ℕ
  p = r.line.phase

  at_id : p ≡ 0 → take_number s minus v r ≡ step s (take_id minus v r)
  unfolding take_number
  at_id e = let a = eq-eqb p 0 e in rw a

  at_literals : (p ≡ 0 → ⊥) → p < 3 → take_number s minus v r ≡ among_literals s minus v r
  unfolding take_number
  at_literals n h =
      let a = ne_eqb p 0 n in
      let b = one_or_two p n h in
      rw (a, b)

  module _ (h : 3 ≤ p) where
    past_literals : (eqb p 0 ≡ false) × (eqb p 1 ≡ false) × (eqb p 2 ≡ false)
    past_literals = (ne_eqb p 0 (λ z. omega arith), ne_eqb p 1 (λ z. omega arith), ne_eqb p 2 (λ z. omega arith))

    at_hints : p ≡ 3 → take_number s minus v r ≡ among_hints s minus v r
    unfolding take_number
    at_hints e =
        let a = past_literals in
        let b = eq-eqb p 3 e in
        rw (a.0, a.1, a.2, b)

    module _ (n : p ≡ 3 → ⊥) where
      at_ids : p ≡ 5 → take_number s minus v r ≡ among_ids s minus v r
      unfolding take_number
      at_ids e =
          let a = past_literals in
          let b = ne_eqb p 3 n in
          let c = eq-eqb p 5 e in
          rw (a.0, a.1, a.2, b, c)

      elsewhere : (p ≡ 5 → ⊥) → take_number s minus v r ≡ step s (note 31 r)
      unfolding take_number
      elsewhere m =
          let a = past_literals in
          let b = ne_eqb p 3 n in
          let c = ne_eqb p 5 m in
          rw (a.0, a.1, a.2, b, c)

-- ---- what is kept stays

module _ (l r : ProofLine) (lits : List ℤ) (e : r.count ≡ l.count) where
  keeps_on : Keeps l lits → Keeps r lits
  keeps_on k = record {
    long = k.long;
    few = omega (arith, e, k.few);
    ranged = rw e k.ranged;
  }

  reading_on : (P M : List ℕ) → reading r lits P M ≡ read_with r (take l.count lits) (set_of P M)
  reading_on P M = rw e

-- ---- from a line with what goes with it

module _ {t : Table} {rows : List Row} {pool : List ℤ} {stack : List ℕ} (f : Fit t rows pool stack) (l : ProofLine) (lits : List ℤ) (k : Keeps l lits)
    (P M : List ℕ) where
  abbrev s : State
  s = spelled t rows pool stack

  abbrev before : Reading
  before = reading l lits P M

  -- the tables and the literals stay
  line_on : (r : ProofLine) {P' M' : List ℕ} {whole : Step} → r.count ≡ l.count → step s (read_with r (take l.count lits) (set_of P' M')) ≡ whole →
      Takes whole (record { table = t; line = r }) rows pool stack lits P' M'
  line_on r {P'} {M'} e q = record { fit = f; keeps = keeps_on l r lits e k; taken = ap (step s) (reading_on l r lits e P' M') ∙ q }

  -- ---- a number

  module _ (minus : Bool) (v : ℕ) where
    -- the id of the line
    pub number_id : {i : ℕ} → l.phase ≡ 0 → i ≡ id_said minus v →
        Takes (take_number s minus v before)
        (record { table = t; line = record { phase = 1; noted = l.noted; id = i; count = l.count; proof = l.proof } }) rows pool stack lits P M
    number_id z e = let q = at_id s minus v before z in rw e (line_on _ refl (sym q))

    pub number_literal : {r : ProofLine} {lits' : List ℤ} {P' M' : List ℕ} → (l.phase ≡ 0 → ⊥) → l.phase < 3 →
        LineRead (literal_or_end t.vars minus v before) r lits' P' M' →
        Takes (take_number s minus v before) (record { table = t; line = r }) rows pool stack lits' P' M'
    number_literal n h q = record { fit = f; keeps = q.keeps; taken = ap (step s) q.taken ∙ sym (at_literals s minus v before n h) }

    pub number_hint : {r : ProofLine} {P' M' : List ℕ} → l.phase ≡ 3 → HintTaken (hint_or_end s minus v) l P M r P' M' →
        Takes (take_number s minus v before) (record { table = t; line = r }) rows pool stack lits P' M'
    number_hint {r} e q = line_on r q.counted (ap (step s) (q.taken (take l.count lits)) ∙ sym (at_hints s minus v before (omega arith) e))

    pub number_deleted : {r : Taken} {rows' : List Row} → l.phase ≡ 5 → DeletedTaken (among_ids s minus v) pool stack l r rows' →
        Takes (take_number s minus v before) r rows' pool stack lits P M
    number_deleted {r} {rows'} e q = record {
      fit = q.fit;
      keeps = keeps_on l r.line lits q.counted k;
      taken =
          ap (step (spelled r.table rows' pool stack)) (reading_on l r.line lits q.counted P M) ∙ q.taken (take l.count lits) (set_of P M)
          ∙ sym (at_ids s minus v before (omega arith) (λ z. omega (arith, e, z)) e);
    }

    pub number_misplaced : {r : ProofLine} → 3 ≤ l.phase → (l.phase ≡ 3 → ⊥) → (l.phase ≡ 5 → ⊥) → r ≡ noting 31 l →
        Takes (take_number s minus v before) (record { table = t; line = r }) rows pool stack lits P M
    number_misplaced h n m e = let q = elsewhere s minus v before h n m in rw e (line_on _ refl (sym q))

    pub word_number : {w : LineWord} {r : Taken} {rows' : List Row} {lits' : List ℤ} {P' M' : List ℕ} → w ≡ Number minus v →
        Takes (take_number s minus v before) r rows' pool stack lits' P' M' → Takes (take_word s w before) r rows' pool stack lits' P' M'
    unfolding take_word
    word_number e q = rw e q

  -- ---- another word

  module _ {w : LineWord} {r : ProofLine} where
    -- d stands behind the id alone
    pub word_d : w ≡ Deletion → l.phase ≡ 1 → r ≡ in_phase 5 l → Takes (take_word s w before) (record { table = t; line = r }) rows pool stack lits P M
    unfolding take_word
    word_d d h e = let q = eq-eqb l.phase 1 h in rw (d, e, q) (line_on _ refl refl)

    pub word_misplaced : w ≡ Deletion → (l.phase ≡ 1 → ⊥) → r ≡ noting 31 l →
        Takes (take_word s w before) (record { table = t; line = r }) rows pool stack lits P M
    unfolding take_word
    word_misplaced d h e = let q = ne_eqb l.phase 1 h in rw (d, e, q) (line_on _ refl refl)

    pub word_other : w ≡ Other → r ≡ noting 31 l → Takes (take_word s w before) (record { table = t; line = r }) rows pool stack lits P M
    unfolding take_word
    word_other d e = rw (d, e) (line_on _ refl refl)
