-- A hint: what it names among the rows held, and what reading its clause comes to.
use mathlib.Core.Path.{◌≡◌, refl, sym, ◌∙◌, ap}
use mathlib.Core.Bool.{Bool, not, cond}
use mathlib.Core.List.{List}
use Prim.Native.Nat.{ℕ, ◌≤◌, ◌<◌}
use native.Mathlib.Omega.{arith}
use lib.IntN.{ℤ, pos, neg_ℤ}
use borrow.Author.Tests.{eq-eqb, ne_eqb, le-leb}
use Rattle.rules.specs.Terms.{Literals, everything}
use Rattle.rules.specs.Propagation.{nobody, clause, Allowed, among, Looked, conflict, forced, bad, judge, also}
use Rattle.lit_sets.specs.Words.{set_of}
use Rattle.table.specs.Spelled.{Row, row_at, id_of, place_of, clause_part, held_rows, spelled, Readable, Located, Fit}
use Rattle.table.specs.declared.Table.{Table}
use Rattle.std.specs.Prelude.{Some, None}
use Rattle.table.proofs.Readers.{readable}
use Rattle.judge_propagate.specs.Scope.{permits, all_clauses, allowed_of}
use Rattle.judge_propagate.proofs.Allowed.{permits_far, permits_near, names_none, names_at}
use Rattle.judge_propagate.proofs.Scopes.{allows_all}
use Rattle.lrat.specs.Kept.{read_with}
use Rattle.lrat.specs.Machine.{deciding, looked_at, take_hint}
use Rattle.lrat.specs.declared.ProofLine.{ProofLine}
use Rattle.lrat_line.specs.Lines.{HintTaken}

-- ---- what it names

module _ {rows : List Row} {pool : List ℤ} (t : Readable rows pool) (id : ℕ) where
  pub names_nobody : Located rows id None → allowed_of all_clauses pool rows id ≡ nobody
  names_nobody = names_none rows all_clauses (pos id) t.positive pool

  module _ (k : ℕ) (l : Located rows id (Some k)) {p : ℕ} (e : p ≡ place_of (row_at rows k)) where
    abbrev row : Row
    row = row_at rows k

    names : {b : Bool} → permits all_clauses row ≡ b → allowed_of all_clauses pool rows id ≡ cond b (clause (clause_part pool row)) nobody
    names q = names_at rows all_clauses (pos id) t.positive pool k t.rising l ∙ ap (λ b. cond b (clause (clause_part pool row)) nobody) q

    -- a clause that is gone
    pub names_gone : 2 < p → allowed_of all_clauses pool rows id ≡ nobody
    names_gone h = names (permits_far all_clauses row e h)

    -- no row has the id 0, which the scope leaves out
    pub names_clause : p ≤ 2 → allowed_of all_clauses pool rows id ≡ clause (clause_part pool row)
    names_clause h =
        let n = ne_eqb (id_of row) 0 (λ z. omega (arith, t.positive k l.0, z)) in
        names (permits_near all_clauses row e (omega arith) refl (ap not n))

-- ---- what it does to the line

module _ {t : Table} {rows : List Row} {pool : List ℤ} {stack : List ℕ} (f : Fit t rows pool stack) (v : ℕ) (l : ProofLine)
    (plus minus : List ℕ) where
  abbrev A : Allowed
  A = among (everything (spelled t rows pool stack))

  abbrev F : Literals
  F = set_of plus minus

  module _ (z : l.proof ≡ 0) where
    module _ (h : v ≤ 2147483647) where
      -- the clause among the rows held, where F is false
      abbrev looked : Looked
      looked = judge F (allowed_of all_clauses pool (held_rows t rows) v)

      looks : (r : Looked) → looked ≡ r → (lits : List ℤ) → take_hint A v (read_with l lits F) ≡ looked_at r (read_with l lits F)
      looks r e lits =
          let q = eq-eqb l.proof 0 z in
          let p = le-leb v 2147483647 h in
          rw (q, p)
          (ap (λ (B : Allowed). looked_at (judge F (B v)) (read_with l lits F)) (sym (allows_all refl (readable f) f.core.listed))
          ∙ ap (λ (x : Looked). looked_at x (read_with l lits F)) e)

      module _ {plus' minus' : List ℕ} where
        pub hint_conflict : (looked ≡ conflict) × (set_of plus' minus' ≡ F) → HintTaken (take_hint A v) l plus minus (deciding 1 l) plus' minus'
        hint_conflict q = record { counted = refl; taken = λ lits. ap (read_with (deciding 1 l) lits) q.1 ∙ sym (looks conflict q.0 lits) }

        pub hint_forced : (u : ℤ) × (looked ≡ forced u) × (set_of plus' minus' ≡ also (neg_ℤ u) F) → HintTaken (take_hint A v) l plus minus l plus' minus'
        hint_forced q = record { counted = refl; taken = λ lits. ap (read_with l lits) q.2 ∙ sym (looks (forced q.0) q.1 lits) }

        pub hint_bad : (looked ≡ bad) × (set_of plus' minus' ≡ F) → HintTaken (take_hint A v) l plus minus (deciding 2 l) plus' minus'
        hint_bad q = record { counted = refl; taken = λ lits. ap (read_with (deciding 2 l) lits) q.1 ∙ sym (looks bad q.0 lits) }
