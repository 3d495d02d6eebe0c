-- From what filling the tables, feeding the proof and opening promise to what checking does over a table of n entries.
use mathlib.Core.Path.{◌≡◌, refl, sym, ap, ◌∙◌}
use mathlib.Core.Bool.{true, false}
use mathlib.Core.List.{List}
use mathlib.Core.Option.{some-injective, none-ne-some, some-ne-none}
use Prim.Native.Nat.{ℕ, ◌≤◌}
use native.Mathlib.Omega.{arith}
use lib.IntN.{ℤ}
use lib.ListN.{length, replicate}
use borrow.Author.Tests.{lt-ltb, le-leb}
use Rattle.rules.specs.Terms.{State, in_range}
use Rattle.rules.specs.Answers.{◌then◌, need, lent, check_open}
use Rattle.std.specs.Prelude.{Ok, Err}
use Rattle.rules.proofs.Lists.{all_nil}
use Rattle.lit_sets.proofs.Sets.{zeros_empty}
use Rattle.table.specs.Spelled.{Row, spelled, Fit}
use Rattle.table.specs.declared.Table.{Table}
use Rattle.dimacs.specs.Reading.{Read, faulty, sound, Cnf, fault_numbers, read_text}
use Rattle.dimacs.specs.declared.TextFault.{TextFault}
use Rattle.dimacs.proofs.Bodies.{text_body}
use Rattle.lent.specs.declared.Carried.{Carried}
use Rattle.lent_entries.specs.declared.Entry.{Entry}
use Rattle.lent_open.specs.Opened.{opened_with}
use Rattle.lent_open.proofs.Spells.{opened_spells}
use Rattle.lrat.specs.Checking.{answer, check_proof, opened_for, lrat}
use Rattle.lrat.specs.Machine.{Session, started, run, finish, told}
use Rattle.lrat.specs.declared.LratAnswer.{LratAnswer}
use Rattle.lrat.specs.declared.ProofReader.{ProofReader}
use Rattle.lrat.proofs.Runs.{run_is_the_proof}
use Rattle.lrat.proofs.Whole.{filled_size}
use Rattle.lrat_feed.specs.Feeding.{start_reader, session_of, Feedable}
use Rattle.lrat_fill.specs.Filling.{Fills}
use Rattle.lrat_fill.specs.declared.Unfilled.TheVariants.{Faulty, Full}
use Rattle.call_lrat.specs.Checks.{called_empty, ChecksLent, Checks}
use Rattle.call_lrat.specs.declared.LratCalled.{LratCalled}

-- ---- the proof

-- nothing of it is read, and no literal is false
pub start_run : {r : ProofReader} {plus minus : List ℕ} → r ≡ start_reader → (plus ≡ replicate 32 0) × (minus ≡ replicate 32 0) → (lits : List ℤ) (s : State)
    (proof : List ℕ) → run (session_of r lits plus minus s) proof ≡ run (started s) proof
start_run e z lits s proof = let n = zeros_empty in rw (e, z.0, z.1, n) refl

pub start_feedable : {t : Table} {rows : List Row} {pool : List ℤ} {stack : List ℕ} {r : ProofReader} {lits : List ℤ} → r ≡ start_reader → length lits ≡ 256 →
    Fit t rows pool stack → Feedable t rows pool stack r lits
start_feedable e l f = rw e (record { fit = f; keeps = record { long = l; few = omega arith; ranged = all_nil (in_range 2048) }; noted = omega arith })

-- fed whole, and ended
pub whole_told : (s : State) → s.vars ≤ 2048 → (proof : List ℕ) {m n : Session} → m ≡ run (started s) proof → n ≡ finish m → {a : LratAnswer} → a ≡ told n →
    a ≡ check_proof s proof
whole_told s h proof f e q = q ∙ ap told (e ∙ ap finish f) ∙ run_is_the_proof s h proof

-- ---- over a table of n entries

module _ (n : ℕ) (pool : List ℤ) (c : Carried) (cnf proof : List ℕ) where
  abbrev Result : LratCalled → List ℤ → Type 0
  Result q pool' = ChecksLent n pool c cnf proof q pool'

  pub out_of_range : lent n (length pool) ≡ false → Result (record { answer = answer 1 0; carried = c }) pool
  out_of_range f = record {
    answered = rw f refl;
    emptied = λ v e. absurd (none-ne-some v (rw f at e));
    left = λ e. (refl, refl);
  }

  module _ (t : lent n (length pool) ≡ true) where
    -- the text has a fault
    faulty_called : {f : TextFault} {pool' : List ℤ} → read_text cnf ≡ faulty f → pool' ≡ pool →
        Result (record { answer = answer (fault_numbers f).0 (fault_numbers f).1; carried = c }) pool'
    faulty_called e p = record {
      answered = rw (t, e) refl;
      emptied = λ v k. absurd (none-ne-some v (rw (t, e) at k));
      left = λ k. (refl, p);
    }

    module _ {x : Cnf} (read : read_text cnf ≡ sound x) where
      opens_so : check_open x.vars n (length pool) ≡ Ok tt
      unfolding check_open need ◌then◌
      opens_so =
          let b = text_body cnf read in
          rw (t, lt-ltb 0 x.vars (omega (arith, b.low)), le-leb x.vars 2048 b.high) refl

      -- whatever the answer, the tables are left empty
      emptied_called : {a : LratAnswer} {pool' : List ℤ} → a ≡ lrat n (length pool) cnf proof → length pool' ≡ length pool →
          Result (called_empty a x.vars n (length pool')) pool'
      emptied_called a l = record {
        answered = a;
        emptied = λ v k.
            let same : x.vars ≡ v = some-injective x.vars v (rw (t, read) at k) in
            let o = opens_so in
            rw (← same, l) (ap (λ k. (opened_with x.vars k).carried) o, o);
        left = λ k. absurd (some-ne-none x.vars (rw (t, read) at k));
      }

    -- what filling the tables came to
    module _ (rows' : List Row) (pool' : List ℤ) (stack : List ℕ) where
      pub faulty_checked : (rd : Read Cnf) → read_text cnf ≡ rd → (f : TextFault) → Fills n rd (Err (Faulty f)) rows' pool pool' stack →
          Result (record { answer = answer (fault_numbers f).0 (fault_numbers f).1; carried = c }) pool'
      faulty_checked (faulty g) e f k = let same : f ≡ g = cc in faulty_called {f = f} (rw same e) k.1
      faulty_checked (sound x) e f k = absurd k.fills

      pub full_checked : (rd : Read Cnf) → read_text cnf ≡ rd → (code vars : ℕ) → Fills n rd (Err (Full code vars)) rows' pool pool' stack →
          Result (called_empty (answer code 0) vars n (length pool')) pool'
      full_checked (faulty g) e code vars k = let z : ◌≡◌ {A = ℕ} 0 1 = cc in absurd (omega arith)
      full_checked (sound x) e code vars k = let v = k.fills.1 in rw v (emptied_called e (sym (rw (t, e, k.fills.0) refl)) k.kept)

      pub proof_checked : (rd : Read Cnf) → read_text cnf ≡ rd → (w : Table) → Fills n rd (Ok w) rows' pool pool' stack → {a : LratAnswer} →
          a ≡ check_proof (spelled w rows' pool' stack) proof → {pool'' : List ℤ} → length pool'' ≡ length pool' →
          Result (called_empty a w.vars n (length pool'')) pool''
      proof_checked (faulty g) e w k q l = let z : ◌≡◌ {A = ℕ} 0 1 = cc in absurd (omega arith)
      proof_checked (sound x) e w k q l =
          let v : w.vars ≡ x.vars = ap (λ y. y.vars) (filled_size x.clauses (opened_for n (length pool) x) 1 k.fills.1) in
          rw v (emptied_called e (q ∙ sym (rw (t, e, k.fills.1) refl)) (l ∙ k.kept))

-- the clauses are held
pub working_fits : (n : ℕ) (rd : Read Cnf) (w : Table) (rows' : List Row) (pool pool' : List ℤ) (stack : List ℕ) →
    Fills n rd (Ok w) rows' pool pool' stack → Fit w rows' pool' stack
working_fits n (faulty g) w rows' pool pool' stack k = let z : ◌≡◌ {A = ℕ} 0 1 = cc in absurd (omega arith)
working_fits n (sound x) w rows' pool pool' stack k = k.fills.0

-- ---- over lent entries

pub checks_lent : (entries : List Entry) (pool : List ℤ) (c : Carried) (cnf proof : List ℕ) {q : LratCalled} (pool' : List ℤ) → length pool' ≡ length pool →
    ChecksLent (length entries) pool c cnf proof q pool' → Checks entries pool c cnf proof q pool'
checks_lent entries pool c cnf proof pool' l k = record {
  answered = k.answered;
  emptied = λ v e.
      let (carried, passed) = k.emptied v e in
      (carried, rw carried (opened_spells v entries pool' refl l passed (sym (ap (opened_with v) passed))));
  left = k.left;
}
