-- The questions that a line is asked, one by one, and what each answer leaves of its number.
use mathlib.Core.Path.{◌≡◌, refl, sym, ◌∙◌}
use mathlib.Core.Bool.{Bool, true, false, not, ◌&&◌}
use mathlib.Core.List.{List}
use Prim.Native.Nat.{ℕ, ◌+◌, ◌≤◌, ◌<◌, min}
use native.Mathlib.Omega.{arith}
use lib.Dec.{eqb, ltb, leb}
use lib.IntN.{ℤ}
use lib.ListN.{length}
use borrow.Author.Tests.{lt-ltb, le-ltb, le-leb, lt-leb, ltb-true, leb-true, eqb-true}
use Rattle.rules.specs.Terms.{Literals, State, is_clause, null, everything, room}
use Rattle.rules.specs.Answers.{flaw, unseen}
use Rattle.rules.specs.Results.{Check}
use Rattle.std.specs.Prelude.{Ok, Err}
use Rattle.rules.specs.declared.Fault.{Fault}
use Rattle.rules.proofs.Lists.{by_cases, and_right, or-false, not-false}
use Rattle.rules.proofs.Checks.{clause_passes}
use Rattle.lrat.specs.Checking.{ask, ask_room}
use Rattle.lrat.specs.Kept.{read_with}
use Rattle.lrat.specs.Machine.{Reading, addition_fault, addition_code, line_code, is_addition, is_last}
use Rattle.lrat.specs.declared.ProofLine.{ProofLine}

-- ---- 31 to 36

pub not_clause : (vars : ℕ) (c : List ℤ) {f : Fault} → flaw vars unseen 0 c ≡ Err f → is_clause vars c ≡ false
not_clause vars c {f} e = by_cases (is_clause vars c)
    (λ t. let p = clause_passes vars 0 c t in let z : ◌≡◌ {A = Check} (Ok tt) (Err f) = sym p ∙ e in absurd (apart z))
    (λ n. n)
  where
    apart : ◌≡◌ {A = Check} (Ok tt) (Err f) → ⊥
    apart z = let y : ◌≡◌ {A = ℕ} 0 1 = cc in absurd (omega arith)

module _ (s : State) (l : ProofLine) (c : List ℤ) (F : Literals) where
  abbrev fault : ℕ
  fault = addition_fault s (read_with l c F)

  pub no_id : l.id ≡ 0 → min l.noted 31 ≡ fault
  no_id e = rw e refl

  pub large_id : 2147483647 < l.id → min l.noted 31 ≡ fault
  large_id h = rw (lt-leb l.id 2147483647 h, lt-ltb 0 l.id (omega arith)) refl

  module _ (low : 0 < l.id) (high : l.id ≤ 2147483647) where
    pub bad_clause : is_clause s.vars c ≡ false → min l.noted 33 ≡ fault
    bad_clause e = rw (lt-ltb 0 l.id low, le-leb l.id 2147483647 high, e) refl

    module _ (good : is_clause s.vars c ≡ true) where
      pub old_id : l.id ≤ s.highest → min l.noted 34 ≡ fault
      old_id h = rw (lt-ltb 0 l.id low, le-leb l.id 2147483647 high, good, le-ltb s.highest l.id h) refl

      pub new_id : s.highest < l.id → min l.noted 37 ≡ fault
      new_id h = rw (lt-ltb 0 l.id low, le-leb l.id 2147483647 high, good, lt-ltb s.highest l.id h) refl

-- ---- 12 and 13, then 37

-- room, by its two answers: what decides without a question behind it decides with one
stops : (entry words : Bool) (more : ℕ) → (ask entry 12 (ask words 13 0) ≡ 0 → ⊥) → ask entry 12 (ask words 13 0) ≡ ask entry 12 (ask words 13 more)
stops true true more n = absurd (n refl)
stops true false more n = refl
stops false words more n = refl

passes : (entry words : Bool) (more : ℕ) → 0 ≡ ask entry 12 (ask words 13 0) → more ≡ ask entry 12 (ask words 13 more)
passes true true more e = refl
passes true false more e = absurd (omega (arith, e))
passes false words more e = absurd (omega (arith, e))

module _ (s : State) (l : ProofLine) (c : List ℤ) (F : Literals) {f : ℕ} (e : f ≡ addition_fault s (read_with l c F)) where
  abbrev code : ℕ
  code = addition_code s (read_with l c F)

  pub fault_decides : f < 37 → f ≡ code
  fault_decides h = rw (← e, lt-leb 37 f h) refl

  module _ (h : 37 ≤ f) {k : ℕ} (q : k ≡ ask_room s c 0) where
    past : code ≡ ask_room s c (ask (eqb l.proof 1) 37 0)
    past = rw (← e, le-leb 37 f h) refl

    pub room_decides : (k ≡ 0 → ⊥) → k ≡ code
    room_decides n = q ∙ stops (ltb (length (everything s)) s.entries) (leb (room (everything s) + length c) s.words) _ (λ z. n (q ∙ z)) ∙ sym past

    pub proof_decides : k ≡ 0 → ask (eqb l.proof 1) 37 0 ≡ code
    proof_decides z = passes (ltb (length (everything s)) s.entries) (leb (room (everything s) + length c) s.words) _ (sym z ∙ q) ∙ sym past

-- ---- an addition that passed

pub record Passes (s : State) (l : ProofLine) (c : List ℤ) : Type 0 where
  pub small : l.id ≤ 2147483647
  pub new : s.highest < l.id
  pub clause : is_clause s.vars c ≡ true
  pub entry : length (everything s) < s.entries
  pub words : room (everything s) + length c ≤ s.words

-- 31 is the least number: nothing below 37 passes
answered : (n : ℕ) → 31 ≤ n → (id clause new : Bool) → 37 ≤ min n (ask id 31 (ask clause 33 (ask new 34 37))) → (id ≡ true) × (clause ≡ true) × (new ≡ true)
answered n h true true true k = (refl, refl, refl)
answered n h true true false k = absurd (omega (arith, k))
answered n h true false new k = absurd (omega (arith, k))
answered n h false clause new k = absurd (omega (arith, k))

not_zero : (n : ℕ) → 31 ≤ n → (id clause new : Bool) → min n (ask id 31 (ask clause 33 (ask new 34 37))) ≡ 0 → ⊥
not_zero n h true true true k = omega (arith, k)
not_zero n h true true false k = omega (arith, k)
not_zero n h true false new k = omega (arith, k)
not_zero n h false clause new k = omega (arith, k)

roomy : (entry words : Bool) (more : ℕ) → ask entry 12 (ask words 13 more) ≡ 0 → (entry ≡ true) × (words ≡ true)
roomy true true more e = (refl, refl)
roomy true false more e = absurd (omega (arith, e))
roomy false words more e = absurd (omega (arith, e))

pub passed : (s : State) (l : ProofLine) (c : List ℤ) (F : Literals) → 31 ≤ l.noted → addition_code s (read_with l c F) ≡ 0 → Passes s l c
passed s l c F h e =
    let i = ltb 0 l.id && leb l.id 2147483647 in
    let k = is_clause s.vars c in
    let n = ltb s.highest l.id in
    let f = addition_fault s (read_with l c F) in
    by_cases (leb 37 f)
    (λ t.
    let a = answered l.noted h i k n (leb-true 37 f t) in
    let q : ask_room s c (ask (eqb l.proof 1) 37 0) ≡ 0 = rw t at e in
    let r = roomy (ltb (length (everything s)) s.entries) (leb (room (everything s) + length c) s.words) _ q in
    record {
      small = leb-true l.id 2147483647 (and_right (ltb 0 l.id) (leb l.id 2147483647) a.0);
      new = ltb-true s.highest l.id a.2;
      clause = a.1;
      entry = ltb-true (length (everything s)) s.entries r.0;
      words = leb-true (room (everything s) + length c) s.words r.1;
    })
    (λ n'. absurd (not_zero l.noted h i k n (rw n' at e)))

-- a line that is not the last passed
pub goes_on : (code : ℕ) (r : Reading) → is_last code r ≡ false → code ≡ 0
goes_on code r e = eqb-true code 0 (not-false (or-false (not (eqb code 0)) (is_addition r && null r.lits) e).0)

pub added : (s : State) (l : ProofLine) (c : List ℤ) (F : Literals) → 31 ≤ l.noted → l.phase ≡ 4 → line_code s (read_with l c F) ≡ 0 → Passes s l c
unfolding line_code
added s l c F h p e = passed s l c F h (rw p at e)
