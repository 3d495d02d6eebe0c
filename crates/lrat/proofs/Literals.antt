-- The literals of a line, taken one by one: kept where none is past V and at most 256 come, and else a number of refusal is noted.
use mathlib.Core.Path.{◌≡◌, refl, sym, ap, ◌∙◌}
use mathlib.Core.Bool.{Bool, true, false, cond, ◌||◌}
use mathlib.Core.List.{List, [], ◌∷◌, ◌++◌, append-nil, append_assoc}
use Prim.Native.Nat.{ℕ, zero, suc, ◌+◌, ◌-◌, ◌≤◌, ◌<◌, min}
use native.Mathlib.Omega.{arith}
use native.Mathlib.Decide.{dec_lt}
use native.Mathlib.Nat.{zero-add}
use lib.Dec.{eqb, ltb, leb}
use lib.IntN.{ℤ, pos, negsuc}
use lib.ListN.{length}
use borrow.Author.Tests.{le-ltb, le-leb, lt-leb, ltb-true, ltb-false, ne_eqb}
use Rattle.rules.specs.Lists.{all_pass}
use Rattle.rules.specs.Terms.{State, in_range}
use Rattle.rules.proofs.Lists.{by_cases, true-false, all_head, all_tail}
use Rattle.text_numbers.specs.Told.{with_sign}
use Rattle.lrat.specs.Checking.{ask}
use Rattle.lrat.specs.Machine.{Reading, note, enter, keep, take_literal, step, take_number, take_word}
use Rattle.lrat.specs.declared.LineWord.TheVariants.{Number}
use Rattle.lrat.proofs.Heard.{capped, number_heard}
use Rattle.lrat.proofs.Fed.{takes}
use Rattle.lrat.proofs.Closing.{nonzero, numbers_heard}
use Rattle.lrat.proofs.Onward.{ask_least}

-- behind the id, or among the literals
pub record AmongLiterals (r : Reading) : Type 0 where
  pub behind_id : eqb r.line.phase 0 ≡ false
  pub before_hints : (eqb r.line.phase 1 || eqb r.line.phase 2) ≡ true

unfoldable pub literals_taken : ℕ → Reading → List ℤ → Reading
literals_taken vars r [] = r
literals_taken vars r (l ∷ c) = literals_taken vars (take_literal vars l r) c

-- ---- one word

sign_in_range : (vars : ℕ) (minus : Bool) (n : ℕ) → 0 < n → in_range vars (with_sign minus n) ≡ ltb (n - 1) vars
sign_in_range vars minus zero h = absurd (omega arith)
sign_in_range vars true (suc n) h = let e : suc n - 1 ≡ n = omega arith in rw e
sign_in_range vars false (suc n) h = let e : suc n - 1 ≡ n = omega arith in rw e

-- a number that is told as 2^32 is past V as well
capped_literal : (vars : ℕ) (minus : Bool) (n : ℕ) (r : Reading) → vars ≤ 2048 → 0 < n →
    take_literal vars (with_sign minus (capped n)) r ≡ take_literal vars (with_sign minus n) r
capped_literal vars minus n r v h = of (dec_lt n 4294967296)
  where
    of : Dec (n < 4294967296) → take_literal vars (with_sign minus (capped n)) r ≡ take_literal vars (with_sign minus n) r
    of (yes k) = let e : capped n ≡ n = omega arith in ap (λ x. take_literal vars (with_sign minus x) r) e
    of (no k) =
        let a = sign_in_range vars minus (capped n) (omega arith) ∙ le-ltb (capped n - 1) vars (omega arith) in
        let b = sign_in_range vars minus n h ∙ le-ltb (n - 1) vars (omega arith) in
        rw (a, b)

module _ (s : State) (r : Reading) (small : s.vars ≤ 2048) (at : AmongLiterals r) where
  signed_taken : (minus : Bool) (n : ℕ) → 0 < n → take_word s (Number minus (capped n)) r ≡ step s (take_literal s.vars (with_sign minus n) r)
  unfolding take_word take_number
  signed_taken minus n h =
      let e : eqb (capped n) 0 ≡ false = ne_eqb (capped n) 0 (λ z. omega arith) in
      rw (at.behind_id, at.before_hints, e) (ap (step s) (capped_literal s.vars minus n r small h))

  literal_taken : (z : ℤ) → nonzero z ≡ true → take_word s (number_heard z) r ≡ step s (take_literal s.vars z r)
  literal_taken (pos zero) e = true-false e refl
  literal_taken (pos (suc n)) e = signed_taken false (suc n) (omega arith)
  literal_taken (negsuc n) e = signed_taken true (suc n) (omega arith)

pub among_two : (r : Reading) → r.line.phase ≡ 2 → AmongLiterals r
among_two r e = record { behind_id = rw e; before_hints = rw e }

phase_two : (vars : ℕ) (l : ℤ) (r : Reading) → (take_literal vars l r).line.phase ≡ 2
phase_two vars l r = by_cases (in_range vars l) (λ e. by_cases (ltb r.line.count 256) (λ f. rw (e, f)) (λ f. rw (e, f))) (λ e. rw e)

-- ---- all of them

pub literals_run : (c : List ℤ) (s : State) (r : Reading) → s.vars ≤ 2048 → AmongLiterals r → all_pass nonzero c ≡ true →
    takes (step s r) (numbers_heard c) ≡ step s (literals_taken s.vars r c)
unfolding takes literals_taken
literals_run [] s r small at n = refl
literals_run (l ∷ c) s r small at n =
    ap (λ t. takes t (numbers_heard c)) (literal_taken s r small at l (all_head nonzero l c n))
    ∙ literals_run c s (take_literal s.vars l r) small (among_two _ (phase_two s.vars l r)) (all_tail nonzero l c n)

-- behind one literal or more
pub phase_literals : (c : List ℤ) (l : ℤ) (vars : ℕ) (r : Reading) → (literals_taken vars r (l ∷ c)).line.phase ≡ 2
unfolding literals_taken
phase_literals [] l vars r = phase_two vars l r
phase_literals (m ∷ c) l vars r = phase_literals c m vars (take_literal vars l r)

pub among_yet : (c : List ℤ) (vars : ℕ) (r : Reading) → AmongLiterals r → AmongLiterals (literals_taken vars r c)
unfolding literals_taken
among_yet [] vars r at = at
among_yet (l ∷ c) vars r at = among_two _ (phase_literals c l vars r)

-- the number that literals note, where k are kept already
unfoldable literal_fault : ℕ → ℕ → List ℤ → ℕ
literal_fault vars k [] = 37
literal_fault vars k (l ∷ c) =
    cond (in_range vars l) (cond (ltb k 256) (literal_fault vars (k + 1) c) (min 33 (literal_fault vars k c))) (min 32 (literal_fault vars k c))

-- what the literals come to
record Taken (vars : ℕ) (r : Reading) (c : List ℤ) (r' : Reading) : Type 0 where
  noted : r'.line.noted ≡ min r.line.noted (literal_fault vars r.line.count c)
  lits : literal_fault vars r.line.count c ≡ 37 → r'.lits ≡ r.lits ++ c
  id : r'.line.id ≡ r.line.id
  proof : r'.line.proof ≡ r.line.proof

taken : (c : List ℤ) (vars : ℕ) (r : Reading) → r.line.noted ≤ 37 → Taken vars r c (literals_taken vars r c)
unfolding literals_taken literal_fault
taken [] vars r h = record { noted = omega arith; lits = λ e. sym (append-nil r.lits); id = refl; proof = refl }
taken (l ∷ c) vars r h = by_cases (in_range vars l)
    (λ e. by_cases (ltb r.line.count 256)
    (λ f.
    let t = taken c vars (keep l r) h in
    rw (e, f) (record {
      noted = rw (e, f) t.noted;
      lits = λ q. t.lits (rw (e, f) at q) ∙ append_assoc r.lits (l ∷ []) c;
      id = t.id;
      proof = t.proof;
    }))
    (λ f.
    let t = taken c vars (note 33 (enter 2 r)) (omega arith) in
    rw (e, f) (record {
      noted = rw (e, f) (omega (arith, t.noted));
      lits = λ q. let q' = rw (e, f) at q in absurd (omega (arith, q'));
      id = t.id;
      proof = t.proof;
    })))
    (λ e.
    let t = taken c vars (note 32 (enter 2 r)) (omega arith) in
    rw e (record {
      noted = rw e (omega (arith, t.noted));
      lits = λ q. let q' = rw e at q in absurd (omega (arith, q'));
      id = t.id;
      proof = t.proof;
    }))

-- 32 where one is past V, else 33 where more than 256 come
literal_numbers : (c : List ℤ) (vars k : ℕ) → k ≤ 256 →
    literal_fault vars k c ≡ ask (all_pass (in_range vars) c) 32 (ask (leb (k + length c) 256) 33 37)
unfolding literal_fault all_pass
literal_numbers [] vars k h = let e = le-leb (k + 0) 256 (omega arith) in rw e
literal_numbers (l ∷ c) vars k h = by_cases (in_range vars l)
    (λ e. by_cases (ltb k 256)
    (λ f. let n : k + suc (length c) ≡ k + 1 + length c = omega arith in rw (e, f, n) (literal_numbers c vars (k + 1) (omega (arith, ltb-true k 256 f))))
    (λ f.
    let i = literal_numbers c vars k h in
    let past : leb (k + suc (length c)) 256 ≡ false = lt-leb (k + suc (length c)) 256 (omega (arith, ltb-false k 256 f)) in
    rw (e, f, past, i) (by_cases (all_pass (in_range vars) c) (λ a. rw a (full (leb (k + length c) 256))) (λ a. rw a))))
    (λ e.
    let i = literal_numbers c vars k h in
    let least = ask_least {least = 32} (all_pass (in_range vars) c) 32 _ (omega arith)
    (ask_least (leb (k + length c) 256) 33 37 (omega arith) (omega arith)) in
    rw e (omega (arith, i, least)))
  where
    full : (b : Bool) → min 33 (ask b 33 37) ≡ 33
    full true = refl
    full false = refl

-- ---- from the start of a line's literals

abbrev pub literals_noted : ℕ → List ℤ → ℕ
literals_noted vars c = ask (all_pass (in_range vars) c) 32 (ask (leb (length c) 256) 33 37)

pub noted_most : (vars : ℕ) (c : List ℤ) → literals_noted vars c ≤ 37
noted_most vars c = by_cases (all_pass (in_range vars) c)
    (λ a. by_cases (leb (length c) 256) (λ b. rw (a, b) (omega arith)) (λ b. rw (a, b) (omega arith))) (λ a. rw a (omega arith))

pub noted_least : (vars : ℕ) (c : List ℤ) → 31 ≤ literals_noted vars c
noted_least vars c =
    ask_least {least = 31} (all_pass (in_range vars) c) 32 _ (omega arith) (ask_least (leb (length c) 256) 33 37 (omega arith) (omega arith))

pub record LiteralsTaken (vars : ℕ) (r : Reading) (c : List ℤ) (r' : Reading) : Type 0 where
  pub noted : r'.line.noted ≡ literals_noted vars c
  pub lits : literals_noted vars c ≡ 37 → r'.lits ≡ c
  pub id : r'.line.id ≡ r.line.id
  pub proof : r'.line.proof ≡ r.line.proof

pub all_literals : (c : List ℤ) (vars : ℕ) (r : Reading) → r.line.noted ≡ 37 → r.line.count ≡ 0 → r.lits ≡ [] →
    LiteralsTaken vars r c (literals_taken vars r c)
all_literals c vars r n k e =
    let t = taken c vars r (omega (arith, n)) in
    let f : literal_fault vars r.line.count c ≡ literals_noted vars c =
    ap (λ x. literal_fault vars x c) k ∙ literal_numbers c vars 0 (omega arith)
    ∙ ap (λ x. ask (all_pass (in_range vars) c) 32 (ask (leb x 256) 33 37)) (zero-add (length c)) in
    let most = noted_most vars c in
    record {
      noted = omega (arith, t.noted, n, f, most);
      lits = λ q. t.lits (f ∙ q) ∙ ap (λ x. x ++ c) e;
      id = t.id;
      proof = t.proof;
    }
