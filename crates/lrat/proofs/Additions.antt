-- The end of an addition: what was noted, kept and read of it is what the definition asks of its parts.
use mathlib.Core.Path.{◌≡◌, refl, sym, ◌∙◌}
use mathlib.Core.Bool.{true, false, not, ◌&&◌}
use mathlib.Core.List.{List, [], ◌∷◌, map, Memᴰ}
use Prim.Native.Nat.{ℕ, zero, suc, ◌≤◌, min}
use native.Mathlib.Omega.{arith}
use lib.Dec.{eqb, ltb, leb}
use lib.IntN.{ℤ, pos, negsuc, nat_abs}
use lib.ListN.{length}
use borrow.Author.Tests.{eqb-true, eq-eqb}
use Rattle.rules.specs.Lists.{any_passes, all_pass}
use Rattle.rules.specs.Terms.{State, in_range, holds, opposes, mentions, distinct, is_clause, everything}
use Rattle.rules.specs.Propagation.{among, run, proves}
use Rattle.rules.proofs.Lists.{by_cases, true-false, not-true, and_left, and_right, any_in, any_find, any_none}
use Rattle.rules.proofs.Literals.{opposes_also, opposite_mentioned, clash}
use Rattle.lrat.specs.Checking.{ask, named_by, not_negative, is_proved, check_addition}
use Rattle.lrat.specs.Machine.{Reading, addition_fault, addition_code}
use Rattle.lrat.proofs.Onward.{ask_least}
use Rattle.lrat.proofs.Literals.{literals_noted}

-- ---- a clause holds no literal beside its opposite, so its hints are read

clash_self : (l : ℤ) → clash l l ≡ false
clash_self (pos zero) = refl
clash_self (pos (suc n)) = refl
clash_self (negsuc n) = refl

opposed_variable : (x l : ℤ) → clash x l ≡ true → eqb (nat_abs x) (nat_abs l) ≡ true
unfolding any_passes
opposed_variable x l h = by_cases (eqb (nat_abs x) (nat_abs l)) (λ e. e)
    (λ e. let m = opposite_mentioned (x ∷ []) l (opposes_also x (holds []) l ∙ rw h) in let m' = rw e at m in true-false m' refl)

-- one literal more, whose variable is new
module _ (x : ℤ) (c : List ℤ) (new : mentions c (nat_abs x) ≡ false) (rest : any_passes (opposes (holds c)) c ≡ false) where
  still_unopposed : (l : ℤ) → Memᴰ l c → opposes (holds (x ∷ c)) l ≡ false
  unfolding any_passes
  still_unopposed l m = by_cases (clash x l)
      (λ e.
      let v = eqb-true (nat_abs x) (nat_abs l) (opposed_variable x l e) in
      true-false (any_in (λ k. eqb (nat_abs k) (nat_abs x)) m (eq-eqb (nat_abs l) (nat_abs x) (sym v))) new)
      (λ e. opposes_also x (holds c) l ∙ rw e (any_none (opposes (holds c)) rest m))

  itself_unopposed : opposes (holds (x ∷ c)) x ≡ false
  unfolding any_passes
  itself_unopposed = opposes_also x (holds c) x
      ∙ rw (clash_self x) (by_cases (opposes (holds c) x) (λ e. true-false (opposite_mentioned c x e) new) (λ e. e))

unopposed : (c : List ℤ) → distinct c ≡ true → any_passes (opposes (holds c)) c ≡ false
unfolding any_passes distinct
unopposed [] d = refl
unopposed (x ∷ c) d =
    let new = not-true (and_left (not (mentions c (nat_abs x))) (distinct c) d) in
    let rest = unopposed c (and_right (not (mentions c (nat_abs x))) (distinct c) d) in
    let first = itself_unopposed x c new rest in
    by_cases (any_passes (opposes (holds (x ∷ c))) c)
    (λ t. let r = any_find (opposes (holds (x ∷ c))) c t in true-false r.2 (still_unopposed x c new rest r.0 r.1))
    (λ f. rw (first, f))

clause_unopposed : (vars : ℕ) (c : List ℤ) → is_clause vars c ≡ true → any_passes (opposes (holds c)) c ≡ false
unfolding is_clause
clause_unopposed vars c k =
    let t = and_right (leb (length c) 256) (all_pass (in_range vars) c && distinct c) k in
    unopposed c (and_right (all_pass (in_range vars) c) (distinct c) t)

-- ---- what was read

pub record AdditionRead (s : State) (i : ℕ) (c hints : List ℤ) (r : Reading) : Type 0 where
  pub noted : r.line.noted ≡ min (literals_noted s.vars c) (ask (all_pass not_negative hints) 36 37)
  pub id : r.line.id ≡ i
  pub is_id : (ltb 0 i && leb i 2147483647) ≡ true
  pub lits : literals_noted s.vars c ≡ 37 → r.lits ≡ c
  pub proof : literals_noted s.vars c ≡ 37 → all_pass not_negative hints ≡ true →
      eqb r.line.proof 1 ≡ is_proved (run (among (everything s)) (holds c) 0 (map named_by hints)).verdict

module _ (s : State) (i : ℕ) (c hints : List ℤ) (r : Reading) (a : AdditionRead s i c hints r) where
  abbrev asked : ℕ
  asked = ask (is_clause s.vars r.lits) 33 (ask (ltb s.highest i) 34 37)

  fault : addition_fault s r ≡ min r.line.noted asked
  fault = rw (a.id, a.is_id)

  by_fault : (n : ℕ) → addition_fault s r ≡ n → leb 37 n ≡ false → addition_code s r ≡ n
  by_fault n e h = rw (e, h)

  asked_least : 33 ≤ asked
  asked_least = ask_least {least = 33} (is_clause s.vars r.lits) 33 _ (omega arith) (ask_least (ltb s.highest i) 34 37 (omega arith) (omega arith))

  hints_least : 36 ≤ ask (all_pass not_negative hints) 36 37
  hints_least = ask_least {least = 36} (all_pass not_negative hints) 36 37 (omega arith) (omega arith)

  -- a literal past V
  past : all_pass (in_range s.vars) c ≡ false → addition_code s r ≡ check_addition s i c hints
  past e =
      let n : literals_noted s.vars c ≡ 32 = rw e in
      rw e (by_fault 32 (omega (arith, fault, a.noted, n, asked_least, hints_least)) refl)

  module _ (in-V : all_pass (in_range s.vars) c ≡ true) where
    -- too long
    long : leb (length c) 256 ≡ false → addition_code s r ≡ check_addition s i c hints
    unfolding is_clause
    long e =
        let n : literals_noted s.vars c ≡ 33 = rw (in-V, e) in
        rw (in-V, e) (by_fault 33 (omega (arith, fault, a.noted, n, asked_least, hints_least)) refl)

    module _ (short : leb (length c) 256 ≡ true) where
      kept : literals_noted s.vars c ≡ 37
      kept = rw (in-V, short)

      flawed : is_clause s.vars c ≡ false → addition_code s r ≡ check_addition s i c hints
      flawed e =
          let l = a.lits kept in
          let q : asked ≡ 33 = rw (l, e) in
          rw (in-V, e) (by_fault 33 (omega (arith, fault, a.noted, kept, q, hints_least)) refl)

      module _ (k : is_clause s.vars c ≡ true) where
        old : ltb s.highest i ≡ false → addition_code s r ≡ check_addition s i c hints
        old e =
            let l = a.lits kept in
            let q : asked ≡ 34 = rw (l, k, e) in
            rw (in-V, k, e) (by_fault 34 (omega (arith, fault, a.noted, kept, q, hints_least)) refl)

        module _ (new : ltb s.highest i ≡ true) where
          none_asked : asked ≡ 37
          none_asked = let l = a.lits kept in rw (l, k, new)

          negative : all_pass not_negative hints ≡ false → addition_code s r ≡ check_addition s i c hints
          negative e =
              let h : ask (all_pass not_negative hints) 36 37 ≡ 36 = rw e in
              rw (in-V, k, new, e) (by_fault 36 (omega (arith, fault, a.noted, kept, none_asked, h)) refl)

          -- room, and the hints
          plain : all_pass not_negative hints ≡ true → addition_code s r ≡ check_addition s i c hints
          unfolding proves
          plain e =
              let h : ask (all_pass not_negative hints) 36 37 ≡ 37 = rw e in
              let f : addition_fault s r ≡ 37 = omega (arith, fault, a.noted, kept, none_asked, h) in
              let l = a.lits kept in
              let p = a.proof kept e in
              let apart = clause_unopposed s.vars c k in
              rw (f, in-V, k, new, e, l, p, apart)

pub addition_judged : (s : State) (i : ℕ) (c hints : List ℤ) (r : Reading) → AdditionRead s i c hints r → addition_code s r ≡ check_addition s i c hints
addition_judged s i c hints r a =
    by_cases (all_pass (in_range s.vars) c) (λ in-V.
    by_cases (leb (length c) 256) (λ short.
    by_cases (is_clause s.vars c) (λ k.
    by_cases (ltb s.highest i) (λ new.
    by_cases (all_pass not_negative hints) (plain s i c hints r a in-V short k new) (negative s i c hints r a in-V short k new))
    (old s i c hints r a in-V short k)) (flawed s i c hints r a in-V short)) (long s i c hints r a in-V)) (past s i c hints r a)

-- an addition that passes was kept whole
pub passed_kept : (s : State) (i : ℕ) (c hints : List ℤ) → check_addition s i c hints ≡ 0 → literals_noted s.vars c ≡ 37
unfolding is_clause
passed_kept s i c hints e = by_cases (all_pass (in_range s.vars) c)
    (λ a. by_cases (leb (length c) 256) (λ b. rw (a, b)) (λ b. let e' = rw (a, b) at e in absurd (omega (arith, e'))))
    (λ a. let e' = rw a at e in absurd (omega (arith, e')))
