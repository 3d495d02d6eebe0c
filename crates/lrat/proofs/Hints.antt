-- The hints of a line, taken one by one as they come, are read as propagation reads them.
use mathlib.Core.Path.{◌≡◌, refl, sym, ap, ◌∙◌}
use mathlib.Core.Bool.{Bool, true, false, cond, ◌||◌}
use mathlib.Core.List.{List, [], ◌∷◌, map}
use Prim.Native.Nat.{ℕ, zero, suc, ◌+◌, ◌≤◌, ◌<◌, min}
use native.Mathlib.Omega.{arith}
use native.Mathlib.Decide.{dec_lt}
use lib.Dec.{eqb, leb}
use lib.IntN.{ℤ, pos, negsuc, neg_ℤ}
use borrow.Author.Tests.{lt-leb, ne_eqb}
use Rattle.rules.specs.Lists.{all_pass}
use Rattle.rules.specs.Terms.{State, everything}
use Rattle.rules.specs.Propagation.{Allowed, among, named as hint-named, Looked, conflict, forced, bad, judge, also, after, run}
use Rattle.rules.proofs.Lists.{by_cases, true-false, all_head, all_tail}
use Rattle.lrat.specs.Checking.{ask, named_by, not_negative, is_proved}
use Rattle.lrat.specs.Machine.{Reading, note, named, looked_at, take_hint, step, among_hints, take_number, take_word}
use Rattle.lrat.specs.declared.LineWord.TheVariants.{Number}
use Rattle.lrat.proofs.Heard.{capped, number_heard}
use Rattle.lrat.proofs.Fed.{takes}
use Rattle.lrat.proofs.Closing.{nonzero, numbers_heard}

-- one hint
abbrev hint_taken : Allowed → ℤ → Reading → Reading
hint_taken A (pos n) r = take_hint A n r
hint_taken A (negsuc n) r = note 36 r

unfoldable pub hints_taken : Allowed → Reading → List ℤ → Reading
hints_taken A r [] = r
hints_taken A r (h ∷ hints) = hints_taken A (hint_taken A h r) hints

-- ---- one word

-- a number that is told as 2^32 names nothing as well
capped_named : (A : Allowed) (n : ℕ) → named A (capped n) ≡ named A n
capped_named A n = of (dec_lt n 4294967296)
  where
    of : Dec (n < 4294967296) → named A (capped n) ≡ named A n
    of (yes k) = let e : capped n ≡ n = omega arith in ap (named A) e
    of (no k) = let a = lt-leb (capped n) 2147483647 (omega arith) in let b = lt-leb n 2147483647 (omega arith) in rw (a, b)

module _ (s : State) (r : Reading) (at : r.line.phase ≡ 3) where
  pub number_in_hints : (minus : Bool) (v : ℕ) → take_word s (Number minus v) r ≡ among_hints s minus v r
  unfolding take_word take_number
  number_in_hints minus v =
      let a : eqb r.line.phase 0 ≡ false = rw at in
      let b : (eqb r.line.phase 1 || eqb r.line.phase 2) ≡ false = rw at in
      let c : eqb r.line.phase 3 ≡ true = rw at in
      rw (a, b, c)

  word_taken : (z : ℤ) → nonzero z ≡ true → take_word s (number_heard z) r ≡ step s (hint_taken (among (everything s)) z r)
  word_taken (pos zero) e = true-false e refl
  word_taken (pos (suc n)) e =
      let z : eqb (capped (suc n)) 0 ≡ false = ne_eqb (capped (suc n)) 0 (λ q. omega arith) in
      number_in_hints false (capped (suc n))
      ∙ rw z (ap (λ x. step s (cond (eqb r.line.proof 0) (looked_at (judge r.falses x) r) r)) (capped_named (among (everything s)) (suc n)))
  word_taken (negsuc n) e =
      let z : eqb (capped (suc n)) 0 ≡ false = ne_eqb (capped (suc n)) 0 (λ q. omega arith) in
      number_in_hints true (capped (suc n)) ∙ rw z

-- ---- what a hint leaves as it was

-- all but the number noted, how the proof stands and which literals are false
pub record SameLine (r r' : Reading) : Type 0 where
  pub phase : r'.line.phase ≡ r.line.phase
  pub id : r'.line.id ≡ r.line.id
  pub lits : r'.lits ≡ r.lits

looked_same : (x : Looked) (r : Reading) → SameLine r (looked_at x r)
looked_same conflict r = record { phase = refl; id = refl; lits = refl }
looked_same (forced u) r = record { phase = refl; id = refl; lits = refl }
looked_same bad r = record { phase = refl; id = refl; lits = refl }

hint_same : (A : Allowed) (z : ℤ) (r : Reading) → SameLine r (hint_taken A z r)
hint_same A (pos n) r = by_cases (eqb r.line.proof 0)
    (λ e. rw e (looked_same (judge r.falses (named A n)) r)) (λ e. rw e (record { phase = refl; id = refl; lits = refl }))
hint_same A (negsuc n) r = record { phase = refl; id = refl; lits = refl }

pub hints_same : (hints : List ℤ) (A : Allowed) (r : Reading) → SameLine r (hints_taken A r hints)
unfolding hints_taken
hints_same [] A r = record { phase = refl; id = refl; lits = refl }
hints_same (h ∷ hints) A r =
    let a = hint_same A h r in
    let b = hints_same hints A (hint_taken A h r) in
    record { phase = b.phase ∙ a.phase; id = b.id ∙ a.id; lits = b.lits ∙ a.lits }

pub hints_run : (hints : List ℤ) (s : State) (r : Reading) → r.line.phase ≡ 3 → all_pass nonzero hints ≡ true →
    takes (step s r) (numbers_heard hints) ≡ step s (hints_taken (among (everything s)) r hints)
unfolding takes hints_taken
hints_run [] s r at n = refl
hints_run (h ∷ hints) s r at n =
    let A = among (everything s) in
    ap (λ t. takes t (numbers_heard hints)) (word_taken s r at h (all_head nonzero h hints n))
    ∙ hints_run hints s (hint_taken A h r) ((hint_same A h r).phase ∙ at) (all_tail nonzero h hints n)

-- ---- a negative hint

looked_noted : (x : Looked) (r : Reading) → (looked_at x r).line.noted ≡ r.line.noted
looked_noted conflict r = refl
looked_noted (forced u) r = refl
looked_noted bad r = refl

hint_noted : (A : Allowed) (z : ℤ) (r : Reading) → r.line.noted ≤ 37 → (hint_taken A z r).line.noted ≡ min r.line.noted (ask (not_negative z) 36 37)
hint_noted A (pos n) r h = by_cases (eqb r.line.proof 0)
    (λ e. let q = looked_noted (judge r.falses (named A n)) r in rw e (omega (arith, q, h))) (λ e. rw e (omega (arith, h)))
hint_noted A (negsuc n) r h = refl

pub hints_noted : (hints : List ℤ) (A : Allowed) (r : Reading) → r.line.noted ≤ 37 →
    (hints_taken A r hints).line.noted ≡ min r.line.noted (ask (all_pass not_negative hints) 36 37)
unfolding hints_taken all_pass
hints_noted [] A r h = omega (arith, h)
hints_noted (z ∷ hints) A r h =
    let a = hint_noted A z r h in
    let b = hints_noted hints A (hint_taken A z r) (omega (arith, a, h)) in
    by_cases (not_negative z)
    (λ e. let a' = rw e at a in rw e (omega (arith, a', b, h)))
    (λ e. let a' = rw e at a in let most = at_most (all_pass not_negative hints) in rw e (omega (arith, a', b, h, most)))
  where
    at_most : (b : Bool) → 36 ≤ ask b 36 37
    at_most true = omega arith
    at_most false = omega arith

-- ---- as propagation reads them

-- what it names for the definition
named_same : (A : Allowed) (n : ℕ) → hint-named A (named_by (pos n)) ≡ named A n
named_same A n = by_cases (leb n 2147483647) (λ e. rw e) (λ e. rw e)

-- once it is decided, no hint counts
decided_stays : (hints : List ℤ) (A : Allowed) (r : Reading) → eqb r.line.proof 0 ≡ false → all_pass not_negative hints ≡ true → hints_taken A r hints ≡ r
unfolding hints_taken
decided_stays [] A r d a = refl
decided_stays (pos n ∷ hints) A r d a = rw d (decided_stays hints A r d (all_tail not_negative (pos n) hints a))
decided_stays (negsuc n ∷ hints) A r d a = true-false (all_head not_negative (negsuc n) hints a) refl

-- a hint that was read, before the others
read_on : (x : Looked) (n : ℕ) (A : Allowed) (r : Reading) (hints : List ℤ) → all_pass not_negative hints ≡ true → r.line.proof ≡ 0 →
    ((r' : Reading) → r'.line.proof ≡ 0 →
    eqb (hints_taken A r' hints).line.proof 1 ≡ is_proved (run A r'.falses (n + 1) (map named_by hints)).verdict) →
    eqb (hints_taken A (looked_at x r) hints).line.proof 1
    ≡ is_proved (after x n r.falses (λ u. run A (also (neg_ℤ u) r.falses) (n + 1) (map named_by hints))).verdict
read_on conflict n A r hints a e go = let d = decided_stays hints A (looked_at conflict r) refl a in rw d
read_on (forced u) n A r hints a e go = go (looked_at (forced u) r) e
read_on bad n A r hints a e go = let d = decided_stays hints A (looked_at bad r) refl a in rw d

pub hints_read : (hints : List ℤ) (n : ℕ) (A : Allowed) (r : Reading) → all_pass not_negative hints ≡ true → r.line.proof ≡ 0 →
    eqb (hints_taken A r hints).line.proof 1 ≡ is_proved (run A r.falses n (map named_by hints)).verdict
unfolding hints_taken run
hints_read [] n A r a e = rw e
hints_read (pos i ∷ hints) n A r a e =
    let rest = all_tail not_negative (pos i) hints a in
    let open_yet : eqb r.line.proof 0 ≡ true = rw e in
    let moved : hint_taken A (pos i) r ≡ looked_at (judge r.falses (named A i)) r = rw open_yet in
    ap (λ x. eqb (hints_taken A x hints).line.proof 1) moved
    ∙ read_on (judge r.falses (named A i)) n A r hints rest e (λ r' e'. hints_read hints (n + 1) A r' rest e')
    ∙ ap (λ x. is_proved (after (judge r.falses x) n r.falses (λ u. run A (also (neg_ℤ u) r.falses) (n + 1) (map named_by hints))).verdict)
    (sym (named_same A i))
hints_read (negsuc i ∷ hints) n A r a e = true-false (all_head not_negative (negsuc i) hints a) refl
