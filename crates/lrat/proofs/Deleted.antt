-- The ids of a deletion, taken one by one: each clause goes as its id comes.
use mathlib.Core.Path.{◌≡◌, refl, ap, ◌∙◌}
use mathlib.Core.Bool.{Bool, true, false, ◌||◌}
use mathlib.Core.List.{List, [], ◌∷◌, map}
use Prim.Native.Nat.{ℕ, zero, suc, ◌≤◌, ◌<◌}
use native.Mathlib.Omega.{arith}
use native.Mathlib.Decide.{dec_lt}
use lib.Dec.{eqb, ltb, leb}
use lib.IntN.{ℤ, pos, negsuc, nat_abs}
use borrow.Author.Tests.{lt-leb, ne_eqb, lt-ltb}
use Rattle.rules.specs.Lists.{all_pass}
use Rattle.rules.specs.Terms.{State}
use Rattle.rules.specs.Frames.{positive}
use Rattle.rules.proofs.Lists.{by_cases, true-false, all_head, all_tail}
use Rattle.lrat.specs.Checking.{ask, is_held, gone, check_deletion, all_gone}
use Rattle.lrat.specs.Machine.{Reading, note, Step, step, take_deleted, among_ids, take_number, take_word, deletion_code}
use Rattle.lrat.specs.declared.LineWord.TheVariants.{Number}
use Rattle.lrat.proofs.Heard.{capped, number_heard}
use Rattle.lrat.proofs.Fed.{takes}
use Rattle.lrat.proofs.Closing.{nonzero, numbers_heard}

-- one id
abbrev id_taken : ℤ → Step → Step
id_taken (pos n) t = take_deleted t.state n t.reading
id_taken (negsuc n) t = step t.state (note 31 t.reading)

unfoldable pub ids_taken : Step → List ℤ → Step
ids_taken t [] = t
ids_taken t (i ∷ is) = ids_taken (id_taken i t) is

-- ---- one word

-- a number that is told as 2^32 is held no more than what it stands for
capped_held : (s : State) (n : ℕ) (r : Reading) → take_deleted s (capped n) r ≡ take_deleted s n r
capped_held s n r = of (dec_lt n 4294967296)
  where
    of : Dec (n < 4294967296) → take_deleted s (capped n) r ≡ take_deleted s n r
    of (yes k) = let e : capped n ≡ n = omega arith in ap (λ x. take_deleted s x r) e
    of (no k) = let a = lt-leb (capped n) 2147483647 (omega arith) in let b = lt-leb n 2147483647 (omega arith) in rw (a, b)

module _ (s : State) (r : Reading) (at : r.line.phase ≡ 5) where
  pub number_in_ids : (minus : Bool) (v : ℕ) → take_word s (Number minus v) r ≡ among_ids s minus v r
  unfolding take_word take_number
  number_in_ids minus v =
      let a : eqb r.line.phase 0 ≡ false = rw at in
      let b : (eqb r.line.phase 1 || eqb r.line.phase 2) ≡ false = rw at in
      let c : eqb r.line.phase 3 ≡ false = rw at in
      let d : eqb r.line.phase 5 ≡ true = rw at in
      rw (a, b, c, d)

  word_taken : (z : ℤ) → nonzero z ≡ true → take_word s (number_heard z) r ≡ id_taken z (step s r)
  word_taken (pos zero) e = true-false e refl
  word_taken (pos (suc n)) e =
      let z : eqb (capped (suc n)) 0 ≡ false = ne_eqb (capped (suc n)) 0 (λ q. omega arith) in
      number_in_ids false (capped (suc n)) ∙ rw z (capped_held s (suc n) r)
  word_taken (negsuc n) e = let z : eqb (capped (suc n)) 0 ≡ false = ne_eqb (capped (suc n)) 0 (λ q. omega arith) in number_in_ids true (capped (suc n)) ∙ rw z

id_phase : (z : ℤ) (t : Step) → (id_taken z t).reading.line.phase ≡ t.reading.line.phase
id_phase (pos n) t = by_cases (is_held t.state n) (λ e. rw e) (λ e. rw e)
id_phase (negsuc n) t = refl

pub ids_phase : (is : List ℤ) (t : Step) → (ids_taken t is).reading.line.phase ≡ t.reading.line.phase
unfolding ids_taken
ids_phase [] t = refl
ids_phase (i ∷ is) t = ids_phase is (id_taken i t) ∙ id_phase i t

pub ids_run : (is : List ℤ) (t : Step) → t.reading.line.phase ≡ 5 → all_pass nonzero is ≡ true → takes t (numbers_heard is) ≡ ids_taken t is
unfolding takes ids_taken
ids_run [] t at n = refl
ids_run (i ∷ is) t at n =
    ap (λ x. takes x (numbers_heard is)) (word_taken t.state t.reading at i (all_head nonzero i is n))
    ∙ ids_run is (id_taken i t) (id_phase i t ∙ at) (all_tail nonzero i is n)

-- ---- what they come to

-- 31 once noted stays, and a negative id notes it
id_noted : (z : ℤ) (t : Step) → t.reading.line.noted ≡ 31 → (id_taken z t).reading.line.noted ≡ 31
id_noted (pos n) t e = by_cases (is_held t.state n) (λ h. rw h e) (λ h. rw h (omega (arith, e)))
id_noted (negsuc n) t e = omega (arith, e)

ids_noted : (is : List ℤ) (t : Step) → t.reading.line.noted ≡ 31 → (ids_taken t is).reading.line.noted ≡ 31
unfolding ids_taken
ids_noted [] t e = e
ids_noted (i ∷ is) t e = ids_noted is (id_taken i t) (id_noted i t e)

id_least : (z : ℤ) (t : Step) → 31 ≤ t.reading.line.noted → 31 ≤ (id_taken z t).reading.line.noted
id_least (pos n) t k = by_cases (is_held t.state n) (λ h. rw h k) (λ h. rw h (omega (arith, k)))
id_least (negsuc n) t k = omega (arith, k)

pub negative_noted : (is : List ℤ) (t : Step) → 31 ≤ t.reading.line.noted → all_pass nonzero is ≡ true → all_pass positive is ≡ false →
    (ids_taken t is).reading.line.noted ≡ 31
unfolding ids_taken all_pass
negative_noted [] t k n p = true-false refl p
negative_noted (pos zero ∷ is) t k n p = true-false (all_head nonzero (pos zero) is n) refl
negative_noted (pos (suc i) ∷ is) t k n p =
    let e : ltb 0 (suc i) ≡ true = lt-ltb 0 (suc i) (omega arith) in
    negative_noted is (id_taken (pos (suc i)) t) (id_least (pos (suc i)) t k) (all_tail nonzero (pos (suc i)) is n) (rw e at p)
negative_noted (negsuc i ∷ is) t k n p = ids_noted is (id_taken (negsuc i) t) (omega (arith, k))

-- an id that is not held notes 35, which stays
refused_stays : (is : List ℤ) (t : Step) → t.reading.line.noted ≡ 35 → all_pass positive is ≡ true → (ids_taken t is).reading.line.noted ≡ 35
unfolding ids_taken
refused_stays [] t e p = e
refused_stays (pos i ∷ is) t e p = refused_stays is (id_taken (pos i) t)
    (by_cases (is_held t.state i) (λ h. rw h e) (λ h. rw h (omega (arith, e)))) (all_tail positive (pos i) is p)
refused_stays (negsuc i ∷ is) t e p = true-false (all_head positive (negsuc i) is p) refl

pub record IdsTaken (s : State) (is : List ℕ) (t : Step) : Type 0 where
  pub code : deletion_code t.reading ≡ check_deletion s is
  pub state : check_deletion s is ≡ 0 → t.state ≡ all_gone s is

pub all_ids : (is : List ℤ) (t : Step) → t.reading.line.noted ≡ 37 → all_pass positive is ≡ true → IdsTaken t.state (map nat_abs is) (ids_taken t is)
unfolding ids_taken check_deletion all_gone
all_ids [] t e p = record { code = rw e; state = λ q. refl }
all_ids (pos i ∷ is) t e p =
    let rest = all_tail positive (pos i) is p in
    by_cases (is_held t.state i)
    (λ h.
    let r = all_ids is (step (gone t.state i) t.reading) e rest in
    let moved : id_taken (pos i) t ≡ step (gone t.state i) t.reading = rw h in
    record {
      code = ap (λ x. deletion_code (ids_taken x is).reading) moved ∙ r.code ∙ rw h;
      state = λ q. ap (λ x. (ids_taken x is).state) moved ∙ r.state (rw h at q);
    })
    (λ h.
    let noted = refused_stays is (step t.state (note 35 t.reading)) (omega (arith, e)) rest in
    let moved : id_taken (pos i) t ≡ step t.state (note 35 t.reading) = rw h in
    record {
      code = ap (λ x. deletion_code (ids_taken x is).reading) moved ∙ ap (λ x. ask (leb 37 x) x 0) noted ∙ rw h;
      state = λ q. let q' = rw h at q in absurd (omega (arith, q'));
    })
all_ids (negsuc i ∷ is) t e p = true-false (all_head positive (negsuc i) is p) refl
