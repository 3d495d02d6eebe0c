-- What every word of a line leaves: 31 stays once it is noted, and the tables stay as large.
use mathlib.Core.Path.{◌≡◌, refl, ◌∙◌}
use mathlib.Core.Bool.{Bool, true, false, ◌&&◌, ◌||◌}
use mathlib.Core.List.{List, [], ◌∷◌}
use Prim.Native.Nat.{ℕ, ◌≤◌, min}
use native.Mathlib.Omega.{arith}
use lib.Dec.{eqb, ltb, leb}
use lib.IntN.{ℤ}
use lib.ListN.{length, length-append}
use Rattle.rules.specs.Terms.{State, in_range, is_clause, has, everything}
use Rattle.rules.specs.Propagation.{among, Looked, conflict, forced, bad, judge}
use Rattle.rules.proofs.Lists.{by_cases}
use Rattle.text_numbers.specs.Told.{with_sign}
use Rattle.lrat.specs.Checking.{ask, is_held, gone}
use Rattle.lrat.specs.Machine.{Reading, keep, named, looked_at, Step, step, among_literals, among_hints}
use Rattle.lrat.specs.Machine.{among_ids, take_number, take_word, addition_fault, line_code, emptied}
use Rattle.lrat.specs.declared.LineWord.{LineWord}
use Rattle.lrat.specs.declared.LineWord.TheVariants.{Number, Deletion, Other}
use Rattle.lrat.proofs.Fed.{takes}

-- as many literals are kept as are counted
abbrev pub Counted : Reading → Type 0
Counted r = length r.lits ≡ r.line.count

pub record Onward (s : State) (r : Reading) (t : Step) : Type 0 where
  pub noted : r.line.noted ≡ 31 → t.reading.line.noted ≡ 31
  pub least : 31 ≤ r.line.noted → 31 ≤ t.reading.line.noted
  pub counted : Counted r → Counted t.reading
  pub size : emptied t.state ≡ emptied s

pub gone_size : (s : State) (i : ℕ) → emptied (gone s i) ≡ emptied s
gone_size s i = by_cases (has s.learned i) (λ e. rw e) (λ e. rw e)

module _ (s : State) (r : Reading) where
  quiet : (r' : Reading) → r'.line.noted ≡ r.line.noted → (Counted r → Counted r') → Onward s r (step s r')
  quiet r' e c = record { noted = λ n. e ∙ n; least = λ h. omega (arith, e, h); counted = c; size = refl }

  noting_on : (code : ℕ) (r' : Reading) → 31 ≤ code → r'.line.noted ≡ min r.line.noted code → (Counted r → Counted r') →
      Onward s r (step s r')
  noting_on code r' h e c = record { noted = λ n. omega (arith, e, n, h); least = λ k. omega (arith, e, h, k); counted = c; size = refl }

  -- a literal is kept
  kept_on : (l : ℤ) → Onward s r (step s (keep l r))
  kept_on l = quiet (keep l r) refl (λ c. omega (arith, c, length-append r.lits (l ∷ [])))

  literals_on : (minus : Bool) (v : ℕ) → Onward s r (among_literals s minus v r)
  literals_on minus v = by_cases (eqb v 0) (λ e. rw e (quiet _ refl (λ c. c))) λ e.
      by_cases (in_range s.vars (with_sign minus v))
      (λ i. by_cases (ltb r.line.count 256)
      (λ c. rw (e, i, c) (kept_on (with_sign minus v)))
      (λ c. rw (e, i, c) (noting_on 33 _ (omega arith) refl (λ k. k))))
      (λ i. rw (e, i) (noting_on 32 _ (omega arith) refl (λ c. c)))

  looked_on : (x : Looked) → Onward s r (step s (looked_at x r))
  looked_on conflict = quiet _ refl (λ c. c)
  looked_on (forced u) = quiet _ refl (λ c. c)
  looked_on bad = quiet _ refl (λ c. c)

  hints_on : (minus : Bool) (v : ℕ) → Onward s r (among_hints s minus v r)
  hints_on minus v = by_cases (eqb v 0) (λ e. rw e (quiet _ refl (λ c. c))) λ e.
      by_cases minus (λ i. rw (e, i) (noting_on 36 _ (omega arith) refl (λ c. c))) λ i.
      by_cases (eqb r.line.proof 0)
      (λ p. rw (e, i, p) (looked_on (judge r.falses (named (among (everything s)) v))))
      (λ p. rw (e, i, p) (quiet r refl (λ c. c)))

  ids_on : (minus : Bool) (v : ℕ) → Onward s r (among_ids s minus v r)
  ids_on minus v = by_cases (eqb v 0) (λ e. rw e (quiet _ refl (λ c. c))) λ e.
      by_cases minus (λ i. rw (e, i) (noting_on 31 _ (omega arith) refl (λ c. c))) λ i.
      by_cases (is_held s v)
      (λ h. rw (e, i, h) (record { noted = λ n. n; least = λ k. k; counted = λ c. c; size = gone_size s v }))
      (λ h. rw (e, i, h) (noting_on 35 _ (omega arith) refl (λ c. c)))

  number_on : (minus : Bool) (v : ℕ) → Onward s r (take_number s minus v r)
  unfolding take_number
  number_on minus v =
      let p = r.line.phase in
      by_cases (eqb p 0) (λ e. rw e (quiet _ refl (λ c. c))) λ e.
      by_cases (eqb p 1 || eqb p 2) (λ f. rw (e, f) (literals_on minus v)) λ f.
      by_cases (eqb p 3) (λ g. rw (e, f, g) (hints_on minus v)) λ g.
      by_cases (eqb p 5) (λ h. rw (e, f, g, h) (ids_on minus v)) (λ h. rw (e, f, g, h) (noting_on 31 _ (omega arith) refl (λ c. c)))

  pub word_on : (w : LineWord) → Onward s r (take_word s w r)
  unfolding take_word
  word_on (Number minus v) = number_on minus v
  word_on Deletion = by_cases (eqb r.line.phase 1) (λ e. rw e (quiet _ refl (λ c. c))) (λ e. rw e (noting_on 31 _ (omega arith) refl (λ c. c)))
  word_on Other = noting_on 31 _ (omega arith) refl (λ c. c)

pub words_on : (ws : List LineWord) (t : Step) → Onward t.state t.reading (takes t ws)
unfolding takes
words_on [] t = record { noted = λ n. n; least = λ k. k; counted = λ c. c; size = refl }
words_on (w ∷ ws) t =
    let a = word_on t.state t.reading w in
    let b = words_on ws (take_word t.state w t.reading) in
    record { noted = λ n. b.noted (a.noted n); least = λ k. b.least (a.least k); counted = λ c. b.counted (a.counted c); size = b.size ∙ a.size }

-- ---- a line that is refused 31

pub ask_least : {least : ℕ} (test : Bool) (n m : ℕ) → least ≤ n → least ≤ m → least ≤ ask test n m
ask_least true n m h k = k
ask_least false n m h k = h

-- whatever is asked at the end, 31 is the least number
fault_noted : (s : State) (r : Reading) → r.line.noted ≡ 31 → addition_fault s r ≡ 31
fault_noted s r e =
    let i = r.line.id in
    let last = ask_least {least = 31} (ltb s.highest i) 34 37 (omega arith) (omega arith) in
    let more = ask_least {least = 31} (is_clause s.vars r.lits) 33 _ (omega arith) last in
    let least = ask_least {least = 31} (ltb 0 i && leb i 2147483647) 31 _ (omega arith) more in
    omega (arith, e, least)

pub code_noted : (s : State) (r : Reading) → r.line.noted ≡ 31 → line_code s r ≡ 31
unfolding line_code
code_noted s r e = by_cases (eqb r.line.phase 4)
    (λ p. let f = fault_noted s r e in rw (p, f))
    (λ p. by_cases (eqb r.line.phase 6) (λ q. rw (p, q, e)) (λ q. rw (p, q)))

-- in no phase that closes a line
pub code_unclosed : (s : State) (r : Reading) → eqb r.line.phase 4 ≡ false → eqb r.line.phase 6 ≡ false → line_code s r ≡ 31
unfolding line_code
code_unclosed s r p q = rw (p, q)
