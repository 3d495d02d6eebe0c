-- "An accepted file means that the CNF has no model."
--
-- Every held clause follows from the text's: the text's own do, an addition that passes follows by propagation, and a deletion only removes. The empty clause
-- has no model.
use mathlib.Core.Path.{◌≡◌, refl}
use mathlib.Core.Bool.{Bool, true, false}
use mathlib.Core.List.{List, [], ◌∷◌, map}
use Prim.Native.Nat.{ℕ, ◌+◌, ◌<◌}
use native.Mathlib.Omega.{arith}
use lib.Dec.{eqb, ltb, leb}
use lib.IntN.{ℤ}
use lib.ListN.{length}
use borrow.Author.Tests.{eqb-true, eqb-false}
use Rattle.rules.specs.Lists.{any_passes, all_pass}
use Rattle.rules.specs.Terms.{State, in_range, is_clause, Assignment, sat, has, everything, room}
use Rattle.rules.specs.Propagation.{among, proves}
use Rattle.rules.specs.Frames.{ADD, LEARN, next}
use Rattle.rules.specs.Answers.{lent}
use Rattle.rules.specs.Histories.{models, Models}
use Rattle.rules.specs.declared.Verdict.{Verdict}
use Rattle.rules.specs.declared.Verdict.TheVariants.{Proved, BadHint, UsedUp}
use Rattle.rules.proofs.Lists.{by_cases, true-false, all_nil, all_head, all_tail, all_append, all_split}
use Rattle.rules.proofs.Held.{meets, without_all, place_all}
use Rattle.rules.proofs.Propagation.{among_meets, proves_sound}
use Rattle.dimacs.specs.Reading.{Read, faulty, sound, Cnf, fault_numbers, read_text}
use Rattle.dimacs.specs.declared.TextFault.{TextFault}
use Rattle.dimacs.specs.declared.TextFault.TheVariants.{NoProblemLine, SecondProblemLine, MalformedWord, PastDeclared, VariableTwice, LongClause}
use Rattle.dimacs.specs.declared.TextFault.TheVariants.{VarsOutOfRange, UnclosedClause, WrongClauseCount}
use Rattle.lrat.specs.Lines.{Line, malformed, addition, deletion, proof_lines, read_line}
use Rattle.lrat.specs.Checking.{ask, named_by, gone, not_negative, is_proved, ask_room, check_addition, all_gone, check_line, next_line}
use Rattle.lrat.specs.Checking.{is_empty_clause, one_more, check_lines, fill, opened_for, against, against_text, lrat}

-- ---- what was asked

-- a question that passed was answered yes, and so were those behind it
asked : (test : Bool) (n more : ℕ) → 0 < n → ask test n more ≡ 0 → (test ≡ true) × (more ≡ 0)
asked true n more h e = (refl, e)
asked false n more h e = absurd (omega (arith, e))

proved : (v : Verdict) → is_proved v ≡ true → (n : ℕ) × (v ≡ Proved n)
proved (Proved n) e = (n, refl)
proved (BadHint n) e = true-false e refl
proved UsedUp e = true-false e refl

-- an addition that passes was proved
addition_proved : (s : State) (i : ℕ) (c hints : List ℤ) → check_addition s i c hints ≡ 0 →
    is_proved (proves (among (everything s)) c (map named_by hints)) ≡ true
addition_proved s i c hints e =
    let a = (asked (all_pass (in_range s.vars) c) 32 _ (omega arith) e).1 in
    let b = (asked (is_clause s.vars c) 33 _ (omega arith) a).1 in
    let d = (asked (ltb s.highest i) 34 _ (omega arith) b).1 in
    let f = (asked (all_pass not_negative hints) 36 _ (omega arith) d).1 in
    let g = (asked (ltb (length (everything s)) s.entries) 12 _ (omega arith) f).1 in
    let h = (asked (leb (room (everything s) + length c) s.words) 13 _ (omega arith) g).1 in
    (asked (is_proved (proves (among (everything s)) c (map named_by hints))) 37 0 (omega arith) h).0

-- ---- what an assignment satisfies

module _ (α : Assignment) where
  -- every held clause
  abbrev Satisfies : State → Type 0
  Satisfies s = models α (everything s) ≡ true

  added : (s : State) (i : ℕ) (c : List ℤ) → sat α c ≡ true → Satisfies s → Satisfies (next s (ADD i c))
  added s i c t m =
      let p = all_split (meets α) s.irredundant _ m in
      all_append (meets α) _ _ (place_all (meets α) _ _ t p.0) p.1

  learnt : (s : State) (i : ℕ) (c hints : List ℤ) → sat α c ≡ true → Satisfies s → Satisfies (next s (LEARN i c hints))
  learnt s i c hints t m =
      let p = all_split (meets α) s.irredundant _ m in
      let q = all_split (meets α) s.learned _ p.1 in
      all_append (meets α) _ _ p.0 (all_append (meets α) _ _ (place_all (meets α) _ _ t q.0) q.1)

  without_it : (s : State) (i : ℕ) → Satisfies s → Satisfies (gone s i)
  without_it s i m =
      let p = all_split (meets α) s.irredundant _ m in
      let q = all_split (meets α) s.learned _ p.1 in
      by_cases (has s.learned i)
      (λ e. rw e (all_append (meets α) _ _ p.0 (all_append (meets α) _ _ (without_all (meets α) s.learned i q.0) q.1)))
      (λ e. rw e (all_append (meets α) _ _ (without_all (meets α) s.irredundant i p.0) p.1))

  all_without : (is : List ℕ) (s : State) → Satisfies s → Satisfies (all_gone s is)
  unfolding all_gone
  all_without [] s m = m
  all_without (i ∷ is) s m = all_without is (gone s i) (without_it s i m)

  addition_true : (s : State) (i : ℕ) (c hints : List ℤ) → Satisfies s → check_addition s i c hints ≡ 0 → sat α c ≡ true
  addition_true s i c hints m e =
      let v = proved (proves (among (everything s)) c (map named_by hints)) (addition_proved s i c hints e) in
      proves_sound α (among (everything s)) c (map named_by hints) v.0 (among_meets α (everything s) m) v.1

  -- a line that passes leaves a state whose clauses follow too, and is not the empty clause
  line_follows : (l : Line) (s : State) → Satisfies s → check_line s l ≡ 0 → Satisfies (next_line s l) × (is_empty_clause l ≡ false)
  unfolding check_line any_passes
  line_follows malformed s m e = absurd (omega (arith, e))
  line_follows (addition i [] hints) s m e = true-false (addition_true s i [] hints m e) refl
  line_follows (addition i (x ∷ c) hints) s m e = (learnt s i (x ∷ c) hints (addition_true s i (x ∷ c) hints m e) m, refl)
  line_follows (deletion is) s m e = (all_without is s m, refl)

  -- ---- no proof is accepted while an assignment satisfies what is held

  lines_refused : (ls : List (List ℕ)) (s : State) (n : ℕ) → Satisfies s → (check_lines s n ls).code ≡ 0 → ⊥
  unfolding check_lines
  lines_refused [] s n m e = omega (arith, e)
  lines_refused (l ∷ ls) s n m e = by_cases (eqb (check_line s (read_line l)) 0)
      (λ z.
      let k = line_follows (read_line l) s m (eqb-true (check_line s (read_line l)) 0 z) in
      let f = k.1 in
      lines_refused ls (next_line s (read_line l)) (one_more n) k.0 (rw (z, f) at e))
      (λ z. eqb-false (check_line s (read_line l)) 0 z (rw z at e))

  text_refused : (cs : List (List ℤ)) (s : State) (i : ℕ) (proof : List ℕ) → Satisfies s → Models α cs → (against proof (fill s i cs)).code ≡ 0 → ⊥
  unfolding fill
  text_refused [] s i proof m t e = lines_refused (proof_lines [] proof) s 0 m e
  text_refused (c ∷ cs) s i proof m t e = by_cases (eqb (ask_room s c 0) 0)
      (λ z. text_refused cs (next s (ADD i c)) (i + 1) proof (added s i c (all_head (sat α) c cs t) m) (all_tail (sat α) c cs t) (rw z at e))
      (λ z. eqb-false (ask_room s c 0) 0 z (rw z at e))

-- ---- a text's fault is no acceptance

no_fault : (f : TextFault) → (fault_numbers f).0 ≡ 0 → ⊥
no_fault (NoProblemLine at) e = omega (arith, e)
no_fault (SecondProblemLine at) e = omega (arith, e)
no_fault (MalformedWord at) e = omega (arith, e)
no_fault (PastDeclared at) e = omega (arith, e)
no_fault (VariableTwice at) e = omega (arith, e)
no_fault (LongClause at) e = omega (arith, e)
no_fault (VarsOutOfRange at) e = omega (arith, e)
no_fault (UnclosedClause at) e = omega (arith, e)
no_fault (WrongClauseCount at) e = omega (arith, e)

-- ---- the theorem

abbrev pub NoModel : Read Cnf → Type 0
NoModel r = (x : Cnf) × (r ≡ sound x) × ((α : Assignment) → Models α x.clauses → ⊥)

by_text : (entries words : ℕ) (r : Read Cnf) (proof : List ℕ) → (against_text entries words r proof).code ≡ 0 → NoModel r
by_text entries words (faulty f) proof e = absurd (no_fault f e)
by_text entries words (sound x) proof e =
    (x, refl, λ α t. text_refused α x.clauses (opened_for entries words x) 1 proof (all_nil (meets α)) t e)

-- an accepted proof: its text is sound, and no assignment satisfies all the text's clauses
pub no_model : (entries words : ℕ) (cnf proof : List ℕ) → (lrat entries words cnf proof).code ≡ 0 → NoModel (read_text cnf)
no_model entries words cnf proof e = by_cases (lent entries words)
    (λ t. by_text entries words (read_text cnf) proof (rw t at e))
    (λ f. let z = rw f at e in absurd (omega (arith, z)))
