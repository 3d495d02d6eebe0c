-- The clauses of words, one after the other: of words that are read without fault, the next clause is the next of theirs.
use mathlib.Core.Path.{◌≡◌, refl, sym, ap, ◌∙◌}
use mathlib.Core.Bool.{Bool, true, false, not, ◌&&◌}
use mathlib.Core.List.{List, [], ◌∷◌, ◌++◌}
use mathlib.Core.Logic.{◌⊎◌, inl, inr, ⊎_elim}
use mathlib.Core.Option.{Option, none, some}
use Prim.Native.Nat.{ℕ, zero, suc, ◌+◌, ◌≤◌}
use native.Mathlib.Omega.{arith}
use lib.Dec.{ltb}
use lib.IntN.{ℤ, pos, negsuc, nat_abs}
use lib.ListN.{length, length-append}
use borrow.Author.Tests.{ltb-true, lt-ltb}
use Rattle.rules.specs.Terms.{in_range, mentions, null}
use Rattle.rules.proofs.Lists.{by_cases, true-false}
use Rattle.text.specs.Words.{TextWord}
use Rattle.text_numbers.specs.Numbers.{integer_of}
use Rattle.dimacs.specs.Reading.{ClauseWord, Wrong, Closing, Literal, Read, faulty, sound, expect, is_p, literal_word, number_word, clause_word, take_word, preceded, read_clauses}
use Rattle.dimacs.specs.Frames.{ClosedClause, next_clause}
use Rattle.dimacs.specs.declared.TextFault.{TextFault}
use Rattle.dimacs.specs.declared.TextFault.TheVariants.{PastDeclared, UnclosedClause}

-- ---- what is sound

-- a fault is nothing sound
pub unsound : {A P : Type 0} {f : TextFault} {x : A} → ◌≡◌ {A = Read A} (faulty f) (sound x) → P
unsound e = let z : ◌≡◌ {A = ℕ} 0 1 = cc in absurd (omega arith)

pub sound_same : {A : Type 0} {x y : A} → ◌≡◌ {A = Read A} (sound x) (sound y) → x ≡ y
sound_same e = cc

-- what a test lets through passed it
pub expected : {A : Type 0} (b : Bool) (f : TextFault) (r : Read A) {x : A} → expect b f r ≡ sound x → (b ≡ true) × (r ≡ sound x)
unfolding expect
expected true f r e = (refl, e)
expected false f r e = unsound e

-- ---- a word by itself that is no fault is the same of more variables

literal_wide : (vars at : ℕ) (l : ℤ) → (in_range vars l ≡ true → in_range 2048 l ≡ true)
    → (literal_word vars at l ≡ literal_word 2048 at l) ⊎ ((f : TextFault) × (literal_word vars at l ≡ Wrong f))
literal_wide vars at l up = by_cases (in_range vars l) (λ t. inl (rw (t, up t))) (λ f. inr (PastDeclared at, rw f))

number_wide : (vars at : ℕ) (o : Option ℤ) → vars ≤ 2048
    → (number_word vars at o ≡ number_word 2048 at o) ⊎ ((f : TextFault) × (number_word vars at o ≡ Wrong f))
number_wide vars at none h = inl refl
number_wide vars at (some (pos zero)) h = inl refl
number_wide vars at (some (pos (suc n))) h = literal_wide vars at (pos (suc n)) (λ t. lt-ltb n 2048 (omega (arith, ltb-true n vars t)))
number_wide vars at (some (negsuc n)) h = literal_wide vars at (negsuc n) (λ t. lt-ltb n 2048 (omega (arith, ltb-true n vars t)))

word_wide : (vars : ℕ) (w : TextWord) → vars ≤ 2048 → (clause_word vars w ≡ clause_word 2048 w) ⊎ ((f : TextFault) × (clause_word vars w ≡ Wrong f))
unfolding clause_word
word_wide vars w h = by_cases (w.first && is_p w)
    (λ t. inl (rw t))
    (λ f. rw f (number_wide vars w.at (integer_of w.bytes) h))

closing_wide : (vars : ℕ) (w : TextWord) → vars ≤ 2048 → clause_word vars w ≡ Closing → clause_word 2048 w ≡ Closing
closing_wide vars w h e = ⊎_elim
    (λ same. sym same ∙ e)
    (λ wrong. let z : ◌≡◌ {A = ClauseWord} (Wrong wrong.0) Closing = sym wrong.1 ∙ e in let q : ◌≡◌ {A = ℕ} 0 1 = cc in absurd (omega arith))
    (word_wide vars w h)

literal_same : (vars : ℕ) (w : TextWord) (l : ℤ) → vars ≤ 2048 → clause_word vars w ≡ Literal l → clause_word 2048 w ≡ Literal l
literal_same vars w l h e = ⊎_elim
    (λ same. sym same ∙ e)
    (λ wrong. let z : ◌≡◌ {A = ClauseWord} (Wrong wrong.0) (Literal l) = sym wrong.1 ∙ e in let q : ◌≡◌ {A = ℕ} 0 1 = cc in absurd (omega arith))
    (word_wide vars w h)

-- ---- the next clause

-- of clauses that are read, the first is the next clause, and the others are read behind it
pub record NextOf (vars end : ℕ) (begun : List ℤ) (ws : List TextWord) (cs : List (List ℤ)) : Type 0 where
  pub clause : ClosedClause
  pub next : next_clause begun ws ≡ some clause
  pub others : List (List ℤ)
  pub read : read_clauses vars end [] clause.rest ≡ sound others
  pub same : cs ≡ clause.lits ∷ others

-- nothing is left, or a clause
abbrev pub NextOrNone : ℕ → ℕ → List ℤ → List TextWord → List (List ℤ) → Type 0
NextOrNone vars end begun ws cs = ((begun ≡ []) × (ws ≡ []) × (cs ≡ [])) ⊎ NextOf vars end begun ws cs

module _ (vars end : ℕ) (few : vars ≤ 2048) where
  module _ (w : TextWord) (ws : List TextWord) (begun : List ℤ) (cs : List (List ℤ)) where
    at_closing : clause_word vars w ≡ Closing → (r : Read (List (List ℤ))) → read_clauses vars end [] ws ≡ r → preceded begun r ≡ sound cs
        → NextOf vars end begun (w ∷ ws) cs
    unfolding next_clause
    at_closing k (faulty f) q e = unsound e
    at_closing k (sound ds) q e = record {
      clause = record { lits = begun; behind = w.at + length w.bytes; rest = ws };
      next = rw (closing_wide vars w few k);
      others = ds;
      read = q;
      same = sym (sound_same e);
    }

    at_literal : (l : ℤ) → clause_word vars w ≡ Literal l → ltb (length begun) 256 ≡ true → NextOrNone vars end (begun ++ (l ∷ [])) ws cs
        → NextOf vars end begun (w ∷ ws) cs
    unfolding next_clause
    at_literal l k short (inl n) = absurd (some_literal begun n.0)
      where
        some_literal : (c : List ℤ) → c ++ (l ∷ []) ≡ [] → ⊥
        some_literal c e = let z = ap length e in omega (arith, length-append c (l ∷ []))
    at_literal l k short (inr n) = record {
      clause = n.clause;
      next = rw (literal_same vars w l few k, short) n.next;
      others = n.others;
      read = n.read;
      same = n.same;
    }

    at_word : (k : ClauseWord) → clause_word vars w ≡ k
        → take_word k w.at begun (preceded begun (read_clauses vars end [] ws)) (λ l. read_clauses vars end (begun ++ (l ∷ [])) ws) ≡ sound cs
        → ((l : ℤ) → read_clauses vars end (begun ++ (l ∷ [])) ws ≡ sound cs → NextOrNone vars end (begun ++ (l ∷ [])) ws cs)
        → NextOf vars end begun (w ∷ ws) cs
    unfolding take_word
    at_word (Wrong f) k e more = unsound e
    at_word Closing k e more = at_closing k (read_clauses vars end [] ws) refl e
    at_word (Literal l) k e more =
        let (once, e1) = expected (not (mentions begun (nat_abs l))) _ _ e in
        let (short, e2) = expected (ltb (length begun) 256) _ _ e1 in
        at_literal l k short (more l e2)

  pub clause_next : (ws : List TextWord) (begun : List ℤ) (cs : List (List ℤ)) → read_clauses vars end begun ws ≡ sound cs → NextOrNone vars end begun ws cs
  unfolding read_clauses
  clause_next [] begun cs e =
      let (empty, e1) = expected (null begun) (UnclosedClause end) (sound []) e in
      inl (no_literal begun empty, refl, sym (sound_same e1))
    where
      no_literal : (c : List ℤ) → null c ≡ true → c ≡ []
      no_literal [] h = refl
      no_literal (l ∷ c) h = true-false h refl
  clause_next (w ∷ ws) begun cs e = inr (at_word w ws begun cs (clause_word vars w) refl e (λ l. clause_next ws (begun ++ (l ∷ [])) cs))
