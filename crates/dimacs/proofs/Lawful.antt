-- Every clause that is read obeys document 01's Terms: at most 256 literals, each of 1 to V, no variable twice.
use mathlib.Core.Path.{◌≡◌, refl, sym, ap, ◌∙◌}
use mathlib.Core.Bool.{true, false, not, ◌&&◌}
use mathlib.Core.List.{List, [], ◌∷◌, ◌++◌}
use mathlib.Core.Option.{Option, none, some}
use Prim.Native.Nat.{ℕ, zero, suc, ◌≤◌, ◌<◌}
use native.Mathlib.Omega.{arith}
use lib.Dec.{eqb, ltb}
use lib.IntN.{ℤ, pos, negsuc, nat_abs}
use lib.ListN.{length, length-append}
use borrow.Author.Tests.{ltb-true, le-leb, eqb-false, ne_eqb}
use Rattle.rules.specs.Lists.{any_passes, all_pass}
use Rattle.rules.specs.Terms.{in_range, mentions, distinct, is_clause, null}
use Rattle.rules.proofs.Lists.{by_cases, not-true, or-false, and_left, and_right, and_both, all_nil, all_cons, all_append, any_last}
use Rattle.text.specs.Words.{TextWord}
use Rattle.text_numbers.specs.Numbers.{integer_of}
use Rattle.dimacs.specs.Reading.{ClauseWord, Wrong, Closing, Literal, Read, faulty, sound, is_p, literal_word, number_word, clause_word, take_word, preceded, read_clauses, Cnf, read_text}
use Rattle.dimacs.specs.Reading.{body_words}
use Rattle.dimacs.specs.declared.TextFault.{TextFault}
use Rattle.dimacs.specs.declared.TextFault.TheVariants.{VariableTwice, LongClause, UnclosedClause}
use Rattle.dimacs.proofs.Clauses.{unsound, sound_same, expected}
use Rattle.dimacs.proofs.Bodies.{text_body}

-- ---- a literal is of 1 to V

-- a fault and the closing 0 are no literals
unlike_wrong : {P : Type 0} {f : TextFault} {l : ℤ} → ◌≡◌ {A = ClauseWord} (Wrong f) (Literal l) → P
unlike_wrong e = let z : ◌≡◌ {A = ℕ} 0 1 = cc in absurd (omega arith)

unlike_closing : {P : Type 0} {l : ℤ} → ◌≡◌ {A = ClauseWord} Closing (Literal l) → P
unlike_closing e = let z : ◌≡◌ {A = ℕ} 0 1 = cc in absurd (omega arith)

literal_in : (vars at : ℕ) (m l : ℤ) → literal_word vars at m ≡ Literal l → in_range vars l ≡ true
literal_in vars at m l e = by_cases (in_range vars m)
    (λ t. let same : m ≡ l = literal_same (rw t at e) in ap (in_range vars) (sym same) ∙ t)
    (λ f. unlike_wrong (rw f at e))
  where
    literal_same : ◌≡◌ {A = ClauseWord} (Literal m) (Literal l) → m ≡ l
    literal_same q = cc

number_in : (vars at : ℕ) (o : Option ℤ) (l : ℤ) → number_word vars at o ≡ Literal l → in_range vars l ≡ true
number_in vars at none l e = unlike_wrong e
number_in vars at (some (pos zero)) l e = unlike_closing e
number_in vars at (some (pos (suc n))) l e = literal_in vars at (pos (suc n)) l e
number_in vars at (some (negsuc n)) l e = literal_in vars at (negsuc n) l e

word_in : (vars : ℕ) (w : TextWord) (l : ℤ) → clause_word vars w ≡ Literal l → in_range vars l ≡ true
unfolding clause_word
word_in vars w l e = by_cases (w.first && is_p w)
    (λ t. unlike_wrong (rw t at e))
    (λ f. number_in vars w.at (integer_of w.bytes) l (rw f at e))

-- ---- a clause with one literal more

distinct_last : (c : List ℤ) (l : ℤ) → distinct c ≡ true → mentions c (nat_abs l) ≡ false → distinct (c ++ (l ∷ [])) ≡ true
unfolding distinct any_passes
distinct_last [] l d m = refl
distinct_last (k ∷ c) l d m =
    let (other, m1) = or-false (eqb (nat_abs k) (nat_abs l)) (mentions c (nat_abs l)) m in
    let turned : eqb (nat_abs l) (nat_abs k) ≡ false = ne_eqb (nat_abs l) (nat_abs k) (λ e. eqb-false (nat_abs k) (nat_abs l) other (sym e)) in
    let before : mentions c (nat_abs k) ≡ false = not-true (and_left (not (mentions c (nat_abs k))) (distinct c) d) in
    let behind : mentions (c ++ (l ∷ [])) (nat_abs k) ≡ false = any_last (λ x. eqb (nat_abs x) (nat_abs k)) c l ∙ rw (before, turned) in
    and_both (ap not behind) (distinct_last c l (and_right (not (mentions c (nat_abs k))) (distinct c) d) m1)

-- what holds of a clause that is begun
record Begun (vars : ℕ) (c : List ℤ) : Type 0 where
  short : length c ≤ 256
  ranged : all_pass (in_range vars) c ≡ true
  once : distinct c ≡ true

begun_none : (vars : ℕ) → Begun vars []
unfolding distinct all_pass
begun_none vars = record { short = omega arith; ranged = refl; once = refl }

begun_clause : {vars : ℕ} {c : List ℤ} → Begun vars c → is_clause vars c ≡ true
unfolding is_clause
begun_clause {vars} {c} b = and_both (le-leb (length c) 256 b.short) (and_both b.ranged b.once)

begun_more : {vars : ℕ} {c : List ℤ} (l : ℤ) → Begun vars c → length c < 256 → in_range vars l ≡ true → mentions c (nat_abs l) ≡ false
    → Begun vars (c ++ (l ∷ []))
begun_more {vars} {c} l b h r m = record {
  short = omega (arith, length-append c (l ∷ []));
  ranged = all_append (in_range vars) c (l ∷ []) b.ranged (all_cons (in_range vars) l [] r (all_nil (in_range vars)));
  once = distinct_last c l b.once m;
}

-- ---- all of them

module _ (vars end : ℕ) where
  at_closing : {begun : List ℤ} {cs : List (List ℤ)} → Begun vars begun → (r : Read (List (List ℤ))) → preceded begun r ≡ sound cs
      → ((ds : List (List ℤ)) → r ≡ sound ds → all_pass (is_clause vars) ds ≡ true) → all_pass (is_clause vars) cs ≡ true
  at_closing b (faulty f) e more = unsound e
  at_closing {begun} b (sound ds) e more = rw (sym (sound_same e)) (all_cons (is_clause vars) begun ds (begun_clause b) (more ds refl))

  at_word : (w : TextWord) (ws : List TextWord) {begun : List ℤ} {cs : List (List ℤ)} → Begun vars begun → (k : ClauseWord) → clause_word vars w ≡ k
      → take_word k w.at begun (preceded begun (read_clauses vars end [] ws)) (λ l. read_clauses vars end (begun ++ (l ∷ [])) ws) ≡ sound cs
      → ((ds : List (List ℤ)) → read_clauses vars end [] ws ≡ sound ds → all_pass (is_clause vars) ds ≡ true)
      → ((l : ℤ) → Begun vars (begun ++ (l ∷ [])) → read_clauses vars end (begun ++ (l ∷ [])) ws ≡ sound cs → all_pass (is_clause vars) cs ≡ true)
      → all_pass (is_clause vars) cs ≡ true
  unfolding take_word
  at_word w ws b (Wrong f) k e next more = unsound e
  at_word w ws b Closing k e next more = at_closing b (read_clauses vars end [] ws) e next
  at_word w ws {begun} b (Literal l) k e next more =
      let (once, e1) = expected (not (mentions begun (nat_abs l))) (VariableTwice w.at) _ e in
      let (short, e2) = expected (ltb (length begun) 256) (LongClause w.at) _ e1 in
      more l (begun_more l b (ltb-true (length begun) 256 short) (word_in vars w l k) (not-true once)) e2

  clauses_lawful : (ws : List TextWord) (begun : List ℤ) (cs : List (List ℤ)) → Begun vars begun → read_clauses vars end begun ws ≡ sound cs
      → all_pass (is_clause vars) cs ≡ true
  unfolding read_clauses all_pass
  clauses_lawful [] begun cs b e = rw (sym (sound_same (expected (null begun) (UnclosedClause end) (sound []) e).1))
  clauses_lawful (w ∷ ws) begun cs b e =
      at_word w ws b (clause_word vars w) refl e (λ ds. clauses_lawful ws [] ds (begun_none vars)) (λ l b'. clauses_lawful ws (begun ++ (l ∷ [])) cs b')

pub text_lawful : (text : List ℕ) {x : Cnf} → read_text text ≡ sound x → all_pass (is_clause x.vars) x.clauses ≡ true
text_lawful text {x} e = clauses_lawful x.vars (length text) (body_words text) [] x.clauses (begun_none x.vars) (text_body text e).read
