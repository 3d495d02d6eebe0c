-- The words behind the problem line, and the clauses that they are.
use mathlib.Core.Path.{◌≡◌, refl, sym, ◌∙◌}
use mathlib.Core.Bool.{Bool, true, false, not, cond, ◌&&◌}
use mathlib.Core.List.{List, [], ◌∷◌, ◌++◌}
use mathlib.Core.Option.{Option, none, some}
use Prim.Native.Nat.{ℕ, zero, suc, ◌+◌, ◌≤◌}
use native.Mathlib.Omega.{arith}
use lib.Dec.{eqb, ltb, leb}
use lib.IntN.{ℤ}
use lib.ListN.{length, drop, length-append}
use borrow.Author.Tests.{ltb-true, leb-true}
use Rattle.rules.proofs.Lists.{by_cases, and_left, and_right}
use Rattle.text.specs.Words.{TextWord, text_words, words_from}
use Rattle.text.specs.Places.{Behind}
use Rattle.text.proofs.Rest.{Followed, words_behind, words_behind_first}
use Rattle.dimacs.specs.Reading.{ClauseWord, Wrong, Closing, Literal, Read, faulty, sound, expect, expect_number, is_p, is_cnf, clause_word, read_clauses, Cnf, counted, read_behind, count_of}
use Rattle.dimacs.specs.Reading.{read_number, read_count, read_vars, read_format, read_problem, read_text, body_words}
use Rattle.dimacs.specs.Frames.{ClosedClause, by_word, next_clause}
use Rattle.dimacs.specs.declared.TextFault.{TextFault}
use Rattle.dimacs.specs.declared.TextFault.TheVariants.{MalformedWord, VarsOutOfRange, WrongClauseCount, NoProblemLine}
use Rattle.dimacs.proofs.Clauses.{unsound, sound_same, expected}

-- ---- where they stand

-- the words ws stand in the text, the last of them in its end
abbrev pub Standing : List ℕ → List TextWord → Type 0
Standing text ws = (w : TextWord) (rest : List TextWord) → ws ≡ w ∷ rest → Followed text w rest

pub from_stands : (text : List ℕ) (at : ℕ) → Standing text (words_from false at text)
from_stands text at w rest e = words_behind text false at e

-- so do those behind a word of them
rest_stands : {text : List ℕ} {w : TextWord} {ws : List TextWord} → Followed text w ws → Standing text ws
rest_stands {text} f v rest e = words_behind text false _ (sym f.rest ∙ e)

drop_stands : {text : List ℕ} (k : ℕ) (ws : List TextWord) → Standing text ws → Standing text (drop k ws)
drop_stands zero ws s = s
drop_stands (suc k) [] s = s
drop_stands (suc k) (w ∷ ws) s = drop_stands k ws (rest_stands (s w ws refl))

pub body_stands : (text : List ℕ) → Standing text (body_words text)
body_stands text = drop_stands 4 (text_words text) (λ w ws e. words_behind_first text e)

-- ---- the next clause

some_same : {x y : ClosedClause} → ◌≡◌ {A = Option ClosedClause} (some x) (some y) → x ≡ y
some_same e = cc

no_clause : {P : Type 0} {x : ClosedClause} → ◌≡◌ {A = Option ClosedClause} none (some x) → P
no_clause e = let z : ◌≡◌ {A = ℕ} 0 1 = cc in absurd (omega arith)

-- behind a clause stand the words from its end on
pub record ClauseBehind (text : List ℕ) (x : ClosedClause) : Type 0 where
  pub rest : x.rest ≡ words_from false x.behind text
  pub behind : Behind text x.behind

pub clause_behind : (text : List ℕ) (ws : List TextWord) (begun : List ℤ) {x : ClosedClause} → Standing text ws → next_clause begun ws ≡ some x
    → ClauseBehind text x
unfolding next_clause
clause_behind text [] begun s e = no_clause e
clause_behind text (w ∷ ws) begun {x} s e = of (clause_word 2048 w) e (λ l q. clause_behind text ws (begun ++ (l ∷ [])) (rest_stands (s w ws refl)) q)
  where
    of : (k : ClauseWord) → by_word k none (some (record { lits = begun; behind = w.at + length w.bytes; rest = ws }))
        (λ l. cond (ltb (length begun) 256) (next_clause (begun ++ (l ∷ [])) ws) none) ≡ some x →
        ((l : ℤ) → next_clause (begun ++ (l ∷ [])) ws ≡ some x → ClauseBehind text x) → ClauseBehind text x
    of (Wrong f) q more = no_clause q
    of Closing q more = let f = s w ws refl in let same = some_same q in rw (sym same) (record { rest = f.rest; behind = f.behind })
    of (Literal l) q more = by_cases (ltb (length begun) 256) (λ t. more l (rw t at q)) (λ f. no_clause (rw f at q))

-- whatever the words are, a clause has at most 256 literals
pub clause_short : (ws : List TextWord) (begun : List ℤ) {x : ClosedClause} → length begun ≤ 256 → next_clause begun ws ≡ some x → length x.lits ≤ 256
unfolding next_clause
clause_short [] begun h e = no_clause e
clause_short (w ∷ ws) begun {x} h e = of (clause_word 2048 w) e (λ l k q. clause_short ws (begun ++ (l ∷ [])) k q)
  where
    of : (k : ClauseWord) → by_word k none (some (record { lits = begun; behind = w.at + length w.bytes; rest = ws }))
        (λ l. cond (ltb (length begun) 256) (next_clause (begun ++ (l ∷ [])) ws) none) ≡ some x →
        ((l : ℤ) → length (begun ++ (l ∷ [])) ≤ 256 → next_clause (begun ++ (l ∷ [])) ws ≡ some x → length x.lits ≤ 256) → length x.lits ≤ 256
    of (Wrong f) q more = no_clause q
    of Closing q more = let same = some_same q in rw (sym same) h
    of (Literal l) q more = by_cases (ltb (length begun) 256)
        (λ t. more l (omega (arith, length-append begun (l ∷ []), ltb-true (length begun) 256 t)) (rw t at q))
        (λ f. no_clause (rw f at q))

-- ---- a text without fault

-- its clauses are those of the words ws
pub record BodyOf (end : ℕ) (ws : List TextWord) (x : Cnf) : Type 0 where
  pub low : 1 ≤ x.vars
  pub high : x.vars ≤ 2048
  pub read : read_clauses x.vars end [] ws ≡ sound x.clauses

number_read : {A : Type 0} (o : Option ℕ) (f : TextFault) (more : ℕ → Read A) {x : A} → expect_number o f more ≡ sound x → (n : ℕ) × (more n ≡ sound x)
unfolding expect_number
number_read none f more e = unsound e
number_read (some n) f more e = (n, e)

-- the problem line, from its last word to its first: what is read behind so many words of it
module _ (end : ℕ) {x : Cnf} where
  of_counted : (vars n : ℕ) (ws : List TextWord) → 1 ≤ vars → vars ≤ 2048 → (r : Read (List (List ℤ))) → read_clauses vars end [] ws ≡ r
      → counted vars n end r ≡ sound x
      → BodyOf end ws x
  of_counted vars n ws low high (faulty f) q e = unsound e
  of_counted vars n ws low high (sound cs) q e =
      let same = sound_same (expected (eqb (length cs) n) (WrongClauseCount end) (sound (record { vars = vars; clauses = cs })) e).1 in
      rw (sym same) (record { low = low; high = high; read = q })

  of_behind : (vars n : ℕ) (ws : List TextWord) → 1 ≤ vars → vars ≤ 2048 → counted vars n end (read_behind vars end ws) ≡ sound x → BodyOf end ws x
  unfolding expect
  of_behind vars n [] low high e = of_counted vars n [] low high (read_clauses vars end [] []) refl e
  of_behind vars n (w ∷ ws) low high e = of w.first e
    where
      of : (b : Bool) → counted vars n end (expect b (MalformedWord w.at) (read_clauses vars end [] (w ∷ ws))) ≡ sound x → BodyOf end (w ∷ ws) x
      of true q = of_counted vars n (w ∷ ws) low high (read_clauses vars end [] (w ∷ ws)) refl q
      of false q = unsound q

  of_count : (vars : ℕ) (ws : List TextWord) → 1 ≤ vars → vars ≤ 2048 → read_count vars end ws ≡ sound x → BodyOf end (drop 1 ws) x
  unfolding read_number
  of_count vars [] low high e = unsound e
  of_count vars (w ∷ ws) low high e =
      let (n, q) = number_read (count_of w) (MalformedWord w.at) (λ n. counted vars n end (read_behind vars end ws)) e in
      of_behind vars n ws low high q

  of_vars : (ws : List TextWord) → read_vars end ws ≡ sound x → BodyOf end (drop 2 ws) x
  unfolding read_number
  of_vars [] e = unsound e
  of_vars (w ∷ ws) e =
      let (n, q) = number_read (count_of w) (MalformedWord w.at) (λ n. expect (ltb 0 n && leb n 2048) (VarsOutOfRange w.at) (read_count n end ws)) e in
      let (ranged, r) = expected (ltb 0 n && leb n 2048) (VarsOutOfRange w.at) (read_count n end ws) q in
      of_count n ws (ltb-true 0 n (and_left (ltb 0 n) (leb n 2048) ranged)) (leb-true n 2048 (and_right (ltb 0 n) (leb n 2048) ranged)) r

  of_format : (ws : List TextWord) → read_format end ws ≡ sound x → BodyOf end (drop 3 ws) x
  unfolding read_format
  of_format [] e = unsound e
  of_format (w ∷ ws) e = of_vars ws (expected (not w.first && is_cnf w) (MalformedWord w.at) (read_vars end ws) e).1

  of_problem : (ws : List TextWord) → read_problem end ws ≡ sound x → BodyOf end (drop 4 ws) x
  unfolding read_problem
  of_problem [] e = unsound e
  of_problem (w ∷ ws) e = of_format ws (expected (is_p w) (NoProblemLine w.at) (read_format end ws) e).1

pub text_body : (text : List ℕ) {x : Cnf} → read_text text ≡ sound x → BodyOf (length text) (body_words text) x
text_body text e = of_problem (length text) (text_words text) e
