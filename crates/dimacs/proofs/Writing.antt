-- A text written from clauses is read back as those clauses.
--
-- Wherever the text behind a clause stands, it is read alike; so no place is counted.
use mathlib.Core.Path.{◌≡◌, refl, ◌∙◌}
use mathlib.Core.Bool.{Bool, true, false, not, ◌&&◌}
use mathlib.Core.List.{List, [], ◌∷◌, ◌++◌, append_assoc, append-nil}
use mathlib.Core.Option.{some}
use Prim.Native.Nat.{ℕ, zero, suc, ◌+◌, ◌≤◌}
use native.Mathlib.Omega.{arith}
use lib.Dec.{eqb, ltb, leb}
use lib.IntN.{ℤ, pos, negsuc, nat_abs}
use lib.ListN.{length, length-append}
use borrow.Author.Tests.{lt-ltb, le-leb, leb-true, eq-eqb}
use Rattle.rules.specs.Lists.{any_passes, all_pass}
use Rattle.rules.specs.Terms.{in_range, mentions, distinct, is_clause}
use Rattle.rules.proofs.Lists.{true-false, not-true, or-false, and_left, and_right, all_head, all_tail, all_split}
use Rattle.rules.proofs.Literals.{eqb_sym}
use Rattle.text.specs.Words.{is_comment, text_lines, words_of_lines, text_words}
use Rattle.text.specs.Places.{word_bytes}
use Rattle.text.proofs.Words.{words_on, line_none, line_plain, whole_blank, whole_line}
use Rattle.text_numbers.specs.Numbers.{decimal_in, decimal, signed_decimal}
use Rattle.text_numbers.proofs.Decimals.{natural_decimal, integer_signed, signed_some, signed_whole, signed_uncommented}
use Rattle.dimacs.specs.Reading.{Literal, Read, sound, expect, expect_number, number_word, clause_word, take_word, preceded, read_clauses}
use Rattle.dimacs.specs.Reading.{read_behind, read_number, read_format, read_problem, read_text}
use Rattle.dimacs.specs.Writing.{clause_text, clauses_text, cnf_text}
use Rattle.dimacs.proofs.Words.{word_number}

-- ---- words

module _ (first : Bool) (at : ℕ) (l : ℤ) (bs : List ℕ) where
  number_blank : words_on first at (signed_decimal l ++ (32 ∷ bs))
      ≡ record { at = at; first = first; bytes = signed_decimal l } ∷ words_on false (at + length (signed_decimal l) + 1) bs
  number_blank = whole_blank first at 32 (signed_decimal l) bs (signed_some l) (signed_whole l (32 ∷ bs) refl) refl refl

  number_line : words_on first at (signed_decimal l ++ (10 ∷ bs))
      ≡ record { at = at; first = first; bytes = signed_decimal l } ∷ words_of_lines (text_lines (at + length (signed_decimal l) + 1) [] bs)
  number_line = whole_line first at 10 (signed_decimal l) bs (signed_some l) (signed_whole l (10 ∷ bs) refl) refl

clause_uncommented : (c : List ℤ) (bs : List ℕ) → is_comment (clause_text c ++ bs) ≡ false
unfolding clause_text
clause_uncommented [] bs = refl
clause_uncommented (l ∷ c) bs = rw append_assoc (signed_uncommented l (32 ∷ (clause_text c ++ bs)))

-- ---- the next literal of a clause: `begun` stand before it, c behind it

-- where a list does not mention v, none of its literals has v
unmentioned : (begun c : List ℤ) (l : ℤ) (v : ℕ) → mentions (begun ++ (l ∷ c)) v ≡ false → eqb (nat_abs l) v ≡ false
unfolding any_passes
unmentioned [] c l v f = (or-false (eqb (nat_abs l) v) (mentions c v) f).0
unmentioned (m ∷ begun) c l v f = unmentioned begun c l v (or-false (eqb (nat_abs m) v) (mentions (begun ++ (l ∷ c)) v) f).1

once : (begun c : List ℤ) (l : ℤ) → distinct (begun ++ (l ∷ c)) ≡ true → mentions begun (nat_abs l) ≡ false
unfolding distinct any_passes
once [] c l d = refl
once (m ∷ begun) c l d =
    let new = not (mentions (begun ++ (l ∷ c)) (nat_abs m)) in
    let later = distinct (begun ++ (l ∷ c)) in
    rw (eqb_sym (nat_abs m) (nat_abs l), unmentioned begun c l (nat_abs m) (not-true (and_left new later d))) (once begun c l (and_right new later d))

pub clause_parts : (vars : ℕ) (c : List ℤ) → is_clause vars c ≡ true → (length c ≤ 256) × (all_pass (in_range vars) c ≡ true) × (distinct c ≡ true)
unfolding is_clause
clause_parts vars c k =
    let few = leb (length c) 256 in
    let ranged = all_pass (in_range vars) c in
    let t = and_right few (ranged && distinct c) k in
    (leb-true (length c) 256 (and_left few (ranged && distinct c) k), and_left ranged (distinct c) t, and_right ranged (distinct c) t)

module _ (vars : ℕ) (begun c : List ℤ) (l : ℤ) (k : is_clause vars (begun ++ (l ∷ c)) ≡ true) where
  next_once : mentions begun (nat_abs l) ≡ false
  next_once = once begun c l (clause_parts vars _ k).2

  next_short : ltb (length begun) 256 ≡ true
  next_short = lt-ltb (length begun) 256 (omega (arith, (clause_parts vars _ k).0, length-append begun (l ∷ c)))

  next_word : (at : ℕ) (first : Bool) → clause_word vars (record { at = at; first = first; bytes = signed_decimal l }) ≡ Literal l
  next_word at first =
      word_number vars at first (signed_decimal l) l (integer_signed l)
      ∙ of l (all_head (in_range vars) l c (all_split (in_range vars) begun (l ∷ c) (clause_parts vars _ k).1).1)
    where
      of : (l : ℤ) → in_range vars l ≡ true → number_word vars at (some l) ≡ Literal l
      of (pos zero) h = true-false h refl
      of (pos (suc n)) h = rw h
      of (negsuc n) h = rw h

module _ (vars end : ℕ) where
  -- ---- clauses

  -- r is what the text bs behind the clause comes to, wherever it stands; c is what is left of the clause
  clause_read : (bs : List ℕ) (r : Read (List (List ℤ))) → ((at : ℕ) → read_clauses vars end [] (words_of_lines (text_lines at [] bs)) ≡ r)
      → (c begun : List ℤ) → is_clause vars (begun ++ c) ≡ true
      → (first : Bool) (at : ℕ) → read_clauses vars end begun (words_on first at (clause_text c ++ bs)) ≡ preceded (begun ++ c) r
  unfolding clause_text decimal_in read_clauses take_word expect
  clause_read bs r rest [] begun k first at =
      rw (number_line first at (pos 0) bs, word_number vars at first (decimal 0) (pos 0) (integer_signed (pos 0)), rest (at + 1 + 1), append-nil)
  clause_read bs r rest (l ∷ c) begun k first at =
      rw (
        append_assoc,
        number_blank first at l (clause_text c ++ bs),
        next_word vars begun c l k at first,
        next_once vars begun c l k,
        next_short vars begun c l k,
      )
      (clause_read bs r rest c (begun ++ (l ∷ [])) (rw append_assoc k) false (at + length (signed_decimal l) + 1) ∙ rw append_assoc)

  clauses_read : (cs : List (List ℤ)) → all_pass (is_clause vars) cs ≡ true
      → (at : ℕ) → read_clauses vars end [] (words_of_lines (text_lines at [] (clauses_text cs))) ≡ sound cs
  unfolding clauses_text read_clauses expect
  clauses_read [] a at = rw (line_none at)
  clauses_read (c ∷ cs) a at =
      rw (line_plain at (clause_text c ++ clauses_text cs) (clause_uncommented c (clauses_text cs)))
      (clause_read (clauses_text cs) (sound cs) (clauses_read cs (all_tail (is_clause vars) c cs a)) c [] (all_head (is_clause vars) c cs a) true at)

  -- the word behind the problem line is the first of its line
  clauses_opened : (cs : List (List ℤ)) (at : ℕ) → read_behind vars end (words_of_lines (text_lines at [] (clauses_text cs)))
      ≡ read_clauses vars end [] (words_of_lines (text_lines at [] (clauses_text cs)))
  unfolding clauses_text clause_text decimal_in expect
  clauses_opened [] at = rw (line_none at)
  clauses_opened ([] ∷ cs) at = rw (line_plain at (48 ∷ 10 ∷ clauses_text cs) refl, number_line true at (pos 0) (clauses_text cs))
  clauses_opened ((l ∷ c) ∷ cs) at =
      let body = clauses_text cs in
      rw (line_plain at (clause_text (l ∷ c) ++ body) (clause_uncommented (l ∷ c) body), append_assoc, number_blank true at l (clause_text c ++ body))

  -- ---- the problem line, word by word

  problem_read : (cs : List (List ℤ)) → 1 ≤ vars → vars ≤ 2048 → all_pass (is_clause vars) cs ≡ true
      → read_problem end (text_words (cnf_text vars cs)) ≡ sound (record { vars = vars; clauses = cs })
  unfolding read_problem read_format read_number expect expect_number word_bytes
  problem_read cs low high a =
      let body = clauses_text cs in
      let count = decimal (length cs) ++ (10 ∷ body) in
      let counts = decimal vars ++ (32 ∷ count) in
      let at = 6 + length (decimal vars) + 1 in
      let at' = at + length (decimal (length cs)) + 1 in
      rw (
        append_assoc (decimal vars) _ body,
        append_assoc (decimal (length cs)) _ body,
        line_plain 0 (112 ∷ 32 ∷ 99 ∷ 110 ∷ 102 ∷ 32 ∷ counts) refl,
        whole_blank true 0 32 (112 ∷ []) (99 ∷ 110 ∷ 102 ∷ 32 ∷ counts) (omega arith) refl refl refl,
        whole_blank false 2 32 (99 ∷ 110 ∷ 102 ∷ []) counts (omega arith) refl refl refl,
        number_blank false 6 (pos vars) count,
        natural_decimal vars,
        lt-ltb 0 vars low,
        le-leb vars 2048 high,
        number_line false at (pos (length cs)) body,
        natural_decimal (length cs),
        clauses_opened cs at',
        clauses_read cs a at',
        eq-eqb (length cs) (length cs) refl,
      )

pub written_read : (vars : ℕ) (cs : List (List ℤ)) → 1 ≤ vars → vars ≤ 2048 → all_pass (is_clause vars) cs ≡ true
    → read_text (cnf_text vars cs) ≡ sound (record { vars = vars; clauses = cs })
written_read vars cs = problem_read vars (length (cnf_text vars cs)) cs
