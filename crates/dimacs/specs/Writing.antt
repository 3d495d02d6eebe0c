-- Document 02, request 12: clauses "as DIMACS text, with V and the clause count, one clause a line, single blanks, no comments".
use Rattle.std.specs.Prelude.{List, [], ◌∷◌, ◌++◌, ℕ, ℤ, length}
use Rattle.text_numbers.specs.Numbers.{decimal, signed_decimal}

-- its literals, each with a blank behind it, then 0 and LF
unfoldable pub clause_text : List ℤ → List ℕ
clause_text [] = 48 ∷ 10 ∷ []
clause_text (l ∷ c) = signed_decimal l ++ (32 ∷ clause_text c)

unfoldable pub clauses_text : List (List ℤ) → List ℕ
clauses_text [] = []
clauses_text (c ∷ cs) = clause_text c ++ clauses_text cs

-- p cnf V C, and LF
abbrev pub problem_text : ℕ → ℕ → List ℕ
problem_text vars count = 112 ∷ 32 ∷ 99 ∷ 110 ∷ 102 ∷ 32 ∷ (decimal vars ++ (32 ∷ (decimal count ++ (10 ∷ []))))

abbrev pub cnf_text : ℕ → List (List ℤ) → List ℕ
cnf_text vars cs = problem_text vars (length cs) ++ clauses_text cs
