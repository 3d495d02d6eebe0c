-- Document 02, request 1: "Read that text into ADD frames with ids 1, 2, 3 and so on."
use Rattle.std.specs.Prelude.{cond, List, [], ◌∷◌, ◌++◌, ℕ, ◌+◌, ltb, ℤ, pos, length}
use Rattle.std.proofs.Math.Option.{Option, none, some}
use Rattle.text.specs.Words.{TextWord}
use Rattle.dimacs.specs.Reading.{ClauseWord, Wrong, Closing, Literal, Read, faulty, sound, Cnf, clause_word}

-- "1 ADD | id, literals"
abbrev pub add_frame : ℕ → List ℤ → List ℤ
add_frame i c = pos 1 ∷ pos i ∷ c

-- the first of them under id i
unfoldable pub add_frames : ℕ → List (List ℤ) → List (List ℤ)
add_frames i [] = []
add_frames i (c ∷ cs) = add_frame i c ∷ add_frames (i + 1) cs

-- "A text with a fault yields no frame. The clauses are those of the text, in order"
abbrev pub frames_of : Read Cnf → List (List ℤ)
frames_of (faulty f) = []
frames_of (sound x) = add_frames 1 x.clauses

-- ---- one clause after the other

-- a clause, the place behind the word that closes it, and the words from there on
pub record ClosedClause : Type 0 where
  pub lits : List ℤ
  pub behind : ℕ
  pub rest : List TextWord

abbrev pub by_word : {A : Type 0} → ClauseWord → A → A → (ℤ → A) → A
by_word (Wrong f) wrong closed more = wrong
by_word Closing wrong closed more = closed
by_word (Literal l) wrong closed more = more l

-- The next clause of words, whatever stands behind it: literals of 1 to 2,048, at most 256 of them, up to the 0. In a text without fault it is the text's
-- next clause.
unfoldable pub next_clause : List ℤ → List TextWord → Option ClosedClause
next_clause begun [] = none
next_clause begun (w ∷ ws) =
    by_word (clause_word 2048 w) none (some (record { lits = begun; behind = w.at + length w.bytes; rest = ws }))
    λ l. cond (ltb (length begun) 256) (next_clause (begun ++ (l ∷ [])) ws) none
