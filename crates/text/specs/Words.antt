-- A text of any bytes, as lines and as words. Nothing here knows what they say. What a branch needs alone is bound by `let`, so that the prover, when it
-- computes with a text, takes one branch at each byte.
use Rattle.std.specs.Prelude.{Bool, true, false, cond, ◌||◌, List, [], ◌∷◌, ◌++◌, ℕ, ◌+◌, eqb, length, drop}

-- ---- lines

-- a line: where its first byte stands, from 0, and its bytes
pub record TextLine : Type 0 where
  pub start : ℕ
  pub bytes : List ℕ

-- A line ends at LF. `begun` are the bytes of the first line, from place `start` on, that were read already.
unfoldable pub text_lines : ℕ → List ℕ → List ℕ → List TextLine
text_lines start begun [] = record { start = start; bytes = begun } ∷ []
text_lines start begun (b ∷ bs) =
    let closed : List TextLine = record { start = start; bytes = begun } ∷ text_lines (start + length begun + 1) [] bs in
    let more = text_lines start (begun ++ (b ∷ [])) bs in
    cond (eqb b 10) closed more

-- "comment lines starting with c"
abbrev pub is_comment : List ℕ → Bool
is_comment [] = false
is_comment (b ∷ bs) = eqb b 99

-- ---- words

-- what stands between words: space, tab, CR and LF
abbrev pub is_blank : ℕ → Bool
is_blank b = ((eqb b 32 || eqb b 9) || eqb b 13) || eqb b 10

-- a word: where its first byte stands, whether it is the first of its line, and its bytes
pub record TextWord : Type 0 where
  pub at : ℕ
  pub first : Bool
  pub bytes : List ℕ

-- the word that ends here, if one was begun
abbrev pub ended_word : Bool → ℕ → List ℕ → List TextWord
ended_word first at [] = []
ended_word first at (b ∷ w) = record { at = at; first = first; bytes = b ∷ w } ∷ []

-- whether the next word is still the first of its line, behind these bytes of one
abbrev pub still_first : Bool → List ℕ → Bool
still_first first [] = first
still_first first (b ∷ w) = false

-- The words of a line: the longest runs of bytes that are no blanks. `w` are the bytes, from place `at` on, of a word that was begun.
unfoldable pub line_words : Bool → ℕ → List ℕ → List ℕ → List TextWord
line_words first at w [] = ended_word first at w
line_words first at w (b ∷ bs) =
    let closed = ended_word first at w ++ line_words (still_first first w) (at + length w + 1) [] bs in
    let more = line_words first at (w ++ (b ∷ [])) bs in
    cond (is_blank b) closed more

-- of lines, comment lines left out
unfoldable pub words_of_lines : List TextLine → List TextWord
words_of_lines [] = []
words_of_lines (l ∷ ls) = cond (is_comment l.bytes) [] (line_words true l.start [] l.bytes) ++ words_of_lines ls

-- the words of a text
abbrev pub text_words : List ℕ → List TextWord
text_words text = words_of_lines (text_lines 0 [] text)

-- ---- from a place on

-- the words of a text from place `at` on, where a line starts
abbrev pub words_at_line : ℕ → List ℕ → List TextWord
words_at_line at text = words_of_lines (text_lines at [] (drop at text))

-- of lines the first of which was begun, and is no comment
abbrev pub words_of_rest : Bool → List TextLine → List TextWord
words_of_rest first [] = []
words_of_rest first (l ∷ ls) = line_words first l.start [] l.bytes ++ words_of_lines ls

-- the words of a text from place `at` on, inside a line that is no comment, before its first word or not
abbrev pub words_from : Bool → ℕ → List ℕ → List TextWord
words_from first at text = words_of_rest first (text_lines at [] (drop at text))
