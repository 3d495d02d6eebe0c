-- What is said of places in a text.
use Rattle.std.specs.Prelude.{◌≡◌, Bool, true, false, not, cond, List, [], ◌∷◌, ℕ, ◌+◌, ◌≤◌, ◌<◌, eqb, length, get_or, take, drop}
use Rattle.std.proofs.Math.Seq.{slice}
use Rattle.rules.specs.Lists.{all_pass}
use Rattle.text.specs.Words.{is_blank, text_words, words_at_line, words_from}
use Rattle.text.specs.declared.Place.{Place}
use Rattle.text.specs.declared.Sought.{Sought}

-- ---- lines

-- a byte that closes no line
abbrev pub goes_on : ℕ → Bool
goes_on b = not (eqb b 10)

-- none of the bytes from `from` to before from' is LF
pub record Unclosed (text : List ℕ) (from from' : ℕ) : Type 0 where
  pub low : from ≤ from'
  pub high : from' ≤ length text
  pub goes : all_pass goes_on (slice from from' text) ≡ true

-- the line that `from` stands in ends at r: at its LF, or with the text
pub record LineEnds (text : List ℕ) (from r : ℕ) : Type 0 where
  pub unclosed : Unclosed text from r
  pub closed : r < length text → get_or text r 0 ≡ 10

-- from the start of a line on, r is reached past comment lines
pub record PastComments (text : List ℕ) (from r : ℕ) : Type 0 where
  pub low : from ≤ r
  pub high : r ≤ length text
  pub same : words_at_line from text ≡ words_from true r text

-- the line and the column of the byte behind these, both counted from 1, where the first of these stands at the line and column
unfoldable pub place_on : ℕ → ℕ → List ℕ → Place
place_on line column [] = record { line = line; column = column }
place_on line column (b ∷ bs) = cond (eqb b 10) (place_on (line + 1) 1 bs) (place_on line (column + 1) bs)

abbrev pub text_place : List ℕ → ℕ → Place
text_place text at = place_on 1 1 (take at text)

-- ---- words

-- the bytes of a word, from its first on: those before the next blank
unfoldable pub word_bytes : List ℕ → List ℕ
word_bytes [] = []
word_bytes (b ∷ bs) = cond (is_blank b) [] (b ∷ word_bytes bs)

abbrev pub word_at : ℕ → List ℕ → List ℕ
word_at at text = word_bytes (drop at text)

-- no byte of a word stands at the place
abbrev pub Behind : List ℕ → ℕ → Type 0
Behind text at = at < length text → is_blank (get_or text at 0) ≡ true

-- from a place inside a line on, the next word is found, or the text's end
pub record Seeks (text : List ℕ) (first : Bool) (from : ℕ) (r : Sought) : Type 0 where
  pub low : from ≤ r.at
  pub high : r.at ≤ length text
  pub same : words_from first from text ≡ words_from r.first r.at text
  pub stops : r.at < length text → is_blank (get_or text r.at 0) ≡ false

-- the first word of the text is found, or its end
pub record SeeksFirst (text : List ℕ) (r : Sought) : Type 0 where
  pub high : r.at ≤ length text
  pub same : text_words text ≡ words_from r.first r.at text
  pub stops : r.at < length text → is_blank (get_or text r.at 0) ≡ false
