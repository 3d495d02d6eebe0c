-- What is told of the next word of a text, which may be a number.
use Rattle.std.specs.Prelude.{◌≡◌, ℕ, ◌+◌, ◌<◌, ◌≤◌, true, false, List, [], ◌∷◌, length, Option, IfSome}
use Rattle.std.proofs.Math.Option.{some}
use Rattle.text.specs.Words.{words_from}
use Rattle.text.specs.Places.{word_at}
use Rattle.text_numbers.specs.Numbers.{integer_of}
use Rattle.text_numbers.specs.Told.{capped, with_sign, IntegerTold}
use Rattle.text_numbers.specs.declared.Integer.{Integer}
use Rattle.text_next.specs.declared.NextWord.{NextWord}

-- ---- a short word

-- a number below 10^8 is told, and never -0
pub record QuickSaid (w : List ℕ) (at : ℕ) (r : Integer) : Type 0 where
  pub number : (n : ℕ) × (integer_of w ≡ some (with_sign r.minus n)) × (r.value ≡ capped n) × (r.end ≡ at + length w)
  pub small : r.value < 100000000
  pub signed : r.minus ≡ true → 0 < r.value

-- else nothing
abbrev pub QuickTold : List ℕ → ℕ → Option Integer → Type 0
QuickTold w at r = IfSome r (QuickSaid w at)

-- ---- the next word behind a word

pub record NextTold (text : List ℕ) (from : ℕ) (r : NextWord) : Type 0 where
  pub low : from ≤ r.at
  pub high : r.at ≤ length text
  pub last : length text ≤ r.at → words_from false from text ≡ []
  pub next : r.at < length text →
      words_from false from text
      ≡ record { at = r.at; first = r.first; bytes = word_at r.at text } ∷ words_from false (r.at + length (word_at r.at text)) text
  pub told : IntegerTold (word_at r.at text) r.at r.read
