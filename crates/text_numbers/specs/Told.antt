-- What is told of a word that may be a number.
use Rattle.std.specs.Prelude.{◌≡◌, Bool, true, false, cond, List, [], ◌∷◌, ℕ, ◌+◌, ◌≤◌, ◌<◌, min, ℤ, pos, neg_ℤ, length, get_or, Option, Some, None}
use Rattle.std.proofs.Math.Option.{none, some}
use Rattle.std.proofs.Math.Seq.{slice}
use Rattle.rules.specs.Lists.{all_pass}
use Rattle.text.specs.Words.{is_blank}
use Rattle.text_numbers.specs.Numbers.{is_decimal, said_on, natural_of, integer_of}
use Rattle.text_numbers.specs.declared.Numeral.{Numeral}
use Rattle.text_numbers.specs.declared.Integer.{Integer}

-- numbers of 10^19 and above are told as that; no text is so long
abbrev pub capped : ℕ → ℕ
capped n = min n 10000000000000000000

-- no byte of a word comes next
abbrev pub ends_word : List ℕ → Bool
ends_word [] = true
ends_word (b ∷ bs) = is_blank b

-- the bytes from `from` to before i are digits, and say v
pub record Saying (text : List ℕ) (from v i : ℕ) : Type 0 where
  pub low : from ≤ i
  pub high : i ≤ length text
  pub all : all_pass is_decimal (slice from i text) ≡ true
  pub value : v ≡ capped (said_on 0 (slice from i text))

-- all digits from a place on
pub record Decimals (text : List ℕ) (from : ℕ) (r : Numeral) : Type 0 where
  pub saying : Saying text from r.value r.end
  pub stops : r.end < length text → is_decimal (get_or text r.end 0) ≡ false

-- the word w, from place `at` on, as a number
abbrev pub NumeralTold : List ℕ → ℕ → Option Numeral → Type 0
NumeralTold w at (Some r) = (n : ℕ) × (natural_of w ≡ some n) × (r.value ≡ capped n) × (r.end ≡ at + length w)
NumeralTold w at None = natural_of w ≡ none

abbrev pub with_sign : Bool → ℕ → ℤ
with_sign minus n = cond minus (neg_ℤ (pos n)) (pos n)

-- the word w, from place `at` on, as a signed number
abbrev pub IntegerTold : List ℕ → ℕ → Option Integer → Type 0
IntegerTold w at (Some r) = (n : ℕ) × (integer_of w ≡ some (with_sign r.minus n)) × (r.value ≡ capped n) × (r.end ≡ at + length w)
IntegerTold w at None = integer_of w ≡ none
