-- What is told of the bytes of a word, taken from a part of a proof.
use Rattle.std.specs.Prelude.{◌≡◌, Bool, true, not, List, ℕ, ◌≤◌, ◌<◌, length, get_or}
use Rattle.std.proofs.Math.Seq.{slice}
use Rattle.rules.specs.Lists.{all_pass}
use Rattle.text.specs.Words.{is_blank}
use Rattle.lrat.specs.Machine.{pushes}
use Rattle.lrat.specs.declared.ProofWord.{ProofWord}
use Rattle.lrat_words.specs.declared.WordTaken.{WordTaken}

abbrev pub in_word : ℕ → Bool
in_word b = not (is_blank b)

-- the bytes from `from` to before `to` are no blanks, and w became v by them
pub record Pushed (part : List ℕ) (from : ℕ) (w : ProofWord) (to : ℕ) (v : ProofWord) : Type 0 where
  pub low : from ≤ to
  pub high : to ≤ length part
  pub no_blank : all_pass in_word (slice from to part) ≡ true
  pub read : v ≡ pushes w (slice from to part)

-- up to a blank, or the part's end
pub record TookWord (part : List ℕ) (from : ℕ) (w : ProofWord) (r : WordTaken) : Type 0 where
  pub pushed : Pushed part from w r.from r.word
  pub stops : r.from < length part → is_blank (get_or part r.from 0) ≡ true
