-- An answer to SAT or UNSAT: the paper's, and the model buffer after it.
use Rattle.std.specs.Prelude.{◌≡◌, List, ℕ, ℤ}
use Rattle.rules.specs.Frames.{Frame}
use Rattle.rules.specs.Answers.{check, Handed, untouched, mended, settled}
use Rattle.rules.specs.Results.{Answer}
use Rattle.lit_sets.specs.Words.{assigned}
use Rattle.table.specs.Spelled.{Row, spelled}
use Rattle.table.specs.declared.Table.{Table}

-- the model buffer, of 32 words: the mended assignment's after an accepted SAT, else as it was
abbrev pub ModelWritten : Handed → List ℕ → List ℕ → Type 0
ModelWritten untouched model model' = model' ≡ model
ModelWritten (mended α β) model model' = assigned model' ≡ β

-- an answer that writes no table
pub record AnswerOf (t : Table) (rows : List Row) (pool : List ℤ) (stack : List ℕ) (f : Frame) (r : Answer) (model model' : List ℕ) : Type 0 where
  pub answered : r ≡ (settled (spelled t rows pool stack) f (check (spelled t rows pool stack) f)).answer
  pub handed : ModelWritten (settled (spelled t rows pool stack) f (check (spelled t rows pool stack) f)).handed model model'
