-- What a line's reply lists, and what feeding may lean on.
use Rattle.std.specs.Prelude.{◌≡◌, Bool, false, List, [], ℕ, ◌≤◌, ℤ, length}
use Rattle.rules.specs.Outcomes.{trues}
use Rattle.lit_sets.specs.Words.{assigned}
use Rattle.table.specs.Spelled.{Row, Same, Fit}
use Rattle.table.specs.declared.Table.{Table}
use Rattle.line_read.specs.declared.Reader.{Reader}
use Rattle.step_outcome.specs.declared.Written.{Written}
use Rattle.step_outcome.specs.declared.Written.TheVariants.{Nothing, Tables, Model}

-- the true variables of the 32 words, where they were written
abbrev pub listed : Written → List ℕ → List ℕ
listed Nothing model = []
listed Tables model = []
listed Model model = trues (assigned model) 2048 []

-- working tables, a reader and its frame buffer
pub record Feedable (t : Table) (rows : List Row) (pool : List ℤ) (stack : List ℕ) (r : Reader) (frame : List ℤ) : Type 0 where
  pub fit : Fit t rows pool stack
  pub most : r.digits ≤ 32768
  pub wide : 4096 ≤ length frame

-- what lines did to the tables: whether one of them was an accepted change; and where none was, nothing
pub record Altering (told altered : Bool) (t : Table) (rows : List Row) (pool : List ℤ) (stack : List ℕ) (t' : Table) (rows' : List Row) (pool' : List ℤ)
    (stack' : List ℕ) : Type 0 where
  pub told_so : altered ≡ told
  pub left : altered ≡ false → Same t rows pool stack t' rows' pool' stack'
