-- What is told of a line that is closed.
use Rattle.std.specs.Prelude.{◌≡◌, cond, List, ℕ, ℤ, take}
use Rattle.rules.specs.Terms.{Literals}
use Rattle.table.specs.Spelled.{Row, spelled, Fit}
use Rattle.table.specs.declared.Table.{Table}
use Rattle.lrat.specs.Machine.{line_code, is_last, emptied, state_behind}
use Rattle.lrat.specs.declared.ProofLine.{ProofLine}
use Rattle.lrat.specs.Kept.{read_with}
use Rattle.lrat_close.specs.declared.LineClosed.{LineClosed}

abbrev pub empty_table : ℕ → ℕ → Table
empty_table vars entries = record { vars = vars; highest = 0; entries = entries; count = 0; gone = 0; words = 0; depth = 0; top = 0 }

-- whatever is false, the tables, the number of refusal and whether the answer is known are the machine's
pub record Closes (t : Table) (rows : List Row) (pool : List ℤ) (stack : List ℕ) (l : ProofLine) (lits : List ℤ) (r : LineClosed) (rows' : List Row)
    (pool' : List ℤ) : Type 0 where
  pub fit : Fit r.table rows' pool' stack
  pub coded : (F : Literals) → r.code ≡ line_code (spelled t rows pool stack) (read_with l (take l.count lits) F)
  pub known : (F : Literals) → r.over ≡ is_last r.code (read_with l (take l.count lits) F)
  pub state : (F : Literals) → spelled r.table rows' pool' stack
      ≡ cond r.over (emptied (spelled t rows pool stack)) (state_behind (spelled t rows pool stack) (read_with l (take l.count lits) F))
