-- An operation, judged and applied: where the paper's check passes, the tables spell the paper's next state; where it does not, they are as they were.
use Rattle.std.specs.Prelude.{◌≡◌, List, ℕ, ℤ, Result, Ok, Err}
use Rattle.rules.specs.Frames.{Frame}
use Rattle.rules.specs.Answers.{check}
use Rattle.rules.specs.declared.Fault.{Fault}
use Rattle.table.specs.Spelled.{Row, spelled, Same}
use Rattle.table_write.specs.Moved.{Moved}
use Rattle.table.specs.declared.Table.{Table}

abbrev pub Applied : Table → List Row → List ℤ → List ℕ → Frame → Result Table Fault → List Row → List ℤ → List ℕ → Type 0
Applied t rows pool stack f (Ok t') rows' pool' stack' =
    (check (spelled t rows pool stack) f ≡ Ok tt) × Moved t rows pool stack t' rows' pool' stack' f
Applied t rows pool stack f (Err e) rows' pool' stack' =
    (check (spelled t rows pool stack) f ≡ Err e) × Same t rows pool stack t rows' pool' stack'
