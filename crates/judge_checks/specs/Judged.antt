-- What a judgment says: the paper's check, and the row of the held clause that the frame names.
use Rattle.std.specs.Prelude.{◌≡◌, List, ℕ, ℤ, Result, Ok, Err}
use Rattle.rules.specs.Frames.{Frame, ADD, LEARN, FORGET, PROMOTE, DROP, WEAKEN, RESTORE, SAT, UNSAT}
use Rattle.rules.specs.Answers as paper
use Rattle.rules.specs.declared.Fault.{Fault}
use Rattle.table.specs.Spelled.{Row, spelled}
use Rattle.table.specs.declared.Table.{Table}
use Rattle.judge_checks.specs.Located.{RowOf}

-- k is the row of the held clause that an accepted frame names, in its place; 0 where it names none
abbrev pub NamedRow : Table → List Row → Frame → ℕ → Type 0
NamedRow t rows (ADD i c) k = k ≡ 0
NamedRow t rows (LEARN i c hints) k = k ≡ 0
NamedRow t rows (FORGET i) k = RowOf t rows 1 i k
NamedRow t rows (PROMOTE i) k = RowOf t rows 1 i k
NamedRow t rows (DROP i hints) k = RowOf t rows 0 i k
NamedRow t rows (WEAKEN i witness groups) k = RowOf t rows 0 i k
NamedRow t rows (RESTORE i) k = RowOf t rows 2 i k
NamedRow t rows (SAT assumed vs) k = k ≡ 0
NamedRow t rows (UNSAT assumed hints) k = k ≡ 0

-- the judgment of a frame
abbrev pub Judges : Table → List Row → List ℤ → List ℕ → Frame → Result ℕ Fault → Type 0
Judges t rows pool stack f (Ok k) = (paper.check (spelled t rows pool stack) f ≡ Ok tt) × NamedRow t rows f k
Judges t rows pool stack f (Err e) = paper.check (spelled t rows pool stack) f ≡ Err e
