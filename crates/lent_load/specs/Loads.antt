-- What loading promises.
use Rattle.std.specs.Prelude.{◌≡◌, true, false, List, ◌≤◌, ℤ, length}
use Rattle.table.specs.Spelled as working
use Rattle.table.specs.Spelled.{Row, Fit}
use Rattle.lent.specs.declared.Carried.{Carried}
use Rattle.table.specs.declared.Table.{Table}
use Rattle.std.specs.Prelude.{Option}
use Rattle.std.specs.Prelude.{Some, None}
use Rattle.lent.specs.State.{is_state, state_of}

-- the working table, whose rows are those held by rising id, spells the state; or there is none
abbrev pub Loads : Carried → List Row → List ℤ → Option Table → List Row → Type 0
Loads c rows pool (Some t) rows' =
    (is_state c rows pool ≡ true) × Fit t rows' pool c.stack × (working.spelled t rows' pool c.stack ≡ state_of c rows pool)
Loads c rows pool None rows' = is_state c rows pool ≡ false

-- the stack has room for 1,024 ids, and is no deeper
abbrev pub StackLent : Carried → Type 0
StackLent c = (length c.stack ≡ 1024) × (c.depth ≤ 1024)
