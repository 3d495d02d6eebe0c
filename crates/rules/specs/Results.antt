-- What the checks of a step come to, and the answer to a step: Rust's own results, with a fault of document 01 where they fail.
use Rattle.std.specs.Prelude.{ℕ, Result}
use Rattle.rules.specs.declared.Fault.{Fault}

-- the first fault, or none
abbrev pub Check : Type 0
Check = Result (Unit {0}) Fault

-- the number of variables that an accepted SAT changed, 0 where another frame was accepted; or the fault
abbrev pub Answer : Type 0
Answer = Result ℕ Fault
