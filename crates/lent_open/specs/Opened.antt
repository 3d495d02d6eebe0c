-- What an opening hands out: an answer, and what is carried.
use Rattle.std.specs.Prelude.{ℕ, replicate}
use Rattle.std.specs.Prelude.{Ok, Err}
use Rattle.rules.specs.Results.{Check}
use Rattle.rules.specs.declared.Fault.{Fault}
use Rattle.lent.specs.declared.Called.{Called}
use Rattle.lent.specs.declared.Carried.{Carried}

-- the carried value of an empty state; with V = 0, that of no state
abbrev pub empty : ℕ → Carried
empty vars = record { vars = vars; highest = 0; count = 0; words = 0; depth = 0; stack = replicate 1024 0 }

abbrev pub unopened_with : Fault → Called
unopened_with e = record { answer = Err e; carried = empty 0 }

abbrev pub opened_with : ℕ → Check → Called
opened_with vars (Ok tt) = record { answer = Ok 0; carried = empty vars }
opened_with vars (Err e) = unopened_with e
