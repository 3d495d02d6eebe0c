-- What a frame came to, by its answer.
use Rattle.std.specs.Prelude.{Bool, true, false}
use Rattle.rules.specs.declared.Fault.{Fault}
use Rattle.std.specs.Prelude.{Result, Ok, Err}
use Rattle.rules.specs.Results.{Check, Answer}
use Rattle.table.specs.declared.Table.{Table}
use Rattle.step_outcome.specs.declared.Stepped.{Stepped}
use Rattle.step_outcome.specs.declared.Written.{Written}
use Rattle.step_outcome.specs.declared.Written.TheVariants.{Nothing, Tables, Model}

-- the answer to a frame that hands out no model
abbrev pub answer_of : Check → Answer
answer_of (Ok tt) = Ok 0
answer_of (Err e) = Err e

abbrev pub refused_with : Fault → Table → Stepped
refused_with e t = record { answer = Err e; table = t; written = Nothing }

abbrev pub accepted_with : Table → Stepped
accepted_with t = record { answer = Ok 0; table = t; written = Tables }

-- by what an operation that writes came to
abbrev pub changed_with : Result Table Fault → Table → Stepped
changed_with (Ok t') t = accepted_with t'
changed_with (Err e) t = refused_with e t

-- what was written, by what an accepted one writes
abbrev pub unless_refused : Written → Answer → Written
unless_refused w (Ok n) = w
unless_refused w (Err e) = Nothing

abbrev pub answered_with : Answer → Written → Table → Stepped
answered_with a w t = record { answer = a; table = t; written = unless_refused w a }

abbrev pub is_tables : Written → Bool
is_tables Nothing = false
is_tables Tables = true
is_tables Model = false
