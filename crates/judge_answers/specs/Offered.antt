-- What SAT's judgment says of the offered assignment.
use Rattle.std.specs.Prelude.{◌≡◌, List, ℕ, ℤ, Result, Ok, Err}
use Rattle.rules.specs.Terms.{Assignment, State}
use Rattle.rules.specs.Frames.{SAT, offered}
use Rattle.rules.specs.Answers.{◌then◌, assumed_true, cleanly, satisfied, check}
use Rattle.rules.specs.declared.Fault.{Fault}
use Rattle.rules.specs.Results.{Check}
use Rattle.lit_sets.specs.Words.{assigned}
use Rattle.table.specs.Spelled.{Row, spelled}
use Rattle.table.specs.declared.Table.{Table}

-- "SAT 11, 5, 10", of the offered assignment α
abbrev pub check_offered : State → Assignment → List ℤ → Check
check_offered s α assumed =
    assumed_true α 2 assumed then
    cleanly assumed s.stack then
    satisfied α s.irredundant

-- SAT's judgment: where its checks pass, the words are those of the offered assignment
abbrev pub Offers : Table → List Row → List ℤ → List ℕ → List ℤ → List ℤ → Result (List ℕ) Fault → Type 0
Offers t rows pool stack assumed vs (Ok words) =
    (check (spelled t rows pool stack) (SAT assumed vs) ≡ Ok tt) × (assigned words ≡ offered vs)
Offers t rows pool stack assumed vs (Err e) = check (spelled t rows pool stack) (SAT assumed vs) ≡ Err e
