-- What is told of the clauses of a text.
use Rattle.std.specs.Prelude.{◌≡◌, Bool, true, false, List, [], ℕ, ◌≤◌, ◌<◌, eqb, ℤ, length, get_or, take, set, replicate, Result, Ok, Err}
use Rattle.std.proofs.Math.Option.{none, some}
use Rattle.text.specs.Words.{words_from}
use Rattle.text.specs.Places.{Behind}
use Rattle.dimacs.specs.Reading.{faulty, sound, read_clauses}
use Rattle.dimacs.specs.Frames.{next_clause}
use Rattle.dimacs.specs.declared.TextFault.{TextFault}
use Rattle.dimacs_judge.specs.declared.Scanned.{Scanned}
use Rattle.dimacs_judge.specs.declared.Scanned.TheVariants.{Closed, Ended}

-- ---- a number on the way

-- r tells whether v has the stamp already, and then it has it
pub record Stamps (stamps : List ℕ) (v stamp : ℕ) (r : Bool) (stamps' : List ℕ) : Type 0 where
  pub told : r ≡ eqb (get_or stamps v 0) stamp
  pub kept : r ≡ true → stamps' ≡ stamps
  pub stamped : r ≡ false → stamps' ≡ set stamps v stamp

abbrev pub StopsTold : Bool → List ℕ → ℕ → ℕ → Bool → List ℕ → Type 0
StopsTold true stamps v stamp r stamps' = Stamps stamps v stamp r stamps'
StopsTold false stamps v stamp r stamps' = (r ≡ eqb v 0) × (stamps' ≡ stamps)

-- ---- clauses

-- no stamp is given yet; one clause is read as of 2,048 variables
pub record ScanAsked (text : List ℕ) (from vars : ℕ) (all : Bool) (stamps : List ℕ) (lits : List ℤ) : Type 0 where
  pub inside : from ≤ length text
  pub behind : Behind text from
  pub few : vars ≤ 2048
  pub one : all ≡ false → vars ≡ 2048
  pub fresh : all ≡ true → stamps ≡ replicate 2049 0
  pub room : 257 ≤ length lits

-- the clauses from place `from` on, all of them: their number, or the first fault; a clause takes a byte at least
abbrev pub AllTold : List ℕ → ℕ → ℕ → Result Scanned TextFault → Type 0
AllTold text from vars (Ok (Closed n end)) = ⊥
AllTold text from vars (Ok (Ended n)) =
    (cs : List (List ℤ)) × (read_clauses vars (length text) [] (words_from false from text) ≡ sound cs) × (n ≡ length cs) × (n ≤ length text)
AllTold text from vars (Err f) = read_clauses vars (length text) [] (words_from false from text) ≡ faulty f

-- the next clause alone; its literals are the first of lits
abbrev pub OneTold : List ℕ → ℕ → List ℤ → Result Scanned TextFault → Type 0
OneTold text from lits (Ok (Closed n end)) =
    (n ≤ 256) × (from < end) × (end ≤ length text)
    × (next_clause [] (words_from false from text) ≡ some (record { lits = take n lits; behind = end; rest = words_from false end text }))
OneTold text from lits (Ok (Ended n)) = next_clause [] (words_from false from text) ≡ none
OneTold text from lits (Err f) = next_clause [] (words_from false from text) ≡ none

abbrev pub ScanTold : Bool → List ℕ → ℕ → ℕ → List ℤ → Result Scanned TextFault → Type 0
ScanTold true text from vars lits r = AllTold text from vars r
ScanTold false text from vars lits r = OneTold text from lits r
