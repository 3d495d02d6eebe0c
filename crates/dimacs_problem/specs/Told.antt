-- What is told of the problem line of a text.
use Rattle.std.specs.Prelude.{◌≡◌, false, List, [], ℕ, ◌≤◌, length, drop, Result, Ok, Err}
use Rattle.text.specs.Words.{TextWord, words_from}
use Rattle.text.specs.Places.{Behind}
use Rattle.text_numbers.specs.Told.{capped}
use Rattle.dimacs.specs.Reading.{Read, faulty, Cnf, read_clauses, counted, read_number}
use Rattle.dimacs.specs.declared.TextFault.{TextFault}
use Rattle.dimacs_problem.specs.declared.CountWord.{CountWord}
use Rattle.dimacs_problem.specs.declared.Declared.{Declared}

-- what a number of the problem line goes on with
abbrev pub More : Type 0
More = ℕ → ℕ → List TextWord → Read Cnf

-- the words ws, which are those from a place behind a word on, start with a number of the problem line, told as v, which ends at `end`
pub record CountRead (text : List ℕ) (ws : List TextWord) (v at end : ℕ) : Type 0 where
  pub number : ℕ
  pub told : v ≡ capped number
  pub inside : end ≤ length text
  pub behind : Behind text end
  pub rest : words_from false end text ≡ drop 1 ws
  pub read_on : (more : More) → read_number (length text) ws more ≡ more at number (words_from false end text)

abbrev pub CountTold : List ℕ → List TextWord → Result CountWord TextFault → Type 0
CountTold text ws (Ok w) = CountRead text ws w.value w.at w.end
CountTold text ws (Err f) = (more : More) → read_number (length text) ws more ≡ faulty f

-- the problem line ends at `end`, before the words `rest`, and reading goes on with these
pub record LineRead (text : List ℕ) (rest : List TextWord) (read : Read Cnf) (vars count end : ℕ) : Type 0 where
  pub number : ℕ
  pub told : count ≡ capped number
  pub low : 1 ≤ vars
  pub high : vars ≤ 2048
  pub inside : end ≤ length text
  pub behind : Behind text end
  pub words : words_from false end text ≡ rest
  pub read_on : read ≡ counted vars number (length text) (read_clauses vars (length text) [] (words_from false end text))

-- reading comes to a fault, or goes on behind the problem line
abbrev pub ProblemTold : List ℕ → List TextWord → Read Cnf → Result Declared TextFault → Type 0
ProblemTold text rest read (Ok d) = LineRead text rest read d.vars d.clauses d.end
ProblemTold text rest read (Err f) = read ≡ faulty f
