-- What checking a proof over lent tables comes to, for every input: answer, what is carried, and the tables.
use Rattle.std.specs.Prelude.{◌≡◌, cond, List, ℕ, ℤ, length}
use Rattle.std.proofs.Math.Option.{Option, none, some}
use Rattle.rules.specs.Answers.{lent, check_open, opened}
use Rattle.std.specs.Prelude.{Ok}
use Rattle.dimacs.specs.Reading.{Read, faulty, sound, Cnf, read_text}
use Rattle.lent.specs.declared.Carried.{Carried}
use Rattle.lent_entries.specs.Lent.{state_lent}
use Rattle.lent_entries.specs.declared.Entry.{Entry}
use Rattle.lent_open.specs.Opened.{opened_with}
use Rattle.lent_open.specs.Opened as opening
use Rattle.lrat.specs.Checking.{lrat}
use Rattle.lrat.specs.declared.LratAnswer.{LratAnswer}
use Rattle.call_lrat.specs.declared.LratCalled.{LratCalled}

-- V, where the text has no fault
abbrev pub vars_of : Read Cnf → Option ℕ
vars_of (faulty f) = none
vars_of (sound x) = some x.vars

-- V, where the tables are opened: lent sizes in range, and a text without fault
abbrev pub opens : ℕ → ℕ → List ℕ → Option ℕ
opens entries words cnf = cond (lent entries words) (vars_of (read_text cnf)) none

abbrev pub called_empty : LratAnswer → ℕ → ℕ → ℕ → LratCalled
called_empty a vars entries words = record { answer = a; carried = (opened_with vars (check_open vars entries words)).carried }

-- over a table of n entries
pub record ChecksLent (n : ℕ) (pool : List ℤ) (c : Carried) (cnf proof : List ℕ) (q : LratCalled) (pool' : List ℤ) : Type 0 where
  pub answered : q.answer ≡ lrat n (length pool) cnf proof
  pub emptied : (vars : ℕ) → opens n (length pool) cnf ≡ some vars → (q.carried ≡ opening.empty vars) × (check_open vars n (length pool) ≡ Ok tt)
  pub left : opens n (length pool) cnf ≡ none → (q.carried ≡ c) × (pool' ≡ pool)

pub record Checks (entries : List Entry) (pool : List ℤ) (c : Carried) (cnf proof : List ℕ) (q : LratCalled) (pool' : List ℤ) : Type 0 where
  pub answered : q.answer ≡ lrat (length entries) (length pool) cnf proof
  -- "tables of its own, opened empty and left so whatever the outcome": with the text's V
  pub emptied : (vars : ℕ) → opens (length entries) (length pool) cnf ≡ some vars →
      (q.carried ≡ opening.empty vars) × (state_lent entries pool' q.carried ≡ some (opened vars (length entries) (length pool)))
  -- nothing is opened: every word of the pool and what is carried are what they were
  pub left : opens (length entries) (length pool) cnf ≡ none → (q.carried ≡ c) × (pool' ≡ pool)
