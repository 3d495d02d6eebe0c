-- Invariant: every irredundant clause passed is true, so the rest decides.
use mathlib.Core.Path.{◌≡◌}
use lib.ListN.{drop}
use Rattle.rules.specs.Answers.{satisfied}
use Rattle.lit_sets.specs.Words.{assigned}
use Rattle.table.specs.Spelled.{clauses}
use Rattle.judge_walk.proofs.satisfied.Given as goal

abbrev pub invariant-loop-k : goal.invariant-loop-k
invariant-loop-k l = satisfied (assigned l.words) (clauses 0 l.pool l.rows) ≡ satisfied (assigned l.words) (clauses 0 l.pool (drop l.k l.rows))
