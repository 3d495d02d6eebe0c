-- Invariant: the clause is clean against every record passed, so those below decide.
use Rattle.rules.specs.Answers.{cleanly}
use Rattle.judge_walk.proofs.Walks.{below}
use Rattle.judge_walk.specs.Records.{records}
use mathlib.Core.Path.{◌≡◌}
use Rattle.judge_walk.proofs.cleanly.Given as goal

abbrev pub invariant-loop-j : goal.invariant-loop-j
invariant-loop-j l = cleanly l.c (records l.pool l.rows l.stack) ≡ cleanly l.c (below l.pool l.rows l.stack l.j)
