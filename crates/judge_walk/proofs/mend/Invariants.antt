-- Invariant: mending what is left mends the whole.
use Rattle.rules.specs.Frames.{mend}
use Rattle.judge_walk.proofs.Walks.{below}
use Rattle.judge_walk.specs.Records.{records}
use Rattle.lit_sets.specs.Words.{assigned}
use mathlib.Core.Path.{◌≡◌}
use Rattle.judge_walk.proofs.mend.Given as goal

abbrev pub invariant-loop-j : goal.invariant-loop-j
invariant-loop-j l = mend (assigned l.initial.words) (records l.pool l.rows l.stack) ≡ mend (assigned l.words) (below l.pool l.rows l.stack l.j)
