-- Before each hint, what is left of the paper's run comes to the whole run.
use mathlib.Core.Path.{◌≡◌}
use Rattle.rules.specs.Propagation.{run}
use Rattle.lit_sets.specs.Words.{literals}
use Rattle.judge_propagate.specs.Scope.{allowed_of}
use Rattle.judge_propagate.proofs.Scan.{Scanned}
use Rattle.judge_propagate.proofs.Runs.{Running}
use Rattle.judge_propagate.proofs.propagate.Given as goal

abbrev pub invariant-loop-l : goal.invariant-loop-l
invariant-loop-l l = Scanned (literals l.falses) l.clause l.«open» l.l-index × (l.verdict ≡ l.initial.verdict)

abbrev pub invariant-hints : goal.invariant-hints
invariant-hints l =
    Running (allowed_of l.scope l.pool l.rows) l.hints (run (allowed_of l.scope l.pool l.rows) (literals l.initial.falses) 0 l.hints) (literals l.falses) l.verdict l.h
