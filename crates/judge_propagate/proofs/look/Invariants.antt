-- Within a clause, what is left of its reading comes to the whole reading.
use Rattle.lit_sets.specs.Words.{literals}
use Rattle.judge_propagate.proofs.Scan.{Scanned}
use Rattle.judge_propagate.proofs.look.Given as goal

abbrev pub invariant-loop-literal : goal.invariant-loop-literal
invariant-loop-literal l = Scanned (literals l.falses) l.clause l.«open» l.literal-index
