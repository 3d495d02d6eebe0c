-- The rows before k are right.
use mathlib.Core.Path.{◌≡◌}
use lib.ListN.{drop}
use Rattle.rules.specs.Lists.{all_pass}
use Rattle.lent_lawful.specs.Rights.{right}
use Rattle.lent_lawful.proofs.are_right.Given as goal

abbrev pub invariant-loop-k : goal.invariant-loop-k
invariant-loop-k l = all_pass (right l.vars l.highest l.pool) l.rows ≡ all_pass (right l.vars l.highest l.pool) (drop l.k l.rows)
