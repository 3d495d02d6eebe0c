-- Every row before k has a lesser id; past a greater id there is none.
use Rattle.table.specs.Spelled.{Below}
use Rattle.table.proofs.find.Given as goal

abbrev pub invariant-loop-k : goal.invariant-loop-k
invariant-loop-k l = Below l.rows l.id l.k
