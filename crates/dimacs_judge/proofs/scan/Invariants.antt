use Rattle.std.proofs.Common.{length, ◌-◌}
use Rattle.dimacs_judge.proofs.Scanning.{Scanning}
use Rattle.dimacs_judge.proofs.scan.Given as goal

abbrev pub invariant-loop-i : goal.invariant-loop-i
invariant-loop-i l = Scanning l.all l.text l.from l.vars l.initial.stamps l.initial.lits l.stamps l.lits l.stamp l.n l.i

abbrev pub decreases-loop-i : goal.decreases-loop-i
decreases-loop-i l = length l.text - l.i
