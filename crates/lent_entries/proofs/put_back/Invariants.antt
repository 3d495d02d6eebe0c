-- The first k rows are put back, as entries, over the table.
use Rattle.std.proofs.Common.{◌≡◌}
use Rattle.lent_entries.specs.Lent.{entry_of}
use Rattle.lent_entries.proofs.Copying.{copied}
use Rattle.lent_entries.proofs.put_back.Given as goal

abbrev pub invariant-loop-k : goal.invariant-loop-k
invariant-loop-k l = l.entries ≡ copied entry_of l.row-items l.initial.entries l.k
