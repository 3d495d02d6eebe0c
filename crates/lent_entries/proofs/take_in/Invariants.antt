-- The first i entries are taken, over rows that hold nothing.
use Rattle.std.proofs.Common.{◌≡◌}
use Rattle.lent_entries.specs.Lent.{row_of, vacant_rows}
use Rattle.lent_entries.proofs.Copying.{copied}
use Rattle.lent_entries.proofs.take_in.Given as goal

abbrev pub invariant-loop-i : goal.invariant-loop-i
invariant-loop-i l = l.rows ≡ copied row_of l.entry-items vacant_rows l.i
