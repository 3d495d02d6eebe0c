-- The sum of those before the row, which are at most 8,192 each.
use mathlib.Core.Path.{◌≡◌}
use Prim.Native.Nat.{◌+◌, ◌*◌, ◌≤◌}
use lib.ListN.{drop}
use Rattle.table.specs.Facts.{total}
use Rattle.table.specs.Spelled.{size}
use Rattle.lent_lawful.proofs.words_of.Given as goal

abbrev pub invariant-loop-row : goal.invariant-loop-row
invariant-loop-row l = (total size l.rows ≡ l.sum + total size (drop l.row-index l.rows)) × (l.sum ≤ l.row-index * 8192)
