-- Rows behind those of a table: it fits them too, and spells the same.
use mathlib.Core.Path.{◌≡◌}
use mathlib.Core.List.{List, ◌++◌}
use Prim.Native.Nat.{ℕ, ◌≤◌}
use native.Mathlib.Omega.{arith}
use lib.IntN.{ℤ}
use lib.ListN.{length, take, length-append}
use lib.Seq.{take-append-le}
use Rattle.table.specs.Spelled.{Row, spelled, Fit}
use Rattle.table.specs.declared.Table.{Table}

module _ {t : Table} {rows : List Row} {pool : List ℤ} {stack : List ℕ} (f : Fit t rows pool stack) (more : List Row) where
  front_same : take t.count (rows ++ more) ≡ take t.count rows
  front_same = take-append-le t.count rows more f.rows_fit

  pub fit_longer : length (rows ++ more) ≤ 2048 → Fit t (rows ++ more) pool stack
  fit_longer h =
      let e = front_same in
      let l = length-append rows more in
      record {
        vars_fit = f.vars_fit;
        highest_fit = f.highest_fit;
        entries_lent = f.entries_lent;
        rows_lent = h;
        pool_lent = f.pool_lent;
        stack_lent = f.stack_lent;
        entries_fit = omega (arith, f.entries_fit);
        rows_fit = omega (arith, f.rows_fit);
        held_fit = f.held_fit;
        pool_fit = f.pool_fit;
        stack_fit = f.stack_fit;
        gone_fit = rw e f.gone_fit;
        core = rw e f.core;
      }

  pub spells_longer : spelled t (rows ++ more) pool stack ≡ spelled t rows pool stack
  spells_longer = let e = front_same in rw e
