-- A table opened empty fits where the one before it did, and spells the state of opening.
use mathlib.Core.Path.{◌≡◌, refl}
use mathlib.Core.List.{List}
use Prim.Native.Nat.{ℕ}
use native.Mathlib.Omega.{arith}
use lib.IntN.{ℤ}
use lib.ListN.{length}
use Rattle.rules.specs.Lists.{only}
use Rattle.table.specs.Spelled.{Row, spelled, Fit}
use Rattle.table.specs.declared.Table.{Table}
use Rattle.table.proofs.Empty.{empty_fit}
use Rattle.lrat.specs.Machine.{emptied}
use Rattle.lrat_close.specs.Closes.{empty_table}

module _ {t : Table} {rows : List Row} {pool : List ℤ} {stack : List ℕ} (f : Fit t rows pool stack) (rows' : List Row) (pool' : List ℤ) where
  pub emptied_fit : length rows' ≡ length rows → length pool' ≡ length pool → Fit (empty_table t.vars t.entries) rows' pool' stack
  emptied_fit r p =
      empty_fit t.vars t.entries rows' pool' stack f.vars_fit.0 f.vars_fit.1 f.entries_lent (omega (arith, r, f.entries_fit))
      (omega (arith, r, f.rows_lent)) (omega (arith, p, f.pool_lent)) f.stack_lent

  pub emptied_spelled : length pool' ≡ length pool → spelled (empty_table t.vars t.entries) rows' pool' stack ≡ emptied (spelled t rows pool stack)
  unfolding only
  emptied_spelled p = rw p refl
