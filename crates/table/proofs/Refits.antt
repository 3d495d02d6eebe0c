-- What tables spell, by their entries; and tables that fit, since those before them did.
use mathlib.Core.Path.{◌≡◌}
use mathlib.Core.List.{List, map}
use Prim.Native.Nat.{ℕ, ◌+◌, ◌≤◌}
use native.Mathlib.Omega.{arith}
use lib.IntN.{ℤ}
use lib.ListN.{length}
use Rattle.rules.specs.Terms.{State, fetch}
use Rattle.table.specs.Facts.{total}
use Rattle.table.specs.Spelled.{Row, held_rows, from_top, spelled, Core, gone_one, Fit, InPlace, in_place}
use Rattle.table.specs.declared.Table.{Table}
use Rattle.table.proofs.Entries.{spell, clauses_spell}

-- the state that entries by rising id and the ids of the stack, from the top, spell
abbrev pub state_of : ℕ → ℕ → ℕ → ℕ → List InPlace → List ℕ → State
state_of vars highest entries words es ids = record {
  vars = vars;
  highest = highest;
  entries = entries;
  words = words;
  irredundant = spell 0 es;
  learned = spell 1 es;
  stack = map (fetch (spell 2 es)) ids;
}

pub spelled_is : (t : Table) (rows : List Row) (pool : List ℤ) (stack : List ℕ) →
    spelled t rows pool stack ≡ state_of t.vars t.highest t.entries (length pool) (map (in_place pool) (held_rows t rows)) (from_top t stack)
spelled_is t rows pool stack =
    let a = clauses_spell 0 pool (held_rows t rows) in
    let b = clauses_spell 1 pool (held_rows t rows) in
    let c = clauses_spell 2 pool (held_rows t rows) in
    rw (a, b, c)

module _ {t : Table} {rows : List Row} {pool : List ℤ} {stack : List ℕ} (f : Fit t rows pool stack) where
  -- the lent slices are as long as they were, and V and the number of entries are what they were
  pub refit : {t' : Table} {rows' : List Row} {pool' : List ℤ} {stack' : List ℕ} → t'.vars ≡ t.vars → t'.entries ≡ t.entries → t'.highest ≤ 2147483647 →
      length rows' ≡ length rows → length pool' ≡ length pool → length stack' ≡ length stack →
      t'.count ≤ length rows → t'.count ≤ t.entries + t'.gone → t'.top ≤ length pool → t'.depth ≤ length stack →
      t'.gone ≡ total gone_one (held_rows t' rows') →
      Core t.vars t'.highest t'.top t'.words (held_rows t' rows') pool' (from_top t' stack') → Fit t' rows' pool' stack'
  refit e d i a b c x m y z n k =
      let v = f.vars_fit in
      let l = f.entries_lent in
      let p = f.rows_lent in
      let q = f.pool_lent in
      let r = f.stack_lent in
      let o = f.entries_fit in
      record {
        vars_fit = (omega arith, omega arith);
        highest_fit = i;
        entries_lent = omega arith;
        rows_lent = omega arith;
        pool_lent = omega arith;
        stack_lent = omega arith;
        entries_fit = omega arith;
        rows_fit = omega arith;
        held_fit = omega arith;
        pool_fit = omega arith;
        stack_fit = omega arith;
        gone_fit = n;
        core = rw e k;
      }
