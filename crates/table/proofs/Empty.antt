-- The empty table fits, and spells the state of opening: the invariant asks nothing that cannot be.
use mathlib.Core.Path.{◌≡◌, refl}
use mathlib.Core.List.{List}
use Prim.Native.Nat.{ℕ, ◌<◌, ◌≤◌}
use native.Mathlib.Omega.{arith}
use lib.IntN.{ℤ}
use lib.ListN.{length}
use Rattle.rules.specs.Lists.{only}
use Rattle.rules.specs.Answers.{opened}
use Rattle.table.specs.Facts.{none, alone}
use Rattle.table.specs.Spelled.{Row, spelled, Fit}
use Rattle.table.specs.declared.Table.{Table}

-- no clause is held, and at most n may be
abbrev pub empty : ℕ → ℕ → Table
empty vars n = record { vars = vars; highest = 0; entries = n; count = 0; gone = 0; words = 0; depth = 0; top = 0 }

module _ (vars n : ℕ) (rows : List Row) (pool : List ℤ) (stack : List ℕ) where
  pub empty_fit : 0 < vars → vars ≤ 2048 → n ≤ 1024 → n ≤ length rows → length rows ≤ 2048 → length pool ≤ 8192 → n ≤ length stack
      → Fit (empty vars n) rows pool stack
  unfolding only
  empty_fit low high entries enough most words ids = record {
    vars_fit = (low, high);
    highest_fit = omega arith;
    entries_lent = entries;
    rows_lent = most;
    pool_lent = words;
    stack_lent = ids;
    entries_fit = enough;
    rows_fit = omega arith;
    held_fit = omega arith;
    pool_fit = omega arith;
    stack_fit = omega arith;
    gone_fit = refl;
    core =
        record {
          rising = alone;
          known = none;
          inside = none;
          apart = alone;
          lawful = none;
          counted = refl;
          listed = record { each = none; once = alone; whole = refl };
        };
  }

  pub empty_spelled : spelled (empty vars n) rows pool stack ≡ opened vars n (length pool)
  unfolding only
  empty_spelled = refl
