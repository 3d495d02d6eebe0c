-- The first n of the rows taken in, loaded: the table fits the rows behind them too, and spells the same.
use mathlib.Core.Path.{◌≡◌, subst, ◌∙◌}
use mathlib.Core.Bool.{false}
use mathlib.Core.List.{List, ◌++◌}
use Prim.Native.Nat.{ℕ, ◌≤◌}
use native.Mathlib.Omega.{arith}
use lib.IntN.{ℤ}
use lib.ListN.{length, take, drop}
use lib.Seq.{length-take-le, length_front}
use Rattle.table.specs.Spelled.{Row}
use Rattle.table.specs.declared.Table.{Table}
use Rattle.table.proofs.Behind.{fit_longer, spells_longer}
use Rattle.lent.specs.State.{is_state}
use Rattle.lent.specs.declared.Carried.{Carried}
use Rattle.lent_load.specs.Loads.{Loads}
use Rattle.std.specs.Prelude.{Option}
use Rattle.std.specs.Prelude.{Some, None}

pub record Front (c : Carried) (n : ℕ) (rows : List Row) (pool : List ℤ) (l : Option Table) (front : List Row) : Type 0 where
  pub own_long : length (take n rows) ≡ n
  pub all_long : length (front ++ drop n rows) ≡ length rows
  pub no_state : l ≡ None → is_state c (take n rows) pool ≡ false
  pub working : (t : Table) → l ≡ Some t → Loads c (take n rows) pool (Some t) (front ++ drop n rows)

pub front_loaded : {c : Carried} {n : ℕ} {rows : List Row} {pool : List ℤ} {l : Option Table} {front : List Row} → n ≤ length rows → length rows ≤ 2048 →
    Loads c (take n rows) pool l front → length front ≡ length (take n rows) → Front c n rows pool l front
front_loaded {c} {n} {rows} {pool} {l} {front} few most h kept =
    let all = length_front rows front n kept in
    record {
      own_long = length-take-le n rows few;
      all_long = all;
      no_state = λ e. subst (λ x. Loads c (take n rows) pool x front) e h;
      working = λ t e. let w : Loads c (take n rows) pool (Some t) front = subst (λ x. Loads c (take n rows) pool x front) e h in
          (w.0, fit_longer w.1 _ (omega (arith, all)), spells_longer w.1 _ ∙ w.2);
    }
