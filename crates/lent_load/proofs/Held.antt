-- From the rows that are held, by rising id, to those that are lent, in any order.
use mathlib.Core.Path.{◌≡◌, sym, ◌∙◌, ap}
use mathlib.Core.Bool.{false}
use mathlib.Core.List.{List, ◌++◌, map}
use Prim.Native.Nat.{ℕ, ◌<◌, ◌≤◌}
use native.Mathlib.Omega.{arith}
use lib.IntN.{ℤ}
use lib.ListN.{length, take, drop, length-append, length-drop}
use lib.Seq.{length-take-le, take-take, take-append-le}
use borrow.Author.Tests.{le-leb, lt-leb}
use Rattle.rules.specs.Terms.{State}
use Rattle.rules.proofs.Lists.{by_cases}
use Rattle.table.specs.Spelled as working
use Rattle.table.specs.Spelled.{Row, Rising, Fit}
use Rattle.table.specs.declared.Table.{Table}
use Rattle.lent.specs.State.{every_two, other_id, numbers_are, is_state, state_of}
use Rattle.lent.specs.declared.Carried.{Carried}
use Rattle.lent.proofs.Judged.{others_test}
use Rattle.lent_order.specs.Orders.{Shuffled, tidied}
use Rattle.lent_order.proofs.Alike.{arranged_state, arranged_spelled, arranged_count}
use Rattle.lent_load.specs.Loads.{Loads}
use Rattle.std.specs.Prelude.{Option}
use Rattle.std.specs.Prelude.{Some, None}
use Rattle.lent_load.proofs.States.{id_twice, too_deep}

-- ---- the rows as they were before they were arranged

module _ (c : Carried) (rows : List Row) (pool : List ℤ) {rows' : List Row} (n : c.count ≡ length rows) (s : Shuffled (map tidied rows) rows') where
  pub arranged_twice : every_two other_id rows' ≡ false → is_state c rows pool ≡ false
  arranged_twice e = arranged_state c pool rows n s ∙ id_twice c rows' pool (arranged_count c pool rows n s) e

  pub arranged_loads : Rising rows' → (r : Option Table) → Loads c rows' pool r rows' → Loads c rows pool r rows'
  arranged_loads u (Some t) l = (arranged_state c pool rows n s ∙ l.0, l.1, l.2 ∙ sym (arranged_spelled c pool rows n s (others_test rows' u)))
  arranged_loads u None l = arranged_state c pool rows n s ∙ l

-- ---- of the rows lent, those that are held

-- more held than lent
pub too_many : (c : Carried) (rows : List Row) (pool : List ℤ) → length rows < c.count → is_state c rows pool ≡ false
unfolding is_state
too_many c rows pool h = let e = lt-leb c.count (length rows) h in by_cases (numbers_are c rows pool) (λ q. rw (q, e)) (λ q. rw q)

module _ (c : Carried) (rows : List Row) (pool : List ℤ) (h : c.count ≤ length rows) where
  abbrev front : List Row
  front = take c.count rows

  pub front_count : c.count ≡ length front
  front_count = sym (length-take-le c.count rows h)

  same_held : take c.count front ≡ front
  same_held = take-take c.count c.count rows (omega arith)

  pub same_state : is_state c rows pool ≡ is_state c front pool
  unfolding is_state
  same_state =
      let a = le-leb c.count (length rows) h in
      let b = le-leb c.count (length front) (omega (arith, front_count)) in
      let w = same_held in
      rw (w, a, b)

  pub front_none : is_state c front pool ≡ false → is_state c rows pool ≡ false
  front_none e = same_state ∙ e

  pub stack_past : length rows < c.depth → is_state c rows pool ≡ false
  stack_past d = same_state ∙ too_deep c front pool front_count (omega (arith, front_count))

  -- the same state, of a table of n entries
  abbrev resized : ℕ → State → State
  resized n s =
      record { vars = s.vars; highest = s.highest; entries = n; words = s.words; irredundant = s.irredundant; learned = s.learned; stack = s.stack }

  same_spelled : state_of c rows pool ≡ resized (length rows) (state_of c front pool)
  unfolding state_of
  same_spelled = let w = same_held in rw w

  module _ (few : length rows ≤ 1024) (room : length c.stack ≡ 1024) (ys : List Row) (k : length ys ≡ length front) where
    abbrev pub all_rows : List Row
    all_rows = ys ++ drop c.count rows

    long : length all_rows ≡ length rows
    long = omega (arith, length-append ys (drop c.count rows), length-drop c.count rows, k, front_count)

    -- the table of the rows held, where as many clauses may be held as there are rows lent
    abbrev pub widened : Table → Table
    widened t =
        record {
          vars = t.vars;
          highest = t.highest;
          entries = length rows;
          count = t.count;
          gone = t.gone;
          words = t.words;
          depth = t.depth;
          top = t.top;
        }

    module _ {t : Table} (f : Fit t ys pool c.stack) where
      same_rows : take t.count all_rows ≡ take t.count ys
      same_rows = take-append-le t.count ys (drop c.count rows) f.rows_fit

      count_lent : t.count ≤ length rows
      count_lent = omega (arith, f.rows_fit, k, front_count)

      whole_fit : Fit (widened t) all_rows pool c.stack
      whole_fit =
          let w = same_rows in
          record {
            vars_fit = f.vars_fit;
            highest_fit = f.highest_fit;
            entries_lent = few;
            rows_lent = omega (arith, long);
            pool_lent = f.pool_lent;
            stack_lent = omega arith;
            entries_fit = omega (arith, long);
            rows_fit = omega (arith, long, count_lent);
            held_fit = omega (arith, count_lent);
            pool_fit = f.pool_fit;
            stack_fit = f.stack_fit;
            gone_fit = rw w f.gone_fit;
            core = rw w f.core;
          }

      whole_spelled : working.spelled (widened t) all_rows pool c.stack ≡ resized (length rows) (working.spelled t ys pool c.stack)
      whole_spelled = let w = same_rows in rw w

    pub front_loads : (t : Table) → Loads c front pool (Some t) ys → Loads c rows pool (Some (widened t)) all_rows
    front_loads t l = (same_state ∙ l.0, whole_fit l.1, whole_spelled l.1 ∙ ap (resized (length rows)) l.2 ∙ sym same_spelled)
