-- What an accepted frame's checks leave for the writers, and how judgment and write make an application.
use mathlib.Core.Path.{◌≡◌, refl, subst}
use mathlib.Core.Bool.{true}
use mathlib.Core.List.{List}
use Prim.Native.Nat.{ℕ, ◌+◌, ◌≤◌}
use native.Mathlib.Omega.{arith}
use lib.IntN.{ℤ}
use lib.ListN.{length}
use borrow.Author.Tests.{ltb-true, leb-true}
use Rattle.rules.specs.Terms.{is_witness, holds, Held, State, fetch, everything, room}
use Rattle.rules.specs.Frames.{Frame, ADD, LEARN, WEAKEN}
use Rattle.rules.specs.Answers.{check, flaw, unseen, new_id, free_entry, free_words}
use Rattle.std.specs.Prelude.{Result, Ok, Err}
use Rattle.rules.specs.declared.Fault.{Fault}
use Rattle.step_outcome.specs.Told.{answer_of, changed_with}
use Rattle.step_changes.specs.Applied.{Applied}
use Rattle.rules.proofs.Checks.{then_left, then_right, need_true, flaw_clause}
use Rattle.table.specs.Spelled.{Row, row_at, id_of, place_of, held, clauses, held_rows, spelled, Fit, Same}
use Rattle.table_write.specs.Moved.{Moved, NewClause}
use Rattle.weaken_write.specs.Records.{Weakenable}
use Rattle.table.specs.declared.Table.{Table}
use Rattle.table.proofs.Readers.{count_held, gone_most, words_held}
use Rattle.rules.specs.Lists.{any_passes}
use Rattle.rules.proofs.Lists.{and_both}
use Rattle.judge_checks.specs.Located.{RowOf}
use Rattle.judge_checks.proofs.Located.{fetches_it}

-- ---- a refused frame

-- the tables are as they were
pub unmoved : {t : Table} {rows : List Row} {pool : List ℤ} {stack : List ℕ} → Same t rows pool stack t rows pool stack
unmoved = record { table = refl; same_rows = refl; same_pool = refl; same_stack = refl }

-- ---- an application, as what the frame came to

module _ (t : Table) (rows : List Row) (pool : List ℤ) (stack : List ℕ) (f : Frame) (rows' : List Row) (pool' : List ℤ) (stack' : List ℕ) where
  pub answers : (r : Result Table Fault) → Applied t rows pool stack f r rows' pool' stack' →
      (changed_with r t).answer ≡ answer_of (check (spelled t rows pool stack) f)
  answers (Ok t') (q, m) = rw q refl
  answers (Err e) (q, w) = rw q refl

  pub moves : (r : Result Table Fault) → Applied t rows pool stack f r rows' pool' stack' → check (spelled t rows pool stack) f ≡ Ok tt →
      Moved t rows pool stack (changed_with r t).table rows' pool' stack' f
  moves (Ok t') (q, m) p = m
  moves (Err e) (q, w) p = let z : ◌≡◌ {A = ℕ} 0 1 = cc in absurd (omega arith)

-- ---- a frame that names a held clause

-- a move of the row's clause, by the place that it stands in, is that of the clause of this id
module _ {t : Table} {rows : List Row} {pool : List ℤ} {stack : List ℕ} {t' : Table} {rows' : List Row} {pool' : List ℤ} {stack' : List ℕ} {p i k : ℕ} where
  pub of_row : (f : ℕ → ℕ → Frame) → RowOf t rows p i k → Moved t rows pool stack t' rows' pool' stack' (f (place_of (row_at rows k)) (id_of (row_at rows k))) →
      Moved t rows pool stack t' rows' pool' stack' (f p i)
  of_row f o m = rw (o.placed, o.named) at m

-- WEAKEN's row and witness
pub weakenable : {t : Table} {rows : List Row} {pool : List ℤ} {stack : List ℕ} (fit : Fit t rows pool stack) {i k : ℕ} (witness groups : List ℤ) →
    length witness ≤ 256 → RowOf t rows 0 i k → check (spelled t rows pool stack) (WEAKEN i witness groups) ≡ Ok tt → Weakenable t rows pool k witness
unfolding is_witness check
weakenable {t} {rows} {pool} {stack} fit {i} {k} witness groups short o e =
    let st = spelled t rows pool stack in
    let g = then_right _ _ (then_right _ _ e) in
    let there : fetch (clauses 0 pool (held_rows t rows)) i ≡ held pool (row_at rows k) = fetches_it fit o in
    let shared = need_true _ _ (then_left _ _ g) in
    let h = leb-true (room (everything st) + length witness) (length pool) (need_true _ _ (then_left _ _ (then_right _ _ g))) in
    record {
      within = o.below;
      irredundant = o.placed;
      witnessed = and_both (flaw_clause t.vars 3 witness short (then_left _ _ e))
          (subst (λ (x : Held). any_passes (holds witness) x.lits ≡ true) there shared);
      room = omega (arith, words_held fit);
    }

-- ---- a new clause

module _ {t : Table} {rows : List Row} {pool : List ℤ} {stack : List ℕ} (fit : Fit t rows pool stack) (i : ℕ) (c : List ℤ) (short : length c ≤ 256)
    (known : i ≤ 2147483647) where
  abbrev st : State
  st = spelled t rows pool stack

  -- from the checks that ADD and LEARN share
  new_clause : (at : ℕ) → flaw t.vars unseen at c ≡ Ok tt → new_id st i ≡ Ok tt → free_entry st ≡ Ok tt → free_words st (length c) ≡ Ok tt →
      NewClause t pool i c
  new_clause at a b d e = record {
    entry = let h = ltb-true (length (everything st)) t.entries (need_true _ _ d) in omega (arith, count_held fit, gone_most fit);
    words = let h = leb-true (room (everything st) + length c) (length pool) (need_true _ _ e) in omega (arith, words_held fit);
    new = (ltb-true t.highest i (need_true _ _ b), known);
    clause = flaw_clause t.vars at c short a;
  }

  pub add_passed : check st (ADD i c) ≡ Ok tt → NewClause t pool i c
  unfolding check
  add_passed e =
      let n = then_right _ _ e in
      let r = then_right _ _ (then_right _ _ n) in
      new_clause 2 (then_left _ _ e) (then_left _ _ n) (then_left _ _ r) (then_right _ _ r)

  pub learn_passed : (hints : List ℤ) → check st (LEARN i c hints) ≡ Ok tt → NewClause t pool i c
  unfolding check
  learn_passed hints e =
      let n = then_right _ _ e in
      let r = then_right _ _ n in
      new_clause 3 (then_left _ _ e) (then_left _ _ n) (then_left _ _ r) (then_left _ _ (then_right _ _ r))
