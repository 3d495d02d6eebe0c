-- ADD and LEARN after a row was freed and room was made: the tables in between spell the same, so the frame moves those from before.
use mathlib.Core.Path.{◌≡◌, ◌∙◌, ap}
use mathlib.Core.Bool.{true}
use mathlib.Core.List.{List, [], ◌∷◌}
use Prim.Native.Nat.{ℕ, ◌+◌, ◌<◌, ◌≤◌}
use native.Mathlib.Omega.{arith}
use lib.IntN.{ℤ}
use lib.ListN.{length, set}
use Rattle.rules.specs.Terms.{State, is_clause}
use Rattle.rules.specs.Frames.{Frame, next}
use Rattle.table_slices.specs.Writes.{written}
use Rattle.table.specs.Spelled.{Row, spelled}
use Rattle.table.specs.declared.Table.{Table}
use Rattle.table_room.specs.Room.{Roomy, FreeRow}
use Rattle.table_write.specs.Moved.{Moved, New, comes_by}
use Rattle.table_write.proofs.Moves.{appended, arrives}

module _ {t u t' : Table} {rows rows₁ rows' : List Row} {pool pool' : List ℤ} {stack : List ℕ} {n : ℕ} (r : FreeRow t rows pool stack u rows₁)
    (m : Roomy u rows₁ pool stack t' rows' pool' n) where
  same : spelled t' rows' pool' stack ≡ spelled t rows pool stack
  same = m.same ∙ r.same

  moved_after : {t'' : Table} {rows'' : List Row} {pool'' : List ℤ} {g : Frame} → Moved t' rows' pool' stack t'' rows'' pool'' stack g →
      Moved t rows pool stack t'' rows'' pool'' stack g
  moved_after {g} k = record { fit = k.fit; state = k.state ∙ ap (λ s. next s g) same }

  module _ (id : ℕ) (lits : List ℤ) (room : t'.count < length rows') (spare : t'.count < t'.entries + t'.gone) (fits : t'.top + length lits ≤ length pool')
      (new : New t id) (ok : is_clause t.vars lits ≡ true) where
    still_new : New t' id
    still_new = (omega (arith, new.0, ap (λ (s : State). s.highest) same), new.1)

    still_ok : is_clause t'.vars lits ≡ true
    still_ok = let v = ap (λ (s : State). s.vars) same in rw v ok

    pub arrives_after : (p : ℕ) → p ≤ 1 → (hints : List ℤ) → let row = id ∷ p ∷ t'.top ∷ length lits ∷ 0 ∷ [] in
        Moved t rows pool stack (appended t' id (length lits)) (set rows' t'.count row) (written pool' t'.top lits) stack (comes_by p id lits hints)
    arrives_after p q hints = moved_after (arrives m.fit id lits room spare fits still_new still_ok p q hints)
