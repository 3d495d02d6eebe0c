-- Calls of `next` one after the other, each with the cursor that the one before handed back, and with any buffer.
use Rattle.std.specs.Prelude.{◌≡◌, List, [], ◌∷◌, ◌++◌, ℕ, ◌≤◌, ℤ, length, take}
use Rattle.dimacs_frames.specs.Yields.{yields_into}
use Rattle.dimacs_frames.specs.declared.Cursor.{Cursor}
use Rattle.dimacs_frames.specs.Yielding.{Yield, yielded}

-- The frames that are handed out from a cursor on, and what the last call tells, which hands out none though its buffer has enough words. Every outcome that
-- the promise of `next` allows may be a link.
pub data Series (text : List ℕ) : Cursor → List (List ℤ) → Yield → Type 0 where
  no_frame : {c : Cursor} (frame : List ℤ) (r : Yield) (frame' : List ℤ) → (r, frame') ≡ yields_into text c frame → 258 ≤ length frame →
      ((n : ℕ) (d : Cursor) → r ≡ yielded n d → ⊥) → Series text c [] r
  then_frame : {c : Cursor} (frame : List ℤ) (n : ℕ) (d : Cursor) (frame' : List ℤ) → (yielded n d, frame') ≡ yields_into text c frame →
      {fs : List (List ℤ)} {r : Yield} → Series text d fs r → Series text c (take n frame' ∷ fs) r

-- whatever calls hand out from d on, calls from c on hand out behind the frames fs
abbrev pub Leads : List ℕ → Cursor → List (List ℤ) → Cursor → Type 0
Leads text c fs d = (gs : List (List ℤ)) (r : Yield) → Series text d gs r → Series text c (fs ++ gs) r
