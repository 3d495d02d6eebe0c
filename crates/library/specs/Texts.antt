-- What the archive's functions over DIMACS text come to.
use Rattle.std.specs.Prelude.{◌≡◌, List, [], ◌∷◌, ℕ, ◌≤◌, ◌<◌, ℤ, length, take}
use Rattle.dimacs.specs.Reading.{read_text, judged_text}
use Rattle.dimacs_frames.specs.Yields.{yields_into, yield_numbers, cursor_after}
use Rattle.dimacs_frames.specs.declared.Cursor.{Cursor}
use Rattle.library_back.specs.Told.{Told, judged_numbers, cnf_after}
use Rattle.library_back.specs.declared.Numbers.{Numbers}
use Rattle.library_back.specs.declared.CnfCounts.{CnfCounts}

-- ---- a text judged: 0 and 0, or the fault's numbers

pub record JudgeExported (text : List ℕ) (cnf : CnfCounts) (r : Numbers) (cnf' : CnfCounts) : Type 0 where
  pub told : Told (judged_numbers (judged_text (read_text text))) r
  pub handed_back : cnf' ≡ cnf_after (judged_text (read_text text)) cnf

-- ---- the next frame

pub record NextExported (text : List ℕ) (c : Cursor) (frame : List ℤ) (r : Numbers) (c' : Cursor) (frame' : List ℤ) : Type 0 where
  pub told : Told (yield_numbers (yields_into text c frame).0) r
  pub moved : c' ≡ cursor_after (yields_into text c frame).0 c
  pub handed_out : frame' ≡ (yields_into text c frame).1

-- ---- calls one after the other, each with the cursor that the one before left, and with any buffer

-- the numbers alone say whether a frame was handed out
abbrev pub FrameTold : Numbers → Type 0
FrameTold r = (r.code ≡ 0) × (0 < r.detail)

-- The frames that are handed out from a cursor on, and the numbers of the last call, which hands out none though its buffer has enough words. Every outcome
-- that the promise of the call allows may be a link.
pub data NextSeries (text : List ℕ) : Cursor → List (List ℤ) → Numbers → Type 0 where
  last_call : {c c' : Cursor} {frame frame' : List ℤ} {r : Numbers} → NextExported text c frame r c' frame' → 258 ≤ length frame → (FrameTold r → ⊥)
      → NextSeries text c [] r
  first_call : {c c' : Cursor} {frame frame' : List ℤ} {r : Numbers} → NextExported text c frame r c' frame' → FrameTold r
      → {fs : List (List ℤ)} {last : Numbers}
      → NextSeries text c' fs last → NextSeries text c (take r.detail frame' ∷ fs) last
