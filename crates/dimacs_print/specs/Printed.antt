-- Lines of frames in a lent buffer, from its start on.
use Rattle.std.specs.Prelude.{ℕ, ◌≤◌, ◌<◌, List, ◌++◌, take, ℤ, Option, Some, None, Result, Ok, Err}
use Rattle.line_read.specs.Lent.{Wrote}
use Rattle.dimacs_frames.specs.Series.{Series, Leads}
use Rattle.dimacs_frames.specs.declared.Cursor.{Cursor}
use Rattle.dimacs_frames.specs.Yielding.{Yield}
use Rattle.dimacs_lines.specs.Lines.{frame_lines}
use Rattle.dimacs_frames.specs.declared.YieldError.{YieldError}
use Rattle.dimacs_print.specs.declared.Filled.{Filled}

-- the frames that calls hand out from c on, up to d, stand in it; the ids rise to at most 2147483647
pub record PrintedOn (text : List ℕ) (c d : Cursor) (out out' : List ℕ) (at : ℕ) : Type 0 where
  pub frames : List (List ℤ)
  pub leads : Leads text c frames d
  pub lines : Wrote out 0 (frame_lines frames) out' at
  pub onward : c.id < d.id
  pub last : d.id ≤ 2147483647

-- all that calls hand out from c on stand in it
pub record PrintedAll (text : List ℕ) (c : Cursor) (out out' : List ℕ) (at : ℕ) (told : Yield) : Type 0 where
  pub frames : List (List ℤ)
  pub series : Series text c frames told
  pub lines : Wrote out 0 (frame_lines frames) out' at

abbrev pub FillingAs : List ℕ → Cursor → List ℕ → List ℕ → ℕ → Result (Option Cursor) YieldError → Type 0
FillingAs text c out out' at (Ok (Some d)) = PrintedOn text c d out out' at
FillingAs text c out out' at (Ok None) = PrintedAll text c out out' at (Ok None)
FillingAs text c out out' at (Err e) = PrintedAll text c out out' at (Err e)

abbrev pub Filling : List ℕ → Cursor → List ℕ → Filled → List ℕ → Type 0
Filling text c out r out' = FillingAs text c out out' r.at r.onward

-- calls one after the other, each behind the cursor that the one before handed back: the bytes that they put, and what the last one tells
pub data Prints (text : List ℕ) : Cursor → List ℕ → Yield → Type 0 where
  printed_last : {c : Cursor} (out out' : List ℕ) (at : ℕ) {told : Yield} → PrintedAll text c out out' at told → Prints text c (take at out') told
  printed_more : {c : Cursor} (out out' : List ℕ) (at : ℕ) (d : Cursor) → PrintedOn text c d out out' at → {bs : List ℕ} {told : Yield} → Prints text d bs told
      → Prints text c (take at out' ++ bs) told
