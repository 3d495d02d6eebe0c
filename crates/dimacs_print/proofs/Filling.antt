-- A buffer that is filled frame by frame.
use mathlib.Core.Path.{◌≡◌, refl, sym, ap, ◌∙◌}
use mathlib.Core.List.{List, [], ◌∷◌, ◌++◌, append_assoc, append-nil}
use Prim.Native.Nat.{ℕ, ◌+◌, ◌*◌, ◌≤◌, ◌<◌}
use native.Mathlib.Omega.{arith}
use lib.IntN.{ℤ}
use lib.ListN.{length, take, length-append}
use Rattle.line_read.specs.Lent.{Wrote}
use Rattle.line_put.proofs.Writing.{wrote_none, wrote_then, wrote_as}
use Rattle.dimacs_frames.specs.Yields.{yields_into}
use Rattle.dimacs_frames.specs.Series.{no_frame, Leads}
use Rattle.dimacs_frames.specs.declared.Cursor.{Cursor}
use Rattle.dimacs_frames.specs.Yielding.{Yield, yielded}
use Rattle.dimacs_frames.proofs.Series.{handed_out, leads_none, leads_on, leads_end}
use Rattle.dimacs_lines.specs.Lines.{words_in_hex, frame_line, frame_lines}
use Rattle.dimacs_lines.proofs.Framing.{words_length}
use Rattle.dimacs_print.specs.Printed.{PrintedOn, PrintedAll}

-- eight digits a word, and 0A
pub line_long : (f : List ℤ) → length (frame_line f) ≡ 8 * length f + 1
line_long f = omega (arith, length-append (words_in_hex f) (10 ∷ []), words_length f)

-- the lines of frames, and of more
pub lines_both : (fs gs : List (List ℤ)) → frame_lines (fs ++ gs) ≡ frame_lines fs ++ frame_lines gs
unfolding frame_lines
lines_both [] gs = refl
lines_both (f ∷ fs) gs = ap (λ (l : List ℕ). frame_line f ++ l) (lines_both fs gs) ∙ sym (append_assoc (frame_line f) (frame_lines fs) (frame_lines gs))

lines_more : (fs : List (List ℤ)) (f : List ℤ) → frame_lines (fs ++ (f ∷ [])) ≡ frame_lines fs ++ frame_line f
unfolding frame_lines
lines_more fs f = lines_both fs (f ∷ []) ∙ ap (λ (l : List ℕ). frame_lines fs ++ l) (append-nil (frame_line f))

-- the frames that led from c to d stand in the buffer
pub record Going (text : List ℕ) (c : Cursor) (out : List ℕ) (d : Cursor) (out' : List ℕ) (at : ℕ) : Type 0 where
  pub frames : List (List ℤ)
  pub leads : Leads text c frames d
  pub lines : Wrote out 0 (frame_lines frames) out' at
  pub ids : d.id ≡ c.id + length frames
  pub last : 0 < length frames → d.id ≤ 2147483647

pub going_none : (text : List ℕ) (c : Cursor) (out : List ℕ) → Going text c out c out 0
unfolding frame_lines
going_none text c out = record { frames = []; leads = leads_none text c; lines = wrote_none out 0; ids = omega arith; last = λ h. absurd (omega arith) }

module _ {text : List ℕ} {c : Cursor} {out : List ℕ} {d : Cursor} {out' : List ℕ} {at : ℕ} (g : Going text c out d out' at) (frame frame' : List ℤ) where
  -- one call more handed out a frame, and its line was put behind the others
  pub going_more : (n : ℕ) (e : Cursor) → (yielded n e, frame') ≡ yields_into text d frame → {out₂ : List ℕ} {at₂ : ℕ}
      → Wrote out' at (frame_line (take n frame')) out₂ at₂ → Going text c out e out₂ at₂
  going_more n e q w =
      let h = handed_out text d frame frame' n e q in
      let f = take n frame' in
      record {
        frames = g.frames ++ (f ∷ []);
        leads = leads_on g.frames g.leads frame n e frame' q;
        lines = wrote_as (sym (lines_more g.frames f)) (wrote_then g.lines w);
        ids = omega (arith, h.named, g.ids, length-append g.frames (f ∷ []));
        last = λ k. h.last;
      }

  -- or none
  pub going_end : (r : Yield) → (r, frame') ≡ yields_into text d frame → 258 ≤ length frame → ((n : ℕ) (e : Cursor) → r ≡ yielded n e → ⊥)
      → PrintedAll text c out out' at r
  going_end r q h none = record { frames = g.frames; series = leads_end g.frames g.leads (no_frame frame r frame' q h none); lines = g.lines }

-- some line was put: the ids have risen
pub going_on : {text : List ℕ} {c : Cursor} {out : List ℕ} {d : Cursor} {out' : List ℕ} {at : ℕ} → Going text c out d out' at → 0 < at
    → PrintedOn text c d out out' at
unfolding frame_lines
going_on {text} {c} {out} {d} {out'} {at} g h =
    let some = some_frame g.frames g.lines.place in
    record { frames = g.frames; leads = g.leads; lines = g.lines; onward = omega (arith, g.ids); last = g.last some }
  where
    some_frame : (fs : List (List ℤ)) → at ≡ 0 + length (frame_lines fs) → 0 < length fs
    some_frame [] e = absurd (omega arith)
    some_frame (f ∷ fs) e = omega arith
