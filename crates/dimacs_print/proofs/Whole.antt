-- What calls of `fill` one after the other put: the lines of a text's frames, all of them in order; of a faulty text none.
use mathlib.Core.Path.{◌≡◌, sym, ap, ap₂, ◌∙◌}
use mathlib.Core.List.{List, [], ◌++◌}
use Prim.Native.Nat.{ℕ, ◌≤◌}
use lib.IntN.{ℤ}
use lib.ListN.{length}
use Rattle.dimacs.specs.Reading.{faulty, sound, Cnf, read_text}
use Rattle.dimacs.specs.Frames.{frames_of}
use Rattle.dimacs.specs.declared.TextFault.{TextFault}
use Rattle.dimacs_frames.specs.Series.{Series}
use Rattle.dimacs_frames.specs.declared.Cursor.{Cursor}
use Rattle.dimacs_frames.specs.Yielding.{Yield}
use Rattle.std.specs.Prelude.{Ok, None, Err}
use Rattle.dimacs_frames.specs.declared.YieldError.TheVariants.{Faulty}
use Rattle.dimacs_frames.proofs.Series.{frames_handed_out, no_frame_of_a_fault}
use Rattle.dimacs_lines.specs.Lines.{frame_lines}
use Rattle.dimacs_print.specs.Printed.{Prints, printed_last, printed_more}
use Rattle.dimacs_print.proofs.Filling.{lines_both}

printed_series : {text : List ℕ} {c : Cursor} {bs : List ℕ} {told : Yield} → Prints text c bs told
    → (fs : List (List ℤ)) × (bs ≡ frame_lines fs) × Series text c fs told
printed_series (printed_last out out' at p) = (p.frames, p.lines.bytes, p.series)
printed_series (printed_more out out' at d p rest) =
    let (gs, same, series) = printed_series rest in
    (p.frames ++ gs, ap₂ (λ (l m : List ℕ). l ++ m) p.lines.bytes same ∙ sym (lines_both p.frames gs), p.leads gs _ series)

module _ (text : List ℕ) (c : Cursor) (fresh : c.id ≡ 0) {bs : List ℕ} {told : Yield} (p : Prints text c bs told) where
  -- of a text without fault all lines are put, and then none is left
  pub lines_of_a_text : (x : Cnf) → read_text text ≡ sound x → length x.clauses ≤ 2147483647
      → (bs ≡ frame_lines (frames_of (read_text text))) × (told ≡ Ok None)
  lines_of_a_text x e h =
      let (fs, same, series) = printed_series p in
      let (all, none_left) = frames_handed_out text c fresh x e h series in
      (same ∙ ap frame_lines all, none_left)

  -- "A text with a fault yields no frame"
  pub no_line_of_a_fault : (f : TextFault) → read_text text ≡ faulty f → (bs ≡ []) × (told ≡ Err (Faulty f))
  unfolding frame_lines
  no_line_of_a_fault f e =
      let (fs, same, series) = printed_series p in
      let (none, fault) = no_frame_of_a_fault text c fresh f e series in
      (same ∙ ap frame_lines none, fault)
