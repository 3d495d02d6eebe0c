-- What holds over the archive's calls. A refused part leaves every lent word, what is carried, and what is read word for word, whatever number says that the
-- line is spoilt. And what a series of calls over a DIMACS text hands out: exactly its frames, or none of a faulty one.
use mathlib.Core.Path.{◌≡◌, sym, ◌∙◌, ap, ap₂, subst}
use mathlib.Core.List.{List, []}
use mathlib.Core.Option.{none}
use Prim.Native.Nat.{ℕ, ◌≤◌}
use native.Mathlib.Omega.{arith}
use lib.IntN.{ℤ}
use lib.ListN.{length}
use Rattle.rules.specs.Answers.{numbers}
use Rattle.dimacs.specs.Reading.{faulty, sound, Cnf, fault_numbers, read_text}
use Rattle.dimacs.specs.Frames.{frames_of}
use Rattle.dimacs.specs.declared.TextFault.{TextFault}
use Rattle.dimacs.specs.declared.TextFault.TheVariants.{NoProblemLine, SecondProblemLine, MalformedWord, PastDeclared, VariableTwice, LongClause}
use Rattle.dimacs.specs.declared.TextFault.TheVariants.{VarsOutOfRange, UnclosedClause, WrongClauseCount}
use Rattle.dimacs_frames.specs.Yields.{yields_into, yield_numbers, cursor_after}
use Rattle.dimacs_frames.specs.Series.{Series, no_frame, then_frame}
use Rattle.dimacs_frames.specs.declared.Cursor.{Cursor}
use Rattle.dimacs_frames.specs.Yielding.{Yield, yielded}
use Rattle.std.specs.Prelude.{Ok, Some, None, Err}
use Rattle.dimacs_frames.specs.declared.YieldError.TheVariants.{Faulty, NoBuffer, NoId}
use Rattle.dimacs_frames.proofs.Series as handing
use Rattle.lent_entries.specs.declared.Entry.{Entry}
use Rattle.lent.specs.declared.Carried.{Carried}
use Rattle.call_give.specs.Giving.{met, give_refused}
use Rattle.call_give.specs.declared.Given.{Given}
use Rattle.library_back.specs.Handed.{reader_of, read_after}
use Rattle.library_back.specs.Told.{Told}
use Rattle.library_back.specs.declared.Numbers.{Numbers}
use Rattle.library_back.specs.declared.Reading.{Reading}
use Rattle.library_back.specs.declared.Counts.{Counts}
use Rattle.library.specs.Exported.{GiveExported}
use Rattle.library.specs.Texts.{FrameTold, NextSeries, last_call, first_call}

module _ {entries entries' : List Entry} {pool pool' : List ℤ} {carried carried' : Carried} {reading reading' : Reading} {frame frame' : List ℤ}
    {part out out' : List ℕ} {r : Numbers} {counts' : Counts}
    (g : GiveExported entries pool carried reading frame part out r entries' pool' carried' reading' frame' out' counts')
    (unmet : met entries pool carried (reader_of reading) frame out ≡ none) where
  refused : g.given ≡ give_refused carried (reader_of reading)
  refused = (g.promised.left unmet).0

  pub refused_lent : (entries' ≡ entries) × (pool' ≡ pool) × (frame' ≡ frame) × (out' ≡ out)
  refused_lent = let l = g.promised.left unmet in (l.1, l.2, l.3, l.4)

  pub refused_carried : carried' ≡ carried
  refused_carried = g.handed_back ∙ ap (λ (q : Given). q.carried) refused

  pub refused_reading : reading' ≡ reading
  refused_reading = g.read_back ∙ ap (λ (q : Given). read_after q.answer q.reader reading) refused

  pub refused_counts : (counts'.taken ≡ 0) × (counts'.written ≡ 0)
  refused_counts = (g.counted.0 ∙ ap (λ (q : Given). q.taken) refused, g.counted.1 ∙ ap (λ (q : Given). q.written) refused)

  pub refused_numbers : (r.code ≡ 1) × (r.detail ≡ 0)
  refused_numbers = (g.answered.0 ∙ ap (λ (q : Given). (numbers q.answer).0) refused, g.answered.1 ∙ ap (λ (q : Given). (numbers q.answer).1) refused)

-- ---- the frames of a DIMACS text

-- no fault is told as 0
fault_told : (f : TextFault) → (fault_numbers f).0 ≡ 0 → ⊥
fault_told (NoProblemLine at) e = omega arith
fault_told (SecondProblemLine at) e = omega arith
fault_told (MalformedWord at) e = omega arith
fault_told (PastDeclared at) e = omega arith
fault_told (VariableTwice at) e = omega arith
fault_told (LongClause at) e = omega arith
fault_told (VarsOutOfRange at) e = omega arith
fault_told (UnclosedClause at) e = omega arith
fault_told (WrongClauseCount at) e = omega arith

-- so the numbers say which frame it was
frame_told : (y : Yield) (c : Cursor) {c' : Cursor} {r : Numbers} → Told (yield_numbers y) r → c' ≡ cursor_after y c → FrameTold r → y ≡ yielded r.detail c'
frame_told (Ok (Some y)) c t m f = ap₂ (λ (k : ℕ) (b : Cursor). yielded k b) (sym t.1) (sym m)
frame_told (Ok None) c t m f = absurd (omega arith)
frame_told (Err (Faulty fault)) c t m f = absurd (fault_told fault (sym t.0 ∙ f.0))
frame_told (Err NoBuffer) c t m f = absurd (omega arith)
frame_told (Err NoId) c t m f = absurd (omega arith)

-- a series of the archive's calls is one of the calls that they export
series_of : {text : List ℕ} {c : Cursor} {fs : List (List ℤ)} {r : Numbers} → NextSeries text c fs r
    → (y : Yield) × Series text c fs y × Told (yield_numbers y) r
series_of {text} {c} (last_call {c'} {frame} {frame'} {r} e h unframed) =
    let y = (yields_into text c frame).0 in (
      y,
      -- a frame has words, so that its numbers are told from those where none is left
      no_frame frame y frame' (ap (λ (ws : List ℤ). (y, ws)) e.handed_out) h (λ n d q.
          let words = e.told.1 ∙ ap (λ (x : Yield). (yield_numbers x).1) q in
          let f = handing.handed_out text c frame frame' n d (ap₂ (λ (x : Yield) (ws : List ℤ). (x, ws)) (sym q) e.handed_out) in
          unframed (e.told.0 ∙ ap (λ (x : Yield). (yield_numbers x).0) q, omega (arith, words, f.worded))),
      e.told,
    )
series_of {text} {c} (first_call {c'} {frame} {frame'} {r} e f more) =
    let s = series_of more in
    let y = frame_told (yields_into text c frame).0 c e.told e.moved f in
    (s.0, then_frame frame r.detail c' frame' (ap₂ (λ (x : Yield) (ws : List ℤ). (x, ws)) (sym y) e.handed_out) s.1, s.2)

-- From a cursor that has handed out nothing, over a text without fault: exactly the frames of the text, and at the end 0 and 0. Over a faulty one: no frame,
-- and the fault's numbers.
module _ {text : List ℕ} {c : Cursor} (fresh : c.id ≡ 0) {fs : List (List ℤ)} {r : Numbers} (s : NextSeries text c fs r) where
  pub calls_hand_out : (x : Cnf) → read_text text ≡ sound x → length x.clauses ≤ 2147483647 → (fs ≡ frames_of (read_text text)) × Told (0, 0) r
  calls_hand_out x e h =
      let q = series_of s in
      let t = handing.frames_handed_out text c fresh x e h q.1 in
      (t.0, subst (λ (y : Yield). Told (yield_numbers y) r) t.1 q.2)

  pub calls_refuse : (f : TextFault) → read_text text ≡ faulty f → (fs ≡ []) × Told (fault_numbers f) r
  calls_refuse f e =
      let q = series_of s in
      let t = handing.no_frame_of_a_fault text c fresh f e q.1 in
      (t.0, subst (λ (y : Yield). Told (yield_numbers y) r) t.1 q.2)
