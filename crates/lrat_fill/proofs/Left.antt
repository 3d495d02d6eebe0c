-- The clauses of a text without fault that are left behind a cursor: a call hands out the first of them, whatever its buffer held.
use mathlib.Core.Path.{◌≡◌, sym, ap, ◌∙◌}
use mathlib.Core.Logic.{⊎_elim}
use mathlib.Core.List.{List, [], ◌∷◌}
use Prim.Native.Nat.{ℕ, ◌+◌, ◌-◌, ◌≤◌, ◌<◌}
use native.Mathlib.Omega.{arith}
use lib.IntN.{ℤ}
use lib.ListN.{length, take, drop}
use lib.Seq.{take-append_seam}
use borrow.Author.Tests.{lt-ltb}
use Rattle.table_slices.specs.Writes.{over}
use Rattle.text.specs.Words.{TextWord}
use Rattle.dimacs.specs.Reading.{sound, read_clauses, Cnf, read_text, body_words}
use Rattle.dimacs.specs.Frames.{add_frame, next_clause}
use Rattle.dimacs.proofs.Clauses.{NextOf, clause_next}
use Rattle.dimacs.proofs.Bodies.{Standing, from_stands, body_stands, clause_behind, text_body}
use Rattle.dimacs_frames.specs.Yields.{yield_clause, into, yields_into}
use Rattle.dimacs_frames.specs.declared.Cursor.{Cursor}
use Rattle.dimacs_frames.specs.Yielding.{Yield, yielded}
use Rattle.std.specs.Prelude.{Ok, None}
use Rattle.dimacs_frames.proofs.Frames.{behind_ends, into_first, into_next}
use Rattle.dimacs_frames.proofs.Series.{handed_out, yielded_same}

-- the words behind the cursor are these clauses
pub record Left (text : List ℕ) (vars : ℕ) (c : Cursor) (cs : List (List ℤ)) : Type 0 where
  pub few : vars ≤ 2048
  pub words : List TextWord
  pub stands : Standing text words
  pub read : read_clauses vars (length text) [] words ≡ sound cs
  pub yields : (frame : List ℤ) → 258 ≤ length frame → yields_into text c frame ≡ into frame (yield_clause c.id (next_clause [] words))

-- before the first call these are all of the text's
pub left_first : (text : List ℕ) (x : Cnf) → read_text text ≡ sound x → (c : Cursor) → c.id ≡ 0 → Left text x.vars c x.clauses
left_first text x e c fresh =
    let b = text_body text e in
    record {
      few = b.high;
      words = body_words text;
      stands = body_stands text;
      read = b.read;
      yields = λ frame h. into_first text c frame h fresh ∙ rw (e, fresh);
    }

-- the literals of a frame of n words
abbrev pub lits_in : ℕ → List ℤ → List ℤ
lits_in n frame = take (n - 2) (drop 2 frame)

-- the first clause was handed out, and the others are left
pub record Handed (text : List ℕ) (vars : ℕ) (cs : List (List ℤ)) (lits : List ℤ) (d : Cursor) : Type 0 where
  pub others : List (List ℤ)
  pub same : cs ≡ lits ∷ others
  pub left : Left text vars d others

module _ {text : List ℕ} {vars : ℕ} {c : Cursor} {cs : List (List ℤ)} (l : Left text vars c cs) (frame frame' : List ℤ) (wide : 258 ≤ length frame) where
  abbrev Next : Type 0
  Next = NextOf vars (length text) [] l.words cs

  -- behind the next clause
  behind : (n : Next) (id : ℕ) → Left text vars (record { at = n.clause.behind; id = id + 1 }) n.others
  behind n id =
      let x = n.clause in
      let b = clause_behind text l.words [] l.stands n.next in
      let d : Cursor = record { at = x.behind; id = id + 1 } in
      record {
        few = l.few;
        words = x.rest;
        stands = rw b.rest (from_stands text x.behind);
        read = n.read;
        yields = λ f h. sym (into_next text d f h (λ e. omega arith) (behind_ends text x.behind b.behind))
            ∙ ap (λ (ws : List TextWord). into f (yield_clause (id + 1) (next_clause [] ws))) (sym b.rest);
      }

  next_yields : (n : Next) → c.id < 2147483647 → let lits = n.clause.lits in yields_into text c frame
      ≡ (yielded (2 + length lits) (record { at = n.clause.behind; id = c.id + 1 }), over frame (add_frame (c.id + 1) lits))
  next_yields n h = l.yields frame wide ∙ rw (n.next, lt-ltb c.id 2147483647 h)

  none_yields : l.words ≡ [] → yields_into text c frame ≡ (Ok None, frame)
  unfolding next_clause
  none_yields e = l.yields frame wide ∙ rw e

  -- a call that hands out a frame
  pub left_frame : (n : ℕ) (d : Cursor) → (yielded n d, frame') ≡ yields_into text c frame → Handed text vars cs (lits_in n frame') d
  left_frame n d q = ⊎_elim
      (λ none.
      let told : ◌≡◌ {A = Yield} (yielded n d) (Ok None) = ap (λ (x : Yield × List ℤ). x.0) (q ∙ none_yields none.1) in
      let z : ◌≡◌ {A = ℕ} 0 1 = cc in
      absurd (omega arith))
      (λ next.
      let h = handed_out text c frame frame' n d q in
      let lits = next.clause.lits in
      let all = q ∙ next_yields next (omega (arith, h.named, h.last)) in
      let told = ap (λ (x : Yield × List ℤ). x.0) all in
      let words : frame' ≡ over frame (add_frame (c.id + 1) lits) = ap (λ (x : Yield × List ℤ). x.1) all in
      let (count, at) = yielded_same told in
      let many : n - 2 ≡ length lits = omega arith in
      let literals : lits_in n frame' ≡ lits = rw (many, words) (take-append_seam lits _) in
      record { others = next.others; same = next.same ∙ ap (λ (ws : List ℤ). ws ∷ next.others) (sym literals); left = rw at (behind next c.id) })
      (clause_next vars (length text) l.few l.words [] cs l.read)

  -- a call that hands out none, though ids are left
  pub left_none : (r : Yield) → (r, frame') ≡ yields_into text c frame → ((n : ℕ) (d : Cursor) → r ≡ yielded n d → ⊥) → c.id < 2147483647 → cs ≡ []
  left_none r q last h = ⊎_elim
      (λ none. none.2)
      (λ next. absurd (last _ _ (ap (λ (x : Yield × List ℤ). x.0) (q ∙ next_yields next h))))
      (clause_next vars (length text) l.few l.words [] cs l.read)
