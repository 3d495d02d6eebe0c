-- A frame over the first words of a buffer, and what is told of it.
use mathlib.Core.Path.{◌≡◌, sym, ap, ◌∙◌}
use mathlib.Core.Bool.{true, false}
use mathlib.Core.List.{List, [], ◌∷◌, ◌++◌}
use mathlib.Core.Option.{Option, none, some}
use Prim.Native.Nat.{ℕ, suc, ◌+◌, ◌≤◌, ◌<◌}
use native.Mathlib.Omega.{arith}
use lib.IntN.{ℤ, pos}
use lib.ListN.{length, take, drop, drop_of_length-le}
use lib.Seq.{drop-drop, length-take-le}
use lib.Dec.{ltb}
use borrow.Author.Tests.{ltb-true, ltb-false, lt-ltb, le-ltb, eq-eqb, ne_eqb}
use mir.Syntax.{w32}
use mir.Val.{to_z}
use mir.Facts.{to_z_pos}
use Rattle.table_slices.specs.Writes.{over, written}
use Rattle.rules.proofs.Lists.{by_cases, from_index}
use Rattle.text.specs.Words.{TextWord, words_from}
use Rattle.text.specs.Places.{Behind}
use Rattle.text.proofs.Words.{words_end}
use Rattle.text_numbers.specs.Told.{ends_word}
use Rattle.dimacs.specs.Reading.{Read, faulty, sound, Cnf, read_text, body_words, judged_text}
use Rattle.dimacs.specs.Frames.{add_frame, ClosedClause, next_clause}
use Rattle.dimacs.specs.declared.TextFault.{TextFault}
use Rattle.dimacs.specs.declared.TextCounts.{TextCounts}
use Rattle.dimacs_frames.specs.Yields.{words_left, yield_clause, yield_first, into, yields_into}
use Rattle.dimacs_frames.specs.declared.Cursor.{Cursor}
use Rattle.dimacs_frames.specs.Yielding.{yielded}
use Rattle.std.specs.Prelude.{Ok, None, Err}
use Rattle.dimacs_frames.specs.declared.YieldError.TheVariants.{Faulty, NoBuffer, NoId}

-- its first two words, then its literals
pub frame_over : (frame : List ℤ) (id : ℕ) (lits : List ℤ) → id ≤ 2147483647
    → written (written frame 0 (pos 1 ∷ to_z w32 id ∷ [])) 2 lits ≡ over frame (add_frame id lits)
frame_over frame id lits h =
    let e : to_z w32 id ≡ pos id = to_z_pos w32 (omega arith) in
    let n : 2 + length lits ≡ suc (suc (length lits)) = omega arith in
    rw e (ap (λ (ws : List ℤ). pos 1 ∷ pos id ∷ (lits ++ ws)) (drop-drop (length lits) 2 frame ∙ ap (λ (k : ℕ). drop k frame) n))

-- ---- what is told of the next clause

module _ (frame : List ℤ) (id : ℕ) where
  pub yield_none : (o : Option ClosedClause) → o ≡ none → (Ok None, frame) ≡ into frame (yield_clause id o)
  yield_none o e = rw e

  module _ (n end : ℕ) (lits : List ℤ) (ws : List TextWord) (o : Option ClosedClause)
      (e : o ≡ some (record { lits = take n lits; behind = end; rest = ws })) where
    pub yield_unnamed : 2147483647 ≤ id → (Err NoId, frame) ≡ into frame (yield_clause id o)
    yield_unnamed h = rw (e, le-ltb id 2147483647 h)

    pub yield_frame : id < 2147483647 → n ≤ length lits → (frame' : List ℤ) → frame' ≡ over frame (add_frame (id + 1) (take n lits))
        → (yielded (2 + n) (record { at = end; id = id + 1 }), frame') ≡ into frame (yield_clause id o)
    yield_frame h k frame' f = rw (e, lt-ltb id 2147483647 h, length-take-le n lits k, f)

-- ---- the first clause of a text

module _ (text : List ℕ) where
  -- the text was judged faulty
  pub first_faulty : (frame : List ℤ) {f : TextFault} (r : Read Cnf) → Err f ≡ judged_text r → (Err (Faulty f), frame) ≡ into frame (yield_first text r)
  first_faulty frame {f} (faulty g) e = let same : f ≡ g = cc in rw same
  first_faulty frame (sound x) e = let z : ◌≡◌ {A = ℕ} 0 1 = cc in absurd (omega arith)

  pub first_clause : {n : TextCounts} (r : Read Cnf) → Ok n ≡ judged_text r → (ws : List TextWord) → ws ≡ body_words text
      → yield_clause 0 (next_clause [] ws) ≡ yield_first text r
  first_clause (faulty f) e ws b = let z : ◌≡◌ {A = ℕ} 0 1 = cc in absurd (omega arith)
  first_clause (sound x) e ws b = rw b

  -- ---- behind a cursor

  module _ (at : ℕ) where
    pub left_behind : ends_word (drop at text) ≡ true → words_left text at ≡ words_from false at text
    left_behind e = rw e

    pub none_behind : length text < at → next_clause [] (words_left text at) ≡ none
    unfolding next_clause
    none_behind h =
        let past : length text ≤ at = omega arith in
        let all_read : ends_word (drop at text) ≡ true = ap ends_word (drop_of_length-le text past) in
        ap (next_clause []) (left_behind all_read ∙ words_end text false at past)

    pub none_inside : ends_word (drop at text) ≡ false → next_clause [] (words_left text at) ≡ none
    unfolding next_clause
    none_inside e = rw e

    pub behind_ends : Behind text at → ends_word (drop at text) ≡ true
    behind_ends b = by_cases (ltb at (length text))
        (λ t. let h = ltb-true at (length text) t in ap ends_word (from_index text at 0 h) ∙ b h)
        (λ f. ap ends_word (drop_of_length-le text (ltb-false at (length text) f)))

    pub stands_behind : ends_word (drop at text) ≡ true → Behind text at
    stands_behind e h = sym (ap ends_word (from_index text at 0 h)) ∙ e

  module _ (c : Cursor) (frame : List ℤ) where
    pub into_short : length frame < 258 → (Err NoBuffer, frame) ≡ yields_into text c frame
    into_short h = rw (lt-ltb (length frame) 258 h)

    module _ (h : 258 ≤ length frame) where
      pub into_first : c.id ≡ 0 → yields_into text c frame ≡ into frame (yield_first text (read_text text))
      into_first e = rw (le-ltb (length frame) 258 h, eq-eqb c.id 0 e)

      module _ (e : c.id ≡ 0 → ⊥) where
        pub into_on : yields_into text c frame ≡ into frame (yield_clause c.id (next_clause [] (words_left text c.at)))
        into_on = rw (le-ltb (length frame) 258 h, ne_eqb c.id 0 e)

        pub into_none : next_clause [] (words_left text c.at) ≡ none → (Ok None, frame) ≡ yields_into text c frame
        into_none n = yield_none frame c.id (next_clause [] (words_left text c.at)) n ∙ sym into_on

        pub into_next : ends_word (drop c.at text) ≡ true
            → into frame (yield_clause c.id (next_clause [] (words_from false c.at text))) ≡ yields_into text c frame
        into_next b = ap (λ (ws : List TextWord). into frame (yield_clause c.id (next_clause [] ws))) (sym (left_behind c.at b)) ∙ sym into_on
