-- Document 02, request 1: "Read that text into ADD frames with ids 1, 2, 3 and so on." One frame at a time, behind a cursor, whatever that is.
use Rattle.std.specs.Prelude.{cond, List, [], ℕ, ◌+◌, eqb, ltb, ℤ, length, drop, false}
use Rattle.std.proofs.Math.Option.{Option, none, some}
use Rattle.table_slices.specs.Writes.{over}
use Rattle.text.specs.Words.{TextWord, words_from}
use Rattle.text_numbers.specs.Told.{ends_word}
use Rattle.dimacs.specs.Reading.{Read, faulty, sound, Cnf, fault_numbers, read_text, body_words}
use Rattle.dimacs.specs.Frames.{add_frame, ClosedClause, next_clause}
use Rattle.dimacs_frames.specs.declared.Cursor.{Cursor}
use Rattle.dimacs_frames.specs.Yielding.{Yield, yielded}
use Rattle.std.specs.Prelude.{Some, None, Ok, Err}
use Rattle.dimacs_frames.specs.declared.YieldError.TheVariants.{Faulty, NoBuffer, NoId}

-- the words from a place on; in the middle of a word there are none
abbrev pub words_left : List ℕ → ℕ → List TextWord
words_left text at = cond (ends_word (drop at text)) (words_from false at text) []

-- what is told, and the frame: the next clause under the next id. Ids end at 2147483647.
abbrev pub yield_clause : ℕ → Option ClosedClause → Yield × List ℤ
yield_clause id none = (Ok None, [])
yield_clause id (some x) =
    cond (ltb id 2147483647) (yielded (2 + length x.lits) (record { at = x.behind; id = id + 1 }), add_frame (id + 1) x.lits) (Err NoId, [])

-- "A text with a fault yields no frame": it is judged before the first
abbrev pub yield_first : List ℕ → Read Cnf → Yield × List ℤ
yield_first text (faulty f) = (Err (Faulty f), [])
yield_first text (sound x) = yield_clause 0 (next_clause [] (body_words text))

abbrev pub yields : List ℕ → Cursor → Yield × List ℤ
yields text c = cond (eqb c.id 0) (yield_first text (read_text text)) (yield_clause c.id (next_clause [] (words_left text c.at)))

-- the frame over the first words of a buffer, which stays where there is none
abbrev pub into : List ℤ → Yield × List ℤ → Yield × List ℤ
into frame (r, ws) = (r, over frame ws)

abbrev pub yields_into : List ℕ → Cursor → List ℤ → Yield × List ℤ
yields_into text c frame = cond (ltb (length frame) 258) (Err NoBuffer, frame) (into frame (yields text c))

-- ---- in numbers

-- a frame is 0 and so many words; 0 and no word where no clause is left; 1 for a buffer of too few words; 4 and the id that there is not for a clause behind
-- the last id
abbrev pub yield_numbers : Yield → ℕ × ℕ
yield_numbers (Ok (Some y)) = (0, y.words)
yield_numbers (Ok None) = (0, 0)
yield_numbers (Err (Faulty f)) = fault_numbers f
yield_numbers (Err NoBuffer) = (1, 0)
yield_numbers (Err NoId) = (4, 2147483648)

-- the cursor moves with a frame alone
abbrev pub cursor_after : Yield → Cursor → Cursor
cursor_after (Ok (Some y)) c = y.behind
cursor_after (Ok None) c = c
cursor_after (Err e) c = c
