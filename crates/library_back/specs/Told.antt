-- What goes back of a DIMACS text: its two numbers, V and the number of clauses, the cursor.
use Rattle.std.specs.Prelude.{◌≡◌, ℕ, Result, Ok, Err}
use Rattle.dimacs.specs.Reading.{fault_numbers}
use Rattle.dimacs.specs.declared.TextCounts.{TextCounts}
use Rattle.dimacs.specs.declared.TextFault.{TextFault}
use Rattle.dimacs_frames.specs.Yields.{yield_numbers, cursor_after}
use Rattle.dimacs_frames.specs.declared.Cursor.{Cursor}
use Rattle.dimacs_frames.specs.Yielding.{Yield}
use Rattle.library_back.specs.declared.Numbers.{Numbers}
use Rattle.library_back.specs.declared.CnfCounts.{CnfCounts}
use Rattle.library_back.specs.declared.CnfHanded.{CnfHanded}
use Rattle.library_back.specs.declared.NextHanded.{NextHanded}

-- these are the two numbers
abbrev pub Told : ℕ × ℕ → Numbers → Type 0
Told n r = (r.code ≡ n.0) × (r.detail ≡ n.1)

-- ---- a text judged: 0 and 0, or the fault's numbers

abbrev pub judged_numbers : Result TextCounts TextFault → ℕ × ℕ
judged_numbers (Ok counts) = (0, 0)
judged_numbers (Err f) = fault_numbers f

-- V and the number of clauses; a faulty text leaves every word
abbrev pub cnf_after : Result TextCounts TextFault → CnfCounts → CnfCounts
cnf_after (Ok counts) before = record { vars = counts.vars; clauses = counts.clauses }
cnf_after (Err f) before = before

abbrev pub CnfHanding : Result TextCounts TextFault → CnfCounts → CnfHanded → Type 0
CnfHanding answer before h = Told (judged_numbers answer) h.numbers × (h.cnf ≡ cnf_after answer before)

-- ---- the next frame

abbrev pub NextHanding : Yield → Cursor → NextHanded → Type 0
NextHanding y before h = Told (yield_numbers y) h.numbers × (h.cursor ≡ cursor_after y before)
