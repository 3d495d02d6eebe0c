-- What goes back over the archive's calls: an answer as its two numbers, what is carried and read after a call, what a part and the end of input came to.
use Rattle.std.specs.Prelude.{◌≡◌, not, cond, ℕ, eqb}
use Rattle.rules.specs.Answers.{numbers}
use Rattle.rules.specs.Results.{Answer}
use Rattle.std.specs.Prelude.{Ok, Err}
use Rattle.lent.specs.declared.Carried.{Carried}
use Rattle.line_read.specs.declared.Reader.{Reader}
use Rattle.call_give.specs.declared.Ended.{Ended}
use Rattle.library_back.specs.declared.Numbers.{Numbers}
use Rattle.library_back.specs.declared.Reading.{Reading}
use Rattle.library_back.specs.declared.PartHanded.{PartHanded}
use Rattle.library_back.specs.declared.EndHanded.{EndHanded}

-- "Each answer is a code and a detail."
abbrev pub Numbered : Answer → Numbers → Type 0
Numbered answer r = (r.code ≡ (numbers answer).0) × (r.detail ≡ (numbers answer).1)

-- what is carried after an opening with this answer: a refused one writes nothing
abbrev pub carried_after : Answer → Carried → Carried → Carried
carried_after (Ok changed) opened before = opened
carried_after (Err fault) opened before = before

-- ---- parts of the input

-- a line is spoilt where the word is not 0, and then goes back as 1
abbrev pub reader_of : Reading → Reader
reader_of x = record { digits = x.digits; word = x.word; spoilt = not (eqb x.spoilt 0) }

abbrev pub reading_of : Reader → Reading
reading_of r = record { digits = r.digits; word = r.word; spoilt = cond r.spoilt 1 0 }

-- what is read after a part with this answer: a refused one leaves every word
abbrev pub read_after : Answer → Reader → Reading → Reading
read_after (Ok changed) read before = reading_of read
read_after (Err fault) read before = before

abbrev pub PartHanding : Answer → Reader → ℕ → ℕ → Reading → PartHanded → Type 0
PartHanding answer reader taken written before h =
    Numbered answer h.numbers × (h.reading ≡ read_after answer reader before) × (h.counts.taken ≡ taken) × (h.counts.written ≡ written)

-- ---- the end of input

abbrev pub EndHanding : Ended → EndHanded → Type 0
EndHanding ended c = Numbered ended.answer c.numbers × (c.written ≡ ended.written)
