-- What the archive's functions come to: what the public calls are promised to come to, with the answer as its numbers and what is carried behind a reference.
use Rattle.std.specs.Prelude.{◌≡◌, List, ℕ, ℤ, length}
use Rattle.table.specs.Spelled.{part}
use Rattle.lent_entries.specs.Lent.{Spans}
use Rattle.lent_entries.specs.declared.Entry.{Entry}
use Rattle.lent.specs.declared.Carried.{Carried}
use Rattle.lent.specs.declared.Called.{Called}
use Rattle.call_step.specs.Calls.{Opening, Stepping}
use Rattle.call_give.specs.Giving.{Giving, Ending}
use Rattle.call_give.specs.declared.Given.{Given}
use Rattle.call_give.specs.declared.Ended.{Ended}
use Rattle.library_back.specs.Handed.{Numbered, carried_after, reader_of, read_after}
use Rattle.library_back.specs.declared.Numbers.{Numbers}
use Rattle.library_back.specs.declared.Part.{Part}
use Rattle.library_back.specs.declared.Reading.{Reading}
use Rattle.library_back.specs.declared.Counts.{Counts}

-- `open` comes to `called`
pub record OpenExported (vars : ℕ) (entries : List Entry) (pool : List ℤ) (carried : Carried) (r : Numbers) (carried' : Carried) : Type 0 where
  pub called : Called
  pub promised : Opening vars entries pool called
  pub answered : Numbered called.answer r
  pub handed_back : carried' ≡ carried_after called.answer called.carried carried

-- `step` comes to `called`
pub record StepExported (entries : List Entry) (pool : List ℤ) (carried : Carried) (frame : List ℤ) (model : List ℕ) (r : Numbers) (entries' : List Entry)
    (pool' : List ℤ) (carried' : Carried) (model' : List ℕ) : Type 0 where
  pub called : Called
  pub promised : Stepping entries pool carried frame model called entries' pool' model'
  pub answered : Numbered called.answer r
  pub handed_back : carried' ≡ called.carried

-- ---- the reading of a held clause

-- where the words lie that an entry says from `from` on: those of them that the pool has, and these are the words
abbrev pub Names : List ℤ → ℕ → ℕ → List ℤ → Part → Type 0
Names pool from many words r = Spans (length pool) from many r.start r.length × (part pool r.start r.length ≡ words)

-- ---- parts of the input

-- `give` comes to `given`
pub record GiveExported (entries : List Entry) (pool : List ℤ) (carried : Carried) (reading : Reading) (frame : List ℤ) (part out : List ℕ) (r : Numbers)
    (entries' : List Entry) (pool' : List ℤ) (carried' : Carried) (reading' : Reading) (frame' : List ℤ) (out' : List ℕ) (counts' : Counts) : Type 0 where
  pub given : Given
  pub promised : Giving entries pool carried (reader_of reading) frame part out given entries' pool' frame' out'
  pub answered : Numbered given.answer r
  pub handed_back : carried' ≡ given.carried
  pub read_back : reading' ≡ read_after given.answer given.reader reading
  pub counted : (counts'.taken ≡ given.taken) × (counts'.written ≡ given.written)

-- ---- the end of input

-- `end` comes to `ended`
pub record EndExported (reading : Reading) (out : List ℕ) (r : Numbers) (out' : List ℕ) (written' : ℕ) : Type 0 where
  pub ended : Ended
  pub promised : Ending (reader_of reading) out ended out'
  pub answered : Numbered ended.answer r
  pub counted : written' ≡ ended.written
