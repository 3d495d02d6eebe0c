-- What is asked of one row, by itself.
use Rattle.std.specs.Prelude.{Bool, ◌&&◌, List, ℕ, ◌+◌, leb, ℤ, length}
use Rattle.table.specs.Spelled.{Row, place_of, start_of, size, held}
use Rattle.lent.specs.State.{known, lawful}

-- its part ends within so many words
abbrev pub ends : ℕ → Row → Bool
ends words r = leb (start_of r + size r) words

abbrev pub right : ℕ → ℕ → List ℤ → Row → Bool
right vars highest pool r = known highest r && (ends (length pool) r && lawful vars (place_of r) (held pool r))
