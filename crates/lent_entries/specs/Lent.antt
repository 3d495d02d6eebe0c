-- The lent table of entries. An entry is a row of the working table by another spelling; what it holds of the pool is said by the row.
use Rattle.std.specs.Prelude.{◌≡◌, refl, cond, List, [], ◌∷◌, map, ℕ, ◌-◌, min, ℤ, length, get_or, take, replicate}
use Rattle.std.proofs.Math.Option.{Option, none}
use Rattle.std.proofs.Common.{arith}
use Rattle.rules.specs.Terms.{State}
use Rattle.rules.specs.Answers.{lent}
use Rattle.table_slices.specs.Writes.{over}
use Rattle.table.specs.Spelled.{Row, id_of, place_of, start_of, length_of, witness_of, clause_part, witness_part}
use Rattle.lent.specs.State.{state_carried}
use Rattle.lent.specs.declared.Carried.{Carried}
use Rattle.lent_entries.specs.declared.Entry.{Entry}

-- ---- an entry, and its row

abbrev pub row_of : Entry → Row
row_of e = e.id ∷ e.place ∷ e.start ∷ e.length ∷ e.witness ∷ []

abbrev pub entry_of : Row → Entry
entry_of r = record { id = id_of r; place = place_of r; start = start_of r; length = length_of r; witness = witness_of r }

-- each undoes the other, of rows of five numbers
pub entry_of_row : (e : Entry) → entry_of (row_of e) ≡ e
entry_of_row e = refl

pub row_of_entry : (r : Row) → length r ≡ 5 → row_of (entry_of r) ≡ r
row_of_entry (a ∷ b ∷ c ∷ d ∷ w ∷ []) h = refl
row_of_entry [] h = absurd (omega arith)
row_of_entry (a ∷ []) h = absurd (omega arith)
row_of_entry (a ∷ b ∷ []) h = absurd (omega arith)
row_of_entry (a ∷ b ∷ c ∷ []) h = absurd (omega arith)
row_of_entry (a ∷ b ∷ c ∷ d ∷ []) h = absurd (omega arith)
row_of_entry (a ∷ b ∷ c ∷ d ∷ w ∷ x ∷ r) h = absurd (omega arith)

-- ---- what holds nothing

abbrev pub vacant_row : Row
vacant_row = replicate 5 0

abbrev pub vacant_rows : List Row
vacant_rows = replicate 1280 vacant_row

abbrev pub vacant : Entry
vacant = entry_of vacant_row

-- ---- the reading of a held clause, for any i: past the table's end is an entry that holds nothing, past the pool's no word

abbrev pub entry_at : List Entry → ℕ → Entry
entry_at entries i = get_or entries i vacant

abbrev pub clause_held : Entry → List ℤ → List ℤ
clause_held e pool = clause_part pool (row_of e)

abbrev pub witness_held : Entry → List ℤ → List ℤ
witness_held e pool = witness_part pool (row_of e)

abbrev pub clause_at : List Entry → List ℤ → ℕ → List ℤ
clause_at entries pool i = clause_held (entry_at entries i) pool

abbrev pub witness_at : List Entry → List ℤ → ℕ → List ℤ
witness_at entries pool i = witness_held (entry_at entries i) pool

-- where `many` words from `from` on lie in a pool of so many words: those of them that there are
pub record Spans (words from many start n : ℕ) : Type 0 where
  pub starts : start ≡ min from words
  pub long : n ≡ min many (words - start)

-- ---- the whole table

-- it as rows: the first `count` entries, as far as there are entries, and at most 1,024; the rows behind them hold nothing
abbrev pub taken : List Entry → ℕ → List Row
taken entries count = over vacant_rows (map row_of (take (min 1024 count) entries))

-- the state that what is lent and carried spells, where it is one and the lent sizes are in range
abbrev pub state_lent : List Entry → List ℤ → Carried → Option State
state_lent entries pool c = cond (lent (length entries) (length pool)) (state_carried c (map row_of entries) pool) none
