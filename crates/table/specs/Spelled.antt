-- The working table: rows [id, place, start, length, witness], of which the first `count` are in use; the pool of literals, used below `top`;
-- the ids of the stack from its bottom, of which the first `depth` are held. What it spells, and what it keeps.
use Rattle.std.specs.Prelude.{◌≡◌, ◌⊎◌, Bool, true, cond, List, [], ◌∷◌, map, reverse, ℕ, zero, suc, ◌+◌, ◌<◌, ◌≤◌, eqb, ℤ, length, get_or, take, drop}
use Rattle.rules.specs.Lists.{all_pass, only}
use Rattle.rules.specs.Terms.{in_range, is_clause, is_witness, Held, State, has, fetch}
use Rattle.rules.specs.Frames.{place}
use Rattle.table.specs.Facts.{All, Pairs, total}
use Rattle.table.specs.declared.Table.{Table}
use Rattle.std.specs.Prelude.{Option}
use Rattle.std.specs.Prelude.{Some, None}

-- ---- a row

abbrev pub Row : Type 0
Row = List ℕ

abbrev pub row_at : List Row → ℕ → Row
row_at rows k = get_or rows k []

abbrev pub id_of : Row → ℕ
id_of r = get_or r 0 0

-- 0 irredundant, 1 learned, 2 stacked; 3 of a row whose clause is gone
abbrev pub place_of : Row → ℕ
place_of r = get_or r 1 0

abbrev pub start_of : Row → ℕ
start_of r = get_or r 2 0

abbrev pub length_of : Row → ℕ
length_of r = get_or r 3 0

abbrev pub witness_of : Row → ℕ
witness_of r = get_or r 4 0

-- the words that it holds of the pool: the clause's literals, and those of the witness behind them
abbrev pub size : Row → ℕ
size r = length_of r + witness_of r

-- the same clause's row, in another place or with other words
abbrev pub moved_row : Row → ℕ → ℕ → ℕ → ℕ → Row
moved_row r p start n w = id_of r ∷ p ∷ start ∷ n ∷ w ∷ []

abbrev pub part : List ℤ → ℕ → ℕ → List ℤ
part pool start n = take n (drop start pool)

abbrev pub clause_part : List ℤ → Row → List ℤ
clause_part pool r = part pool (start_of r) (length_of r)

abbrev pub witness_part : List ℤ → Row → List ℤ
witness_part pool r = part pool (start_of r + length_of r) (witness_of r)

abbrev pub held : List ℤ → Row → Held
held pool r = record { id = id_of r; lits = clause_part pool r; witness = witness_part pool r }

-- a clause or a record, and the place that it stands in
pub record InPlace : Type 0 where
  pub where_is : ℕ
  pub what : Held

abbrev pub in_place : List ℤ → Row → InPlace
in_place pool r = record { where_is = place_of r; what = held pool r }

-- ---- the numbers beside the rows

-- the table with other numbers: V and the entries that may be held stay
abbrev pub renumbered : Table → (highest count gone words depth top : ℕ) → Table
renumbered t highest count gone words depth top =
    record { vars = t.vars; highest = highest; entries = t.entries; count = count; gone = gone; words = words; depth = depth; top = top }

-- ---- what the tables spell

abbrev pub stands : ℕ → Row → Bool
stands p r = eqb (place_of r) p

-- the clauses of a place, in row order
abbrev pub clauses : ℕ → List ℤ → List Row → List Held
clauses p pool rows = map (held pool) (only (stands p) rows)

abbrev pub held_rows : Table → List Row → List Row
held_rows t rows = take t.count rows

abbrev pub from_top : Table → List ℕ → List ℕ
from_top t stack = reverse (take t.depth stack)

abbrev pub spelled : Table → List Row → List ℤ → List ℕ → State
spelled t rows pool stack = record {
  vars = t.vars;
  highest = t.highest;
  entries = t.entries;
  words = length pool;
  irredundant = clauses 0 pool (held_rows t rows);
  learned = clauses 1 pool (held_rows t rows);
  stack = map (fetch (clauses 2 pool (held_rows t rows))) (from_top t stack);
}

-- ---- what they keep

-- by strictly rising id; so "held ids are distinct"
abbrev pub Rising : List Row → Type 0
Rising rows = Pairs (λ r x. id_of r < id_of x) rows

-- "positive and not above the highest accepted"
abbrev pub Known : ℕ → Row → Type 0
Known highest r = (0 < id_of r) × (id_of r ≤ highest)

-- "all literals lie inside the pool"
abbrev pub Inside : ℕ → Row → Type 0
Inside top r = start_of r + size r ≤ top

-- "with no overlap": one of the two is empty, or one ends before the other starts
abbrev pub Clear : Row → Row → Type 0
Clear r x = ((size r ≡ 0) ⊎ (size x ≡ 0)) ⊎ (Inside (start_of x) r ⊎ Inside (start_of r) x)

-- "every clause and witness obeys Terms within V, only stacked clauses have witnesses"; a row whose clause is gone has no words
unfoldable pub Lawful : ℕ → ℕ → Held → Type 0
Lawful vars zero h = (is_clause vars h.lits ≡ true) × (h.witness ≡ [])
Lawful vars (suc zero) h = (is_clause vars h.lits ≡ true) × (h.witness ≡ [])
Lawful vars (suc (suc zero)) h = (is_clause vars h.lits ≡ true) × (is_witness vars h.lits h.witness ≡ true)
Lawful vars (suc (suc (suc zero))) h = (h.lits ≡ []) × (h.witness ≡ [])
Lawful vars (suc (suc (suc (suc p)))) h = ⊥

-- clauses by rising id
abbrev pub by_id : List Held → List Held
by_id [] = []
by_id (h ∷ hs) = place h (by_id hs)

-- "the stack lists each stacked clause once": each id is a stacked clause's, none is there twice, and none is missing
pub record Listed (stacked : List Held) (ids : List ℕ) : Type 0 where
  pub each : All (λ i. has stacked i ≡ true) ids
  pub once : Pairs (λ i j. j ≡ i → ⊥) ids
  pub whole : by_id (map (fetch stacked) ids) ≡ stacked

-- of the rows held, the pool, and the stack's ids from the top
pub record Core (vars highest top words : ℕ) (rows : List Row) (pool : List ℤ) (ids : List ℕ) : Type 0 where
  pub rising : Rising rows
  pub known : All (Known highest) rows
  pub inside : All (Inside top) rows
  pub apart : Pairs Clear rows
  pub lawful : All (λ r. Lawful vars (place_of r) (held pool r)) rows
  pub counted : words ≡ total size rows
  pub listed : Listed (clauses 2 pool rows) ids

-- one for each row whose clause is gone
abbrev pub gone_one : Row → ℕ
gone_one r = cond (stands 3 r) 1 0

-- the invariant: sizes and counts, and what is held. At most `entries` clauses are held; there may be more rows than that, so that the rows of
-- clauses that are gone need not be closed up at once
pub record Fit (t : Table) (rows : List Row) (pool : List ℤ) (stack : List ℕ) : Type 0 where
  pub vars_fit : (0 < t.vars) × (t.vars ≤ 2048)
  pub highest_fit : t.highest ≤ 2147483647
  pub entries_lent : t.entries ≤ 1024
  pub rows_lent : length rows ≤ 2048
  pub pool_lent : length pool ≤ 8192
  pub stack_lent : t.entries ≤ length stack
  pub entries_fit : t.entries ≤ length rows
  pub rows_fit : t.count ≤ length rows
  pub held_fit : t.count ≤ t.entries + t.gone
  pub pool_fit : t.top ≤ length pool
  pub stack_fit : t.depth ≤ length stack
  pub gone_fit : t.gone ≡ total gone_one (held_rows t rows)
  pub core : Core t.vars t.highest t.top t.words (held_rows t rows) pool (from_top t stack)

-- every word of the tables and every number beside them is what it was
pub record Same (t : Table) (rows : List Row) (pool : List ℤ) (stack : List ℕ) (t' : Table) (rows' : List Row) (pool' : List ℤ) (stack' : List ℕ) : Type 0 where
  pub table : t' ≡ t
  pub same_rows : rows' ≡ rows
  pub same_pool : pool' ≡ pool
  pub same_stack : stack' ≡ stack

-- ---- readers

-- what they may lean on, of the rows held and the pool: Fit has it
pub record Readable (rows : List Row) (pool : List ℤ) : Type 0 where
  pub rising : Rising rows
  pub positive : (k : ℕ) → k < length rows → 0 < id_of (row_at rows k)
  pub inside : (k : ℕ) → k < length rows → Inside (length pool) (row_at rows k)
  pub ranged : (k : ℕ) → k < length rows → all_pass (in_range 2048) (clause_part pool (row_at rows k)) ≡ true
  pub witness_ranged : (k : ℕ) → k < length rows → all_pass (in_range 2048) (witness_part pool (row_at rows k)) ≡ true
  pub short : (k : ℕ) → k < length rows → (length_of (row_at rows k) ≤ 256) × (witness_of (row_at rows k) ≤ 256)

-- every row before k has a lesser id
abbrev pub Below : List Row → ℕ → ℕ → Type 0
Below rows i k = (k ≤ length rows) × ((j : ℕ) → j < k → id_of (row_at rows j) < i)

-- where the id is, or that it is nowhere
abbrev pub Located : List Row → ℕ → Option ℕ → Type 0
Located rows i (Some k) = (k < length rows) × (id_of (row_at rows k) ≡ i)
Located rows i None = (k : ℕ) → k < length rows → id_of (row_at rows k) ≡ i → ⊥
