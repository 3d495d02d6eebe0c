-- Document 01, "Tables and hexadecimal lines": when the tables, with V, the highest id accepted and what else the caller holds, are a state, and which.
-- The lent entries are rows [id, place, start, length, witness] here, in any order. The first `count` of them are held.
use Rattle.std.specs.Prelude.{◌≡◌, Bool, true, false, not, cond, ◌&&◌, ◌||◌, List, [], ◌∷◌, map, reverse, ℕ, zero, suc, ◌+◌, eqb, ltb, leb, ℤ, length, take}
use Rattle.std.proofs.Math.Option.{Option, none, some}
use Rattle.rules.specs.Lists.{all_pass}
use Rattle.rules.specs.Terms.{Held, State, is_plain, is_record, has, fetch}
use Rattle.table.specs.Facts.{total}
use Rattle.table.specs.Spelled.{Row, id_of, place_of, start_of, size, held, clauses, by_id}
use Rattle.lent.specs.declared.Carried.{Carried}

-- every two elements pass the test, the earlier with the later
unfoldable pub every_two : {A : Type 0} → (A → A → Bool) → List A → Bool
every_two p [] = true
every_two p (x ∷ xs) = all_pass (p x) xs && every_two p xs

-- "held ids are distinct"
abbrev pub other_id : Row → Row → Bool
other_id r x = not (eqb (id_of x) (id_of r))

-- "positive and not above the highest accepted"
abbrev pub known : ℕ → Row → Bool
known highest r = ltb 0 (id_of r) && leb (id_of r) highest

-- "every clause and witness obeys Terms within V, only stacked clauses have witnesses"; 0 irredundant, 1 learned, 2 stacked, and there is no other place
unfoldable pub lawful : ℕ → ℕ → Held → Bool
lawful vars zero h = is_plain vars h
lawful vars (suc zero) h = is_plain vars h
lawful vars (suc (suc zero)) h = is_record vars h
lawful vars (suc (suc (suc p))) h = false

-- "all literals lie inside the pool": an entry without literals may start anywhere
abbrev pub inside : ℕ → Row → Bool
inside words r = eqb (size r) 0 || leb (start_of r + size r) words

-- "with no overlap": one of the two is empty, or one ends before the other starts
abbrev pub clear : Row → Row → Bool
clear r x = (eqb (size r) 0 || eqb (size x) 0) || (leb (start_of r + size r) (start_of x) || leb (start_of x + size x) (start_of r))

-- "the stack lists each stacked clause once": each id is a stacked clause's, no id is there twice, and there are as many as stacked clauses
abbrev pub lists : List ℕ → List Held → Bool
lists ids stacked = all_pass (has stacked) ids && (every_two (λ i j. not (eqb j i)) ids && eqb (length ids) (length stacked))

module _ (c : Carried) (rows : List Row) (pool : List ℤ) where
  abbrev pub rows_in_use : List Row
  rows_in_use = take c.count rows

  -- the ids of the stack, from its bottom
  abbrev pub ids : List ℕ
  ids = take c.depth c.stack

  abbrev pub rows_are : Bool
  rows_are =
      every_two other_id rows_in_use && (all_pass (known c.highest) rows_in_use && (all_pass (λ r. lawful c.vars (place_of r) (held pool r)) rows_in_use
      && (all_pass (inside (length pool)) rows_in_use && every_two clear rows_in_use)))

  -- "every kept count equals what is held"
  abbrev pub counts_are : Bool
  counts_are = leb c.count (length rows) && (eqb c.words (total size rows_in_use) && eqb c.depth (length (clauses 2 pool rows_in_use)))

  -- "V is 1 to 2,048"; an id is at most 2,147,483,647, so the highest accepted is
  abbrev pub numbers_are : Bool
  numbers_are = (ltb 0 c.vars && leb c.vars 2048) && leb c.highest 2147483647

  -- "are a state exactly when"
  unfoldable pub is_state : Bool
  is_state = numbers_are && (counts_are && (rows_are && lists ids (clauses 2 pool rows_in_use)))

  -- the state: the places by rising id, the stack from its top
  unfoldable pub state_of : State
  state_of = record {
    vars = c.vars;
    highest = c.highest;
    entries = length rows;
    words = length pool;
    irredundant = by_id (clauses 0 pool rows_in_use);
    learned = by_id (clauses 1 pool rows_in_use);
    stack = map (fetch (clauses 2 pool rows_in_use)) (reverse ids);
  }

  -- the state that they spell; "Otherwise code 1"
  abbrev pub state_carried : Option State
  state_carried = cond is_state (some state_of) none

-- two carried values agree, as far as a state settles them: the ids behind the stack's depth are free
pub record Alike (c d : Carried) : Type 0 where
  pub vars : c.vars ≡ d.vars
  pub highest : c.highest ≡ d.highest
  pub count : c.count ≡ d.count
  pub words : c.words ≡ d.words
  pub depth : c.depth ≡ d.depth
  pub listed : take c.depth c.stack ≡ take d.depth d.stack
