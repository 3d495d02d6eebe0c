-- All parts together at the pool's front, each row's behind the one before it: the entries stay what they were.
use mathlib.Core.Path.{◌≡◌, refl, sym, ◌∙◌, ap}
use mathlib.Core.Logic.{inl, inr}
use mathlib.Core.List.{List, [], ◌∷◌, ◌++◌, map, append_assoc, append-nil}
use Prim.Native.Nat.{ℕ, suc, ◌+◌, ◌<◌, ◌≤◌}
use native.Mathlib.Numerals.{add-one}
use native.Mathlib.Omega.{arith}
use lib.IntN.{ℤ}
use lib.ListN.{length, get_or, set, take, drop, length-drop, length-append}
use lib.Seq.{take-append-le, length-take-le, drop-cons, split_at, get_or-take, take_at, drop_at, get_or_at, set_at, append_snoc, take-take, drop-drop}
use lib.Seq.{take-add}
use Rattle.rules.specs.Terms.{State}
use Rattle.table.specs.Facts.{All, none, both, Pairs, alone, ahead, total}
use Rattle.table.specs.Spelled.{Row, row_at, id_of, start_of, length_of, witness_of, size, part, clause_part, witness_part, held_rows, Rising, Inside, Clear}
use Rattle.table.specs.Spelled.{gone_one, Fit, InPlace, in_place, renumbered}
use Rattle.table_slices.specs.Writes.{over, written}
use Rattle.table_room.specs.Room.{pointed, packed, joined, Gathered, Roomy}
use Rattle.table.specs.declared.Table.{Table}
use Rattle.table.proofs.Facts.{all_here, all_more, all_map, all_unmap, total_join}
use Rattle.table_slices.proofs.Slices.{taken_on, length_over}
use Rattle.table.proofs.Entries.{spell, clauses_spell}
use Rattle.table.proofs.Rows.{LawfulEntry, part_length}
use Rattle.table.proofs.Refits.{refit, spelled_is}

-- ---- one more row

packed_next : (at : ℕ) (rows : List Row) (r : Row) → packed at (rows ++ r ∷ []) ≡ packed at rows ++ pointed (at + total size rows) r ∷ []
packed_next at [] r = let e : at + 0 ≡ at = omega arith in rw e
packed_next at (x ∷ rows) r =
    let e : at + size x + total size rows ≡ at + (size x + total size rows) = omega arith in
    let i = packed_next (at + size x) rows r in
    rw (i, e)

joined_next : (pool : List ℤ) (rows : List Row) (r : Row) → joined pool (rows ++ r ∷ []) ≡ joined pool rows ++ part pool (start_of r) (size r)
joined_next pool [] r = append-nil (part pool (start_of r) (size r))
joined_next pool (x ∷ rows) r =
    let i = joined_next pool rows r in
    rw i (sym (append_assoc (part pool (start_of x) (size x)) (joined pool rows) (part pool (start_of r) (size r))))

length_packed : (at : ℕ) (rows : List Row) → length (packed at rows) ≡ length rows
length_packed at [] = refl
length_packed at (r ∷ rows) = ap suc (length_packed (at + size r) rows)

-- ---- what packed rows keep

total_packed : (at : ℕ) (rows : List Row) → total size (packed at rows) ≡ total size rows
total_packed at [] = refl
total_packed at (r ∷ rows) = let i = total_packed (at + size r) rows in rw i

gone_packed : (at : ℕ) (rows : List Row) → total gone_one (packed at rows) ≡ total gone_one rows
gone_packed at [] = refl
gone_packed at (r ∷ rows) = let i = gone_packed (at + size r) rows in rw i

-- a fact of ids
ids_packed : (P : ℕ → Type 0) (at : ℕ) {rows : List Row} → All (λ r. P (id_of r)) rows → All (λ r. P (id_of r)) (packed at rows)
ids_packed P at none = none
ids_packed P at (both {x = r} p a) = both p (ids_packed P (at + size r) a)

rising_packed : (at : ℕ) {rows : List Row} → Rising rows → Rising (packed at rows)
rising_packed at alone = alone
rising_packed at (ahead {x = r} a p) = ahead (ids_packed (λ i. id_of r < i) (at + size r) a) (rising_packed (at + size r) p)

inside_packed : (at top : ℕ) (rows : List Row) → at + total size rows ≤ top → All (Inside top) (packed at rows)
inside_packed at top [] h = none
inside_packed at top (r ∷ rows) h = let p : Inside top (pointed at r) = omega arith in both p (inside_packed (at + size r) top rows (omega arith))

starts_packed : (low at : ℕ) (rows : List Row) → low ≤ at → All (λ x. low ≤ start_of x) (packed at rows)
starts_packed low at [] h = none
starts_packed low at (r ∷ rows) h = both {x = pointed at r} h (starts_packed low (at + size r) rows (omega arith))

apart_packed : (at : ℕ) (rows : List Row) → Pairs Clear (packed at rows)
apart_packed at [] = alone
apart_packed at (r ∷ rows) =
    ahead {x = pointed at r} (all_more (λ x h. inr (inl h)) (starts_packed (at + size r) (at + size r) rows (omega arith))) (apart_packed (at + size r) rows)

-- ---- the entries

-- the first words of a part that is joined to others
front_part : (p y : List ℤ) (n m : ℕ) → n + m ≤ length p → take n (take (n + m) p ++ y) ≡ take n p
front_part p y n m h =
    let l : length (take (n + m) p) ≡ n + m = length-take-le (n + m) p h in
    take-append-le n (take (n + m) p) y (omega arith) ∙ take-take n (n + m) p (omega arith)

-- and those that follow
back_part : (p y : List ℤ) (n m : ℕ) → n + m ≤ length p → take m (drop n (take (n + m) p ++ y)) ≡ take m (drop n p)
back_part p y n m h =
    let l : length (take n p) ≡ n = length-take-le n p (omega arith) in
    let k : m ≤ length (drop n p) = omega (arith, length-drop n p) in
    ap (λ (z : List ℤ). take m (drop n (z ++ y))) (take-add n m p) ∙ ap (λ (z : List ℤ). take m (drop n z)) (append_assoc (take n p) (take m (drop n p)) y)
    ∙ ap (take m) (drop_at (take n p) (take m (drop n p) ++ y) n l) ∙ take_at (take m (drop n p)) y m (length-take-le m (drop n p) k)

entry_packed : (pool pre rest : List ℤ) (at : ℕ) (r : Row) → length pre ≡ at → Inside (length pool) r →
    in_place (pre ++ (part pool (start_of r) (size r) ++ rest)) (pointed at r) ≡ in_place pool r
entry_packed pool pre rest at r e h =
    let p : List ℤ = drop (start_of r) pool in
    let b : length_of r + witness_of r ≤ length p = omega (arith, length-drop (start_of r) pool) in
    let q : List ℤ = take (size r) p ++ rest in
    let d : drop at (pre ++ q) ≡ q = drop_at pre q at e in
    let c : part (pre ++ q) at (length_of r) ≡ clause_part pool r = ap (take (length_of r)) d ∙ front_part p rest (length_of r) (witness_of r) b in
    let w : part (pre ++ q) (at + length_of r) (witness_of r) ≡ witness_part pool r =
    ap (take (witness_of r)) (sym (drop-drop (length_of r) at (pre ++ q)) ∙ ap (drop (length_of r)) d)
    ∙ back_part p rest (length_of r) (witness_of r) b ∙ ap (take (witness_of r)) (drop-drop (length_of r) (start_of r) pool) in
    rw (c, w)

entries_packed : (pool pre rest : List ℤ) (at : ℕ) {rows : List Row} → length pre ≡ at → All (Inside (length pool)) rows →
    map (in_place (pre ++ (joined pool rows ++ rest))) (packed at rows) ≡ map (in_place pool) rows
entries_packed pool pre rest at e none = refl
entries_packed pool pre rest at e (both {x = r} {xs = rows} p a) =
    let x : List ℤ = part pool (start_of r) (size r) in
    let l : length (pre ++ x) ≡ at + size r = omega (arith, length-append pre x, part_length pool (start_of r) (size r) p) in
    let one = entry_packed pool pre (joined pool rows ++ rest) at r e p in
    let more : map (in_place ((pre ++ x) ++ (joined pool rows ++ rest))) (packed (at + size r) rows) ≡ map (in_place pool) rows =
    entries_packed pool (pre ++ x) rest (at + size r) l a in
    let z : pre ++ (joined pool (r ∷ rows) ++ rest) ≡ pre ++ (x ++ (joined pool rows ++ rest)) = ap (λ (y : List ℤ). pre ++ y)
    (append_assoc x (joined pool rows) rest) in
    let z₂ : (pre ++ x) ++ (joined pool rows ++ rest) ≡ pre ++ (x ++ (joined pool rows ++ rest)) = append_assoc pre x (joined pool rows ++ rest) in
    ap (λ (m : List ℤ). map (in_place m) (packed at (r ∷ rows))) z ∙ rw one (ap (λ (es : List InPlace). in_place pool r ∷ es) (rw z₂ at more))

module _ {t : Table} {rows₀ : List Row} {pool : List ℤ} {stack : List ℕ} (f : Fit t rows₀ pool stack) where
  in_pool : All (Inside (length pool)) (held_rows t rows₀)
  in_pool = let k = f.pool_fit in all_more (λ r h. omega arith) f.core.inside

  -- ---- a turn of the loop

  module _ {i at : ℕ} {rows : List Row} {buffer : List ℤ} (g : Gathered rows₀ pool i at rows buffer) (h : i < t.count) where
    abbrev r₀ : Row
    r₀ = row_at rows₀ i

    abbrev r : Row
    r = row_at rows i

    small : i < length rows₀
    small = let k = f.rows_fit in omega arith

    long : length (packed 0 (take i rows₀)) ≡ i
    long = length_packed 0 (take i rows₀) ∙ length-take-le i rows₀ (let k = small in omega arith)

    rows_here : rows ≡ packed 0 (take i rows₀) ++ r₀ ∷ drop (suc i) rows₀
    rows_here = g.rows_are ∙ ap (λ (l : List Row). packed 0 (take i rows₀) ++ l) (drop-cons rows₀ i [] small)

    -- the row is still as it was
    row_read : r ≡ r₀
    row_read = ap (λ (l : List Row). get_or l i []) rows_here ∙ get_or_at (packed 0 (take i rows₀)) r₀ (drop (suc i) rows₀) [] i long

    split : held_rows t rows₀ ≡ take i rows₀ ++ r₀ ∷ drop (suc i) (held_rows t rows₀)
    split =
        let n = length-take-le t.count rows₀ f.rows_fit in
        let e = get_or-take t.count rows₀ i [] h in
        let d = take-take i t.count rows₀ (omega arith) in
        split_at (held_rows t rows₀) i [] (omega arith) ∙ rw (e, d)

    pub inside_here : Inside (length pool) r
    inside_here = let e = row_read in let s = split in rw e (all_here (take i rows₀) r₀ _ (rw s at in_pool))

    pub room_here : at + size r ≤ t.words
    room_here =
        let e = row_read in
        rw e (omega (arith, f.core.counted, g.at_is, ap (total size) split, total_join size (take i rows₀) (r₀ ∷ drop (suc i) (held_rows t rows₀))))

    pub gathered_next : at ≤ length buffer → Gathered rows₀ pool (i + 1) (at + size r) (set rows i (pointed at r))
        (written buffer at (part pool (start_of r) (size r)))
    gathered_next k =
        let e = row_read in
        let n = add-one i in
        let u = taken_on rows₀ i [] small in
        let s : List ℤ = part pool (start_of r) (size r) in
        let l = part_length pool (start_of r) (size r) inside_here in
        let b = length-take-le at buffer k in
        let a = g.at_is in
        record {
          rows_are =
              ap (λ (l : List Row). set l i (pointed at r)) rows_here ∙ set_at (packed 0 (take i rows₀)) r₀ (drop (suc i) rows₀) (pointed at r) i long
              ∙ sym (append_snoc (packed 0 (take i rows₀)) (pointed at r) (drop (suc i) rows₀))
              ∙ ap (λ (l : List Row). l ++ drop (suc i) rows₀) (ap (λ (x : Row). packed 0 (take i rows₀) ++ pointed at x ∷ []) e
              ∙ ap (λ (x : ℕ). packed 0 (take i rows₀) ++ pointed x r₀ ∷ []) (omega arith) ∙ sym (packed_next 0 (take i rows₀) r₀))
              ∙ rw (u, n);
          at_is = rw (u, e) (omega (arith, total_join size (take i rows₀) (r₀ ∷ [])));
          written = taken s (omega arith) b ∙ rw (g.written, u, e) (sym (joined_next pool (take i rows₀) r₀));
        }
      where
        taken : (s : List ℤ) → length s ≡ size r → length (take at buffer) ≡ at → take (at + size r) (written buffer at s) ≡ take at buffer ++ s
        taken s l b =
            ap (take (at + size r)) (sym (append_assoc (take at buffer) s (drop (length s) (drop at buffer))))
            ∙ take_at (take at buffer ++ s) (drop (length s) (drop at buffer)) (at + size r) (omega (arith, length-append (take at buffer) s))

  -- ---- the tables after it

  module _ {at : ℕ} {rows : List Row} {buffer : List ℤ} (g : Gathered rows₀ pool t.count at rows buffer) (fits : at ≤ length pool)
      (full : at ≤ length buffer) where
    abbrev compacted : Table
    compacted = renumbered t t.highest t.count t.gone t.words t.depth at

    abbrev pool' : List ℤ
    pool' = over pool (take at buffer)

    rows_after : held_rows t rows ≡ packed 0 (held_rows t rows₀)
    rows_after =
        ap (take t.count) g.rows_are
        ∙ take_at (packed 0 (held_rows t rows₀)) (drop t.count rows₀) t.count
        (length_packed 0 (held_rows t rows₀) ∙ length-take-le t.count rows₀ f.rows_fit)

    entries_after : map (in_place pool') (held_rows t rows) ≡ map (in_place pool) (held_rows t rows₀)
    entries_after =
        let e = rows_after in
        let w = g.written in
        rw (e, w) (entries_packed pool [] _ 0 refl in_pool)

    same_rows : length rows ≡ length rows₀
    same_rows =
        let k = f.rows_fit in
        omega (
          arith,
          ap length g.rows_are,
          length-append (packed 0 (held_rows t rows₀)) (drop t.count rows₀),
          length_packed 0 (held_rows t rows₀),
          length-take-le t.count rows₀ f.rows_fit,
          length-drop t.count rows₀,
        )

    same_pool : length pool' ≡ length pool
    same_pool = let l = length-take-le at buffer full in length_over pool (take at buffer) (omega arith)

    compact_fit : Fit compacted rows pool' stack
    compact_fit =
        let e = rows_after in
        let s = entries_after in
        let c = f.core in
        refit f refl refl f.highest_fit same_rows same_pool refl f.rows_fit f.held_fit fits f.stack_fit
        (rw e (f.gone_fit ∙ sym (gone_packed 0 (held_rows t rows₀)))) (record {
          rising = rw e (rising_packed 0 c.rising);
          known = rw e (ids_packed (λ i. (0 < i) × (i ≤ t.highest)) 0 c.known);
          inside = rw e (inside_packed 0 at (held_rows t rows₀) (omega (arith, g.at_is)));
          apart = rw e (apart_packed 0 (held_rows t rows₀));
          lawful =
              all_unmap {P = LawfulEntry t.vars} (in_place pool') (held_rows t rows)
              (rw s (all_map {P = LawfulEntry t.vars} (in_place pool) (held_rows t rows₀) c.lawful));
          counted = rw e (c.counted ∙ sym (total_packed 0 (held_rows t rows₀)));
          listed = let q = clauses_spell 2 pool' (held_rows t rows) ∙ ap (spell 2) s ∙ sym (clauses_spell 2 pool (held_rows t rows₀)) in rw q c.listed;
        })

    pub compact_roomy : (n : ℕ) → t.words + n ≤ length pool → Roomy t rows₀ pool stack compacted rows pool' n
    compact_roomy n h =
        let p = same_rows in
        let q = same_pool in
        let s = entries_after in
        record {
          fit = compact_fit;
          same = spelled_is compacted rows pool' stack ∙ rw (q, s) (sym (spelled_is t rows₀ pool stack));
          entries = s;
          count = refl;
          gone = refl;
          long = p;
          words = refl;
          depth = refl;
          room = omega (arith, g.at_is, f.core.counted);
        }

-- ---- what is said of room

pub roomy_is : {t u : Table} {rows rows₀ : List Row} {pool : List ℤ} {stack : List ℕ} {t' : Table} {rows' : List Row} {pool' : List ℤ} {n m : ℕ} →
    t ≡ u → rows ≡ rows₀ → n ≡ m → Roomy t rows pool stack t' rows' pool' n → Roomy u rows₀ pool stack t' rows' pool' m
roomy_is a b c r = rw (a, b, c) at r

module _ {t : Table} {rows : List Row} {pool : List ℤ} {stack : List ℕ} {t' : Table} {rows' : List Row} {pool' : List ℤ} {n : ℕ}
    (m : Roomy t rows pool stack t' rows' pool' n) where
  pub roomy_lengths : (length rows' ≡ length rows) × (length pool' ≡ length pool)
  roomy_lengths = (m.long, ap (λ (s : State). s.words) m.same)

  -- where there is room for n words there is room for fewer
  pub roomy_less : {k : ℕ} → k ≤ n → Roomy t rows pool stack t' rows' pool' k
  roomy_less h = record {
    fit = m.fit;
    same = m.same;
    entries = m.entries;
    count = m.count;
    gone = m.gone;
    long = m.long;
    words = m.words;
    depth = m.depth;
    room = omega (arith, m.room);
  }
