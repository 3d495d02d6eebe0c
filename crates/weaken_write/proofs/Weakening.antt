-- WEAKEN where the pool may be full: the row gives up its words, room is made, and literals and witness are written at the tail.
use mathlib.Core.Path.{◌≡◌, refl, sym, ◌∙◌, ap, subst}
use mathlib.Core.Bool.{true}
use mathlib.Core.List.{List, [], ◌∷◌, ◌++◌, map, reverse, reverse-append}
use Prim.Native.Nat.{ℕ, suc, ◌+◌, ◌<◌, ◌≤◌}
use native.Mathlib.Omega.{arith}
use lib.IntN.{ℤ}
use lib.ListN.{length, set, take, drop, length-set, length-map}
use lib.Seq.{length-take-le}
use Rattle.rules.specs.Lists.{all_pass}
use Rattle.rules.specs.Terms.{is_clause, is_witness, distinct, State}
use Rattle.rules.specs.Frames.{WEAKEN, plain}
use Rattle.table.specs.Spelled.{Row, row_at, id_of, place_of, size, moved_row, clause_part, held_rows}
use Rattle.table.specs.Spelled.{from_top, Lawful, Listed, Core, gone_one, Fit, InPlace, in_place}
use Rattle.table_write.specs.Moved.{Moved, cut_row, lessened}
use Rattle.weaken_write.specs.Records.{grown}
use Rattle.table_slices.specs.Writes.{written}
use Rattle.table_room.specs.Room.{Roomy}
use Rattle.table.specs.declared.Table.{Table}
use Rattle.table.proofs.Facts.{all_here, all_cut, all_unmap}
use Rattle.table_slices.proofs.Slices.{part_same, split_same, take_next, take_swap, written_before, written_part, length_written}
use Rattle.table.proofs.Entries.{entry_of, spell}
use Rattle.table.proofs.Stacked.{listed_push}
use Rattle.table.proofs.Refits.{refit}
use Rattle.table_write.proofs.Changes.{weakened}
use Rattle.table.proofs.Rows.{clause_length, witness_length, earlier, later, plain_row, listed_cut, core_cut, clear_tail, Comes, entries_put, core_put}
use Rattle.table_room.proofs.Packing.{roomy_lengths}
use Rattle.table.proofs.Readers.{count_rows, row_same, row_inside, depth_below}
use Rattle.table_write.proofs.Moves.{moved_by, core_at, size_within, ends, entries_at, gone_swap, own_clause, settle_fit, settle_entries}

-- ---- the second half: a record at the tail, in place of a row that holds nothing

module _ {t : Table} {rows : List Row} {pool : List ℤ} {stack : List ℕ} (f : Fit t rows pool stack) (at : ℕ) (h : at < t.count) (lits wit : List ℤ) where
  abbrev r : Row
  r = row_at rows at

  abbrev us : List Row
  us = take at (held_rows t rows)

  abbrev bs : List Row
  bs = drop (suc at) (held_rows t rows)

  abbrev es : List InPlace
  es = map (in_place pool) us

  abbrev fs : List InPlace
  fs = map (in_place pool) bs

  abbrev pool₁ : List ℤ
  pool₁ = written pool t.top lits

  abbrev pool₂ : List ℤ
  pool₂ = written pool₁ (t.top + length lits) wit

  abbrev record_row : Row
  record_row = moved_row r 2 t.top (length lits) (length wit)

  module _ (p : place_of r ≡ 0) (blank : size r ≡ 0) (fits : t.top + (length lits + length wit) ≤ length pool) (deep : t.depth < length stack)
      (clause : is_clause t.vars lits ≡ true) (witness : is_witness t.vars lits wit ≡ true) where
    k : Core t.vars t.highest t.top t.words (us ++ r ∷ bs) pool (from_top t stack)
    k = core_at f at h

    len₁ : length pool₁ ≡ length pool
    len₁ = length_written pool t.top lits f.pool_fit (omega arith)

    len₂ : length pool₂ ≡ length pool
    len₂ = length_written pool₁ (t.top + length lits) wit (omega (arith, len₁)) (omega (arith, len₁)) ∙ len₁

    keeps : take (t.top + length lits) pool₂ ≡ take (t.top + length lits) pool₁
    keeps = written_before pool₁ (t.top + length lits) wit (omega (arith, len₁))

    record_entry : in_place pool₂ record_row ≡ entry_of 2 (id_of r) lits wit
    record_entry =
        let c = part_same pool₁ pool₂ (t.top + length lits) t.top (length lits) keeps (omega arith) ∙ written_part pool t.top lits f.pool_fit in
        let d = written_part pool₁ (t.top + length lits) wit (omega (arith, len₁)) in
        rw (c, d)

    others : Core t.vars t.highest t.top t.words (us ++ bs) pool (from_top t stack)
    others = core_cut us r bs k t.words (from_top t stack) (omega arith) (listed_cut us r bs k (rw p))

    comes : Comes t.vars t.highest t.top us bs pool record_row t.highest (t.top + (length lits + length wit)) pool₂
    unfolding Lawful
    comes =
        let l : Lawful t.vars 2 (entry_of 2 (id_of r) lits wit).what = (clause, witness) in
        record {
          behind = all_unmap (in_place pool) us (earlier us r bs k);
          ahead_of = all_unmap (in_place pool) bs (later us r bs k);
          higher = omega arith;
          known = all_here us r bs k.known;
          grows = omega arith;
          inside = omega arith;
          clear = clear_tail record_row (all_cut us r bs k.inside);
          same = part_same pool₁ pool₂ (t.top + length lits) 0 t.top keeps (omega arith) ∙ written_before pool t.top lits f.pool_fit;
          lawful = subst (λ x. Lawful t.vars x.where_is x.what) (sym record_entry) l;
        }

    on_top : reverse (take (t.depth + 1) (set stack t.depth (id_of r))) ≡ id_of r ∷ from_top t stack
    on_top = ap reverse (take_next stack t.depth (id_of r) deep) ∙ reverse-append (take t.depth stack) (id_of r ∷ [])

    listed : Listed (spell 2 (es ++ in_place pool₂ record_row ∷ fs)) (id_of r ∷ from_top t stack)
    listed = listed_push es fs (in_place pool₂ record_row) refl (earlier us r bs k) (later us r bs k) (from_top t stack) (listed_cut us r bs k (rw p))

    record_fit : Fit (grown t (length lits + length wit)) (set rows at record_row) pool₂ (set stack t.depth (id_of r))
    record_fit =
        let e = take_swap rows at t.count record_row h f.rows_fit in
        let o = on_top in
        let held_one : gone_one r ≡ 0 = rw p in
        refit f refl refl f.highest_fit (length-set rows at record_row) len₂ (length-set stack t.depth (id_of r)) f.rows_fit f.held_fit fits
        (omega arith) (omega (arith, gone_swap f at h record_row, held_one))
        (rw (e, o) (core_put us bs others comes (t.words + (length lits + length wit)) (id_of r ∷ from_top t stack) refl listed))

    record_entries : map (in_place pool₂) (take t.count (set rows at record_row)) ≡ es ++ entry_of 2 (id_of r) lits wit ∷ fs
    record_entries =
        let e = record_entry in
        ap (map (in_place pool₂)) (take_swap rows at t.count record_row h f.rows_fit) ∙ entries_put us bs others comes ∙ rw e

-- ---- the first half: the row is blanked

module _ {t : Table} {rows : List Row} {pool : List ℤ} {stack : List ℕ} (f : Fit t rows pool stack) (at : ℕ) (h : at < t.count)
    (p : place_of (row_at rows at) ≡ 0) where
  abbrev r₁ : Row
  r₁ = row_at rows at

  abbrev us₁ : List Row
  us₁ = take at (held_rows t rows)

  abbrev bs₁ : List Row
  bs₁ = drop (suc at) (held_rows t rows)

  abbrev es₁ : List InPlace
  es₁ = map (in_place pool) us₁

  abbrev fs₁ : List InPlace
  fs₁ = map (in_place pool) bs₁

  abbrev lits₁ : List ℤ
  lits₁ = clause_part pool r₁

  k₁ : Core t.vars t.highest t.top t.words (us₁ ++ r₁ ∷ bs₁) pool (from_top t stack)
  k₁ = core_at f at h

  unlisted : Listed (spell 2 (es₁ ++ fs₁)) (from_top t stack)
  unlisted = listed_cut us₁ r₁ bs₁ k₁ (rw p)

  empty_clause : Lawful t.vars 0 (plain (id_of r₁) [])
  unfolding Lawful is_clause all_pass distinct
  empty_clause = (refl, refl)

  pub blank_fit : Fit (lessened t r₁ 0) (set rows at (cut_row r₁ 0 0)) pool stack
  blank_fit =
      let held_one : gone_one r₁ ≡ 0 = rw p in
      settle_fit f at h 0 0 (omega arith) empty_clause refl (from_top t stack) unlisted t.gone t.depth stack (omega arith) f.held_fit refl
      f.stack_fit refl

  blank_entries : map (in_place pool) (take t.count (set rows at (cut_row r₁ 0 0))) ≡ es₁ ++ entry_of 0 (id_of r₁) [] [] ∷ fs₁
  blank_entries = settle_entries f at h 0 0 (omega arith) empty_clause refl (from_top t stack) unlisted

  entries_were : map (in_place pool) (held_rows t rows) ≡ es₁ ++ entry_of 0 (id_of r₁) lits₁ [] ∷ fs₁
  entries_were = let e = plain_row us₁ r₁ bs₁ k₁ 0 (omega arith) p in entries_at f at h ∙ rw e

  stack_low : t.depth + t.gone < t.count
  stack_low = let n = count_rows f in let e = row_same f at h in depth_below f at (omega arith) (rw e p)

  -- ---- room is made, and the record written

  module _ {t₂ : Table} {rows₂ : List Row} {pool₂ : List ℤ} {n : ℕ} (m : Roomy (lessened t r₁ 0) (set rows at (cut_row r₁ 0 0)) pool stack t₂ rows₂ pool₂ n)
      (wit : List ℤ)
      (room : length lits₁ + length wit ≤ n) (witness : is_witness t.vars lits₁ wit ≡ true) where
    abbrev r₂ : Row
    r₂ = row_at rows₂ at

    h₂ : at < t₂.count
    h₂ = omega (arith, m.count)

    long : {u : Table} {rs : List Row} {q : List ℤ} → Fit u rs q stack → at < u.count → length (map (in_place q) (take at (held_rows u rs))) ≡ at
    long {u} {rs} {q} g b =
        let a = g.rows_fit in
        let c = length-take-le u.count rs a in
        length-map (take at (held_rows u rs)) (in_place q) ∙ length-take-le at (held_rows u rs) (omega arith)

    -- the other entries are as they were, and the blanked one is blank
    same_split : (map (in_place pool₂) (take at (held_rows t₂ rows₂)) ≡ es₁) × (in_place pool₂ r₂ ≡ entry_of 0 (id_of r₁) [] [])
        × (map (in_place pool₂) (drop (suc at) (held_rows t₂ rows₂)) ≡ fs₁)
    same_split = split_same _ es₁ (in_place pool₂ r₂) _ _ fs₁ (sym (entries_at m.fit at h₂) ∙ m.entries ∙ blank_entries) (long m.fit h₂ ∙ sym (long f h))

    same_id : id_of r₂ ≡ id_of r₁
    same_id = ap (λ (e : InPlace). e.what.id) same_split.1

    holds_nothing : size r₂ ≡ 0
    holds_nothing =
        let i = ends m.fit at h₂ in
        let q = m.fit.pool_fit in
        omega (
          arith,
          clause_length pool₂ r₂ (omega arith),
          witness_length pool₂ r₂ (omega arith),
          ap (λ (e : InPlace). length e.what.lits) same_split.1,
          ap (λ (e : InPlace). length e.what.witness) same_split.1,
        )

    clause : is_clause t.vars lits₁ ≡ true
    clause = own_clause f at h

    same_vars : t₂.vars ≡ t.vars
    same_vars = ap (λ (s : State). s.vars) m.same

    place_zero : place_of r₂ ≡ 0
    place_zero = ap (λ (e : InPlace). e.where_is) same_split.1

    fits : t₂.top + (length lits₁ + length wit) ≤ length pool₂
    fits = omega (arith, m.room)

    deep₂ : t₂.depth < length stack
    deep₂ = omega (arith, m.depth, stack_low, f.held_fit, f.stack_lent)

    -- what the code asks
    pub record_numbers : t.words + length wit ≤ length pool →
        (at < length rows₂) × (t₂.top + (length lits₁ + length wit) ≤ length pool₂) × (t₂.words + (length lits₁ + length wit) ≤ length pool₂)
        × (length pool₂ ≤ 8192) × (t₂.depth < length stack) × (t₂.depth < 1024)
    record_numbers free =
        let l = roomy_lengths m in (
          omega (arith, h₂, m.fit.rows_fit),
          fits,
          omega (arith, m.words, clause_length pool r₁ (row_inside f at h), size_within f at h),
          m.fit.pool_lent,
          deep₂,
          omega (arith, m.depth, stack_low, f.held_fit, f.entries_lent),
        )

    pub weaken_moves : (groups : List ℤ) → Moved t rows pool stack (grown t₂ (length lits₁ + length wit))
        (set rows₂ at (moved_row r₂ 2 t₂.top (length lits₁) (length wit)))
        (written (written pool₂ t₂.top lits₁) (t₂.top + length lits₁) wit) (set stack t₂.depth (id_of r₂)) (WEAKEN (id_of r₁) wit groups)
    weaken_moves groups =
        let v = same_vars in
        let c = rw (← v) at clause in
        let w = rw (← v) at witness in
        let x = record_entries m.fit at h₂ lits₁ wit place_zero holds_nothing fits deep₂ c w in
        let y = entries_were in
        let a = same_split.0 in
        let b = same_split.2 in
        let i = same_id in
        let hi = ap (λ (s : State). s.highest) m.same in
        let o₂ = on_top m.fit at h₂ lits₁ wit place_zero holds_nothing fits deep₂ c w in
        let o = rw i at o₂ in
        let d = ap (λ (n : ℕ). reverse (take n stack)) m.depth in
        moved_by f (record_fit m.fit at h₂ lits₁ wit place_zero holds_nothing fits deep₂ c w)
        (ap (λ (s : State). s.entries) m.same)
        (len₂ m.fit at h₂ lits₁ wit place_zero holds_nothing fits deep₂ c w ∙ ap (λ (s : State). s.words) m.same)
        (rw (x, y, a, b, i, o, d, v, hi) (weakened t.vars t.highest t.entries (length pool) es₁ fs₁ (from_top t stack) (id_of r₁) lits₁
        (earlier us₁ r₁ bs₁ k₁) (later us₁ r₁ bs₁ k₁) wit groups unlisted))
