-- What the code leaves of rows, pool and stack fits, and spells the paper's next state.
use mathlib.Core.Path.{◌≡◌, refl, sym, ◌∙◌, ap, subst}
use mathlib.Core.Bool.{true, false}
use mathlib.Core.List.{List, [], ◌∷◌, ◌++◌, map, append-nil, reverse, reverse-append, reverse-cons}
use Prim.Native.Nat.{ℕ, zero, suc, ◌+◌, ◌-◌, ◌<◌, ◌≤◌}
use native.Mathlib.Omega.{arith}
use lib.Dec.{eqb}
use lib.IntN.{ℤ}
use lib.ListN.{length, get_or, set, take, drop, length-set}
use lib.Seq.{length-take-le, get_or-take, split_at, append_snoc}
use borrow.Author.Tests.{eq-eqb}
use Rattle.rules.specs.Terms.{State, is_clause}
use Rattle.rules.specs.Frames.{Frame, PROMOTE, RESTORE, plain, next}
use Rattle.table.specs.Facts.{All, none, total}
use Rattle.table.specs.Spelled.{Row, row_at, id_of, place_of, start_of, length_of, witness_of, size, part, clause_part, witness_part, held, stands, held_rows}
use Rattle.table.specs.Spelled.{from_top, Inside, Lawful, Listed, Core, gone_one, Fit, InPlace, in_place, renumbered}
use Rattle.table_write.specs.Moved.{Moved, New, comes_by, cut_row, goes_by, lessened}
use Rattle.table_slices.specs.Writes.{written, closed}
use Rattle.table.specs.declared.Table.{Table}
use Rattle.table.proofs.Facts.{all_here, all_more, all_map, all_unmap, total_join, total_cut}
use Rattle.table_slices.proofs.Slices.{take_next, take_swap, take_closed, length_closed, written_before, written_part, length_written}
use Rattle.table.proofs.Entries.{entry_of, spell, clauses_spell, spell_unseen}
use Rattle.table.proofs.Stacked.{listed_leave}
use Rattle.table.proofs.Refits.{state_of, spelled_is, refit}
use Rattle.table_write.proofs.Changes.{added, learnt, forgotten, dropped, promoted, restored}
use Rattle.table.proofs.Rows.{lawful_clause, clause_length, clause_short, entries_split, earlier, later, others_clear, own, listed_here, plain_row, listed_cut}
use Rattle.table.proofs.Rows.{core_cut, clear_tail, clear_less, Comes, entries_put, core_put}
use Rattle.table.proofs.Readers.{row_inside, gone_most}

-- the table with a clause of n words more
abbrev pub appended : Table → ℕ → ℕ → Table
appended t id n = renumbered t id (t.count + 1) t.gone (t.words + n) t.depth (t.top + n)

module _ {t : Table} {rows : List Row} {pool : List ℤ} {stack : List ℕ} (f : Fit t rows pool stack) where
  pub moved_by : {t' : Table} {rows' : List Row} {pool' : List ℤ} {stack' : List ℕ} {g : Frame} → Fit t' rows' pool' stack' → t'.entries ≡ t.entries →
      length pool' ≡ length pool →
      state_of t'.vars t'.highest t.entries (length pool) (map (in_place pool') (held_rows t' rows')) (from_top t' stack')
      ≡ next (state_of t.vars t.highest t.entries (length pool) (map (in_place pool) (held_rows t rows)) (from_top t stack)) g →
      Moved t rows pool stack t' rows' pool' stack' g
  moved_by {t'} {rows'} {pool'} {stack'} {g} k a b e =
      record { fit = k; state = spelled_is t' rows' pool' stack' ∙ rw (a, b) e ∙ ap (λ s. next s g) (sym (spelled_is t rows pool stack)) }

  abbrev hr : List Row
  hr = held_rows t rows

  -- the state with other entries and ids
  abbrev spells : List InPlace → List ℕ → State
  spells es ids = state_of t.vars t.highest t.entries (length pool) es ids

  -- ---- ADD and LEARN: the literals at the tail, a row behind the last

  module _ (id : ℕ) (lits : List ℤ) (room : t.count < length rows) (spare : t.count < t.entries + t.gone) (fits : t.top + length lits ≤ length pool)
      (new : New t id) (ok : is_clause t.vars lits ≡ true) where
    abbrev new_row : ℕ → Row
    new_row p = id ∷ p ∷ t.top ∷ length lits ∷ 0 ∷ []

    abbrev pool' : List ℤ
    pool' = written pool t.top lits

    new_entry : (p : ℕ) → in_place pool' (new_row p) ≡ entry_of p id lits []
    new_entry p = let e = written_part pool t.top lits f.pool_fit in rw e

    below : All (λ r. id_of r < id) hr
    below = all_more (λ r h. omega arith) f.core.known

    comes : (p : ℕ) → Lawful t.vars p (plain id lits) → Comes t.vars t.highest t.top hr [] pool (new_row p) id (t.top + length lits) pool'
    comes p l =
        let n = append-nil hr in
        let e = new_entry p in
        record {
          behind = below;
          ahead_of = none;
          higher = omega arith;
          known = (omega arith, omega arith);
          grows = omega arith;
          inside = omega arith;
          clear = rw n (clear_tail (new_row p) f.core.inside);
          same = written_before pool t.top lits f.pool_fit;
          lawful = subst (λ x. Lawful t.vars x.where_is x.what) (sym e) l;
        }

    all_rows : Core t.vars t.highest t.top t.words (hr ++ []) pool (from_top t stack)
    all_rows = let n = append-nil hr in rw n f.core

    unstacked : (p : ℕ) → eqb p 2 ≡ false → Listed (spell 2 (map (in_place pool) hr ++ in_place pool' (new_row p) ∷ [])) (from_top t stack)
    unstacked p s =
        let u = spell_unseen 2 (in_place pool' (new_row p)) s (map (in_place pool) hr) [] in
        let n = append-nil (map (in_place pool) hr) in
        let e = clauses_spell 2 pool hr in
        rw (u, n, ← e) f.core.listed

    module _ (p : ℕ) (l : Lawful t.vars p (plain id lits)) (s : eqb p 2 ≡ false) (n : eqb p 3 ≡ false) where
      abbrev rows' : List Row
      rows' = set rows t.count (new_row p)

      held_one : gone_one (new_row p) ≡ 0
      held_one = rw n

      append_fit : Fit (appended t id (length lits)) rows' pool' stack
      append_fit =
          let e = take_next rows t.count (new_row p) room in
          refit f refl refl new.1 (length-set rows t.count (new_row p)) (length_written pool t.top lits f.pool_fit fits) refl (omega arith)
          (omega arith) fits f.stack_fit
          (omega (arith, f.gone_fit, ap (total gone_one) e, total_join gone_one hr (new_row p ∷ []), held_one))
          (rw e (core_put hr [] all_rows (comes p l) (t.words + length lits) _ (omega arith) (unstacked p s)))

      append_moves : {g : Frame} → state_of t.vars id t.entries (length pool) (map (in_place pool) hr ++ entry_of p id lits [] ∷ []) (from_top t stack)
          ≡ next (spells (map (in_place pool) hr ++ []) (from_top t stack)) g →
          Moved t rows pool stack (appended t id (length lits)) rows' pool' stack g
      append_moves e =
          let h = take_next rows t.count (new_row p) room in
          let x = entries_put hr [] all_rows (comes p l) in
          let y = new_entry p in
          let n = append-nil (map (in_place pool) hr) in
          moved_by append_fit refl (length_written pool t.top lits f.pool_fit fits) (rw (h, x, y) (rw n at e))

    pub arrives : (p : ℕ) → p ≤ 1 → (hints : List ℤ) →
        Moved t rows pool stack (appended t id (length lits)) (set rows t.count (new_row p)) pool' stack (comes_by p id lits hints)
    unfolding Lawful
    arrives zero q hints =
        let a = added t.vars t.highest t.entries (length pool) (map (in_place pool) hr) [] (from_top t stack) id lits in
        append_moves 0 (ok, refl) refl refl (a (all_map (in_place pool) hr below) none)
    arrives (suc zero) q hints =
        let a = learnt t.vars t.highest t.entries (length pool) (map (in_place pool) hr) [] (from_top t stack) id lits in
        append_moves 1 (ok, refl) refl refl (a (all_map (in_place pool) hr below) none hints)
    arrives (suc (suc p)) q hints = absurd (omega arith)

  -- ---- the row at `at`, and those before and behind it

  module _ (at : ℕ) (h : at < t.count) where
    abbrev r : Row
    r = row_at rows at

    abbrev us : List Row
    us = take at hr

    abbrev bs : List Row
    bs = drop (suc at) hr

    pub split : hr ≡ us ++ r ∷ bs
    split =
        let n = length-take-le t.count rows f.rows_fit in
        let e = get_or-take t.count rows at [] h in
        split_at hr at [] (omega arith) ∙ rw e

    pub core_at : Core t.vars t.highest t.top t.words (us ++ r ∷ bs) pool (from_top t stack)
    core_at = let e = split in rw e at f.core

    -- a row's words are among those held
    pub size_within : size r ≤ t.words
    size_within = omega (arith, core_at.counted, total_cut size us r bs)

    pub ends : Inside t.top r
    ends = all_here us r bs core_at.inside

    abbrev es : List InPlace
    es = map (in_place pool) us

    abbrev fs : List InPlace
    fs = map (in_place pool) bs

    pub entries_at : map (in_place pool) hr ≡ es ++ in_place pool r ∷ fs
    entries_at = ap (map (in_place pool)) split ∙ entries_split us r bs core_at

    -- how many rows are gone when the row is another one
    pub gone_swap : (r' : Row) → total gone_one (take t.count (set rows at r')) + gone_one r ≡ t.gone + gone_one r'
    gone_swap r' =
        omega (
          arith,
          f.gone_fit,
          ap (total gone_one) split,
          total_cut gone_one us r bs,
          ap (total gone_one) (take_swap rows at t.count r' h f.rows_fit),
          total_cut gone_one us r' bs,
        )

    -- ---- the row anew, in the place p, with the first n of its literals and no witness: what all but ADD and LEARN do to it

    module _ (p n : ℕ) (shorter : n ≤ length_of r) (ok : Lawful t.vars p (plain (id_of r) (part pool (start_of r) n))) (unstacked : eqb p 2 ≡ false)
        (ids : List ℕ) (l : Listed (spell 2 (es ++ fs)) ids) where
      abbrev row_anew : Row
      row_anew = cut_row r p n

      others : Core t.vars t.highest t.top (t.words - size r) (us ++ bs) pool ids
      others = core_cut us r bs core_at (t.words - size r) ids (omega (arith, size_within)) l

      settles : Comes t.vars t.highest t.top us bs pool row_anew t.highest t.top pool
      settles = record {
        behind = all_unmap (in_place pool) us (earlier us r bs core_at);
        ahead_of = all_unmap (in_place pool) bs (later us r bs core_at);
        higher = omega arith;
        known = all_here us r bs core_at.known;
        grows = omega arith;
        inside = omega (arith, ends);
        clear = clear_less r row_anew refl (omega arith) (others_clear us r bs core_at);
        same = refl;
        lawful = ok;
      }

      pub settle_core : (words' : ℕ) → words' + size r ≡ t.words + n →
          Core t.vars t.highest t.top words' (take t.count (set rows at row_anew)) pool ids
      settle_core words' e =
          let h' = take_swap rows at t.count row_anew h f.rows_fit in
          let u = spell_unseen 2 (in_place pool row_anew) unstacked es fs in
          rw h' (core_put us bs others settles words' ids (omega (arith, size_within)) (rw u l))

      pub settle_entries : map (in_place pool) (take t.count (set rows at row_anew)) ≡ es ++ entry_of p (id_of r) (part pool (start_of r) n) [] ∷ fs
      settle_entries = ap (map (in_place pool)) (take_swap rows at t.count row_anew h f.rows_fit) ∙ entries_put us bs others settles

      -- and the ids that are left, in the stack s; g rows are gone then
      module _ (g d : ℕ) (s : List ℕ) (gone : g + gone_one r ≡ t.gone + gone_one row_anew) (spare : t.count ≤ t.entries + g)
          (long : length s ≡ length stack) (deep : d ≤ length stack) (left : reverse (take d s) ≡ ids) where
        abbrev settled : Table
        settled = renumbered t t.highest t.count g (t.words - (length_of r - n + witness_of r)) d t.top

        pub settle_fit : Fit settled (set rows at row_anew) pool s
        settle_fit =
            let e = left in
            refit f refl refl f.highest_fit (length-set rows at row_anew) refl long f.rows_fit spare f.pool_fit deep
            (omega (arith, gone_swap row_anew, gone)) (rw e (settle_core _ (omega (arith, size_within))))

        pub settle_moves : {g : Frame} →
            spells (es ++ entry_of p (id_of r) (part pool (start_of r) n) [] ∷ fs) ids ≡ next (spells (es ++ in_place pool r ∷ fs) (from_top t stack)) g →
            Moved t rows pool stack settled (set rows at row_anew) pool s g
        settle_moves q =
            let e = left in
            let x = settle_entries in
            let y = entries_at in
            moved_by settle_fit refl refl (rw (e, x, y) q)

    -- ---- FORGET and DROP: the clause goes, the row stays

    abbrev removed : Table
    removed = renumbered t t.highest t.count (t.gone + 1) (t.words - (length_of r - 0 + witness_of r)) t.depth t.top

    -- no place has it
    gone_spells : (ids : List ℕ) → spells (es ++ entry_of 3 (id_of r) [] [] ∷ fs) ids ≡ spells (es ++ fs) ids
    gone_spells ids =
        let a = spell_unseen 0 (entry_of 3 (id_of r) [] []) refl es fs in
        let b = spell_unseen 1 (entry_of 3 (id_of r) [] []) refl es fs in
        let c = spell_unseen 2 (entry_of 3 (id_of r) [] []) refl es fs in
        rw (a, b, c)

    remove_moves : (p : ℕ) → p ≤ 1 → place_of r ≡ p → stands 2 r ≡ false → gone_one r ≡ 0 → {g : Frame} →
        spells (es ++ fs) (from_top t stack) ≡ next (spells (es ++ entry_of p (id_of r) (clause_part pool r) [] ∷ fs) (from_top t stack)) g →
        Moved t rows pool stack removed (set rows at (cut_row r 3 0)) pool stack g
    unfolding Lawful
    remove_moves p q e s held_one g =
        let y = plain_row us r bs core_at p q e in
        let z = gone_spells (from_top t stack) in
        settle_moves 3 0 (omega arith) (refl, refl) refl (from_top t stack) (listed_cut us r bs core_at s) (t.gone + 1) t.depth stack (omega arith)
        (omega (arith, f.held_fit)) refl f.stack_fit refl (rw (z, y) g)

    pub leaves : (p : ℕ) → p ≤ 1 → place_of r ≡ p → (hints : List ℤ) →
        Moved t rows pool stack removed (set rows at (cut_row r 3 0)) pool stack (goes_by p (id_of r) hints)
    leaves zero q e hints =
        let d = dropped t.vars t.highest t.entries (length pool) es fs (from_top t stack) (id_of r) (clause_part pool r) in
        remove_moves 0 q e (rw e) (rw e) (d (earlier us r bs core_at) (later us r bs core_at) hints)
    leaves (suc zero) q e hints =
        let d = forgotten t.vars t.highest t.entries (length pool) es fs (from_top t stack) (id_of r) (clause_part pool r) in
        remove_moves 1 q e (rw e) (rw e) (d (earlier us r bs core_at) (later us r bs core_at))
    leaves (suc (suc p)) q e hints = absurd (omega arith)

    pub own_clause : is_clause t.vars (clause_part pool r) ≡ true
    own_clause = lawful_clause t.vars (place_of r) (held pool r) (own us r bs core_at)

    -- with its own literals the clause may settle among the irredundant ones
    own_settled : Lawful t.vars 0 (plain (id_of r) (clause_part pool r))
    unfolding Lawful
    own_settled = (own_clause, refl)

    -- what the code asks of the row
    pub row_held : (at < length rows) × (size r ≤ t.words) × (t.gone ≤ 2048)
    row_held = (omega (arith, f.rows_fit), size_within, omega (arith, gone_most f, f.rows_fit, f.rows_lent))

    pub row_short : length_of r ≤ 256
    row_short = omega (arith, clause_length pool r (row_inside f at h), clause_short t.vars (clause_part pool r) own_clause)

    -- ---- PROMOTE

    pub promote_moves : place_of r ≡ 1 →
        Moved t rows pool stack (lessened t r (length_of r)) (set rows at (cut_row r 0 (length_of r))) pool stack (PROMOTE (id_of r))
    promote_moves e =
        let z = plain_row us r bs core_at 1 (omega arith) e in
        let held_one : gone_one r ≡ 0 = rw e in
        settle_moves 0 (length_of r) (omega arith) own_settled refl (from_top t stack) (listed_cut us r bs core_at (rw e)) t.gone t.depth stack
        (omega arith) f.held_fit refl f.stack_fit refl
        (rw z (promoted t.vars t.highest t.entries (length pool) es fs (from_top t stack) (id_of r) (clause_part pool r)
        (earlier us r bs core_at) (later us r bs core_at)))

    -- ---- RESTORE: and the id, at `from` in the stack's list, leaves it

    module _ (from : ℕ) (g : from < t.depth) (names : get_or stack from 0 ≡ id_of r) (e : place_of r ≡ 2) where
      abbrev xs : List ℕ
      xs = reverse (drop (suc from) (take t.depth stack))

      abbrev ys : List ℕ
      ys = reverse (take from (take t.depth stack))

      ids_are : from_top t stack ≡ xs ++ id_of r ∷ ys
      ids_are =
          let k = length-take-le t.depth stack f.stack_fit in
          let q = get_or-take t.depth stack from 0 g in
          ap reverse (split_at (take t.depth stack) from 0 (omega arith)) ∙ reverse-append (take from (take t.depth stack)) _
          ∙ ap (λ (l : List ℕ). l ++ ys) (reverse-cons _ (drop (suc from) (take t.depth stack))) ∙ append_snoc xs _ ys
          ∙ ap (λ (i : ℕ). xs ++ i ∷ ys) (q ∙ names)

      ids_left : reverse (take (t.depth - 1) (closed stack from (t.depth - 1))) ≡ xs ++ ys
      ids_left = ap reverse (take_closed stack from t.depth g f.stack_fit) ∙ reverse-append (take from (take t.depth stack)) _

      stacked : Listed (spell 2 (es ++ in_place pool r ∷ fs)) (xs ++ id_of r ∷ ys)
      stacked = let q = ids_are in rw q at (listed_here us r bs core_at)

      left : Listed (spell 2 (es ++ fs)) (xs ++ ys)
      left = listed_leave es fs (in_place pool r) (eq-eqb (place_of r) 2 e) (earlier us r bs core_at) (later us r bs core_at) xs ys stacked

      pub restore_moves :
          Moved t rows pool stack
          (renumbered t t.highest t.count t.gone (t.words - (length_of r - length_of r + witness_of r)) (t.depth - 1) t.top)
          (set rows at (cut_row r 0 (length_of r))) pool (closed stack from (t.depth - 1)) (RESTORE (id_of r))
      restore_moves =
          let d = f.stack_fit in
          let i = ids_are in
          let held_one : gone_one r ≡ 0 = rw e in
          settle_moves 0 (length_of r) (omega arith) own_settled refl (xs ++ ys) left t.gone (t.depth - 1) (closed stack from (t.depth - 1))
          (omega arith) f.held_fit (length_closed stack from (t.depth - 1) (omega arith) (omega arith)) (omega arith) ids_left
          (rw (i, e) (restored t.vars t.highest t.entries (length pool) es fs (from_top t stack) (id_of r) (clause_part pool r)
          (earlier us r bs core_at) (later us r bs core_at) (witness_part pool r) xs ys (rw e at stacked)))
