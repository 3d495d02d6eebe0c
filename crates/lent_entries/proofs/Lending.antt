-- What is lent, taken in as rows and put back: the rows taken in spell what is lent, and what goes back over the entries spells what the working table did.
-- Nothing here knows of frames.
use mathlib.Core.Path.{◌≡◌, sym, ap, ◌∙◌}
use mathlib.Core.Bool.{Bool, true, false}
use mathlib.Core.List.{List, map}
use mathlib.Core.Option.{Option, none, some}
use Prim.Native.Nat.{ℕ, ◌≤◌, min}
use native.Mathlib.Omega.{arith}
use lib.Dec.{leb}
use lib.IntN.{ℤ}
use lib.ListN.{length, take, length-map, length-take, length-replicate}
use lib.Seq.{length-take-le, take-append-le, take_all, take-take}
use borrow.Author.Tests.{leb-true, leb-false}
use Rattle.std.proofs.lemmas.List.{take-map}
use Rattle.rules.specs.Terms.{State}
use Rattle.rules.specs.Answers.{lent}
use Rattle.rules.proofs.Lists.{by_cases}
use Rattle.table_slices.specs.Writes.{over}
use Rattle.table_slices.proofs.Slices.{take_over, length_over}
use Rattle.table.specs.Spelled.{Row}
use Rattle.lent.specs.State.{state_carried}
use Rattle.lent.specs.Stored.{PutsBack}
use Rattle.lent.specs.declared.Carried.{Carried}
use Rattle.lent.proofs.Stored.{spelled_held}
use Rattle.lent_entries.specs.Lent.{entry_of, row_of, vacant_row, vacant_rows, taken, state_lent}
use Rattle.lent_entries.specs.declared.Entry.{Entry}

-- ---- the state that is lent

-- it is spelled by the entries as rows
pub lent_spelled : (entries : List Entry) (pool : List ℤ) (c : Carried) {s : State} → state_lent entries pool c ≡ some s →
    (lent (length (map row_of entries)) (length pool) ≡ true) × (state_carried c (map row_of entries) pool ≡ some s)
lent_spelled entries pool c {s} e =
    let n : length (map row_of entries) ≡ length entries = length-map entries row_of in
    by_cases (lent (length entries) (length pool))
    (λ t. (rw n t, rw t at e))
    (λ f. let q : ◌≡◌ {A = Option State} none (some s) = rw f at e in let z : ◌≡◌ {A = ℕ} 0 1 = cc in absurd (omega arith))

-- ---- taken in

module _ (entries : List Entry) (count : ℕ) (few : length entries ≤ 1024) where
  abbrev own : List Row
  own = map row_of entries

  abbrev front : List Row
  front = map row_of (take (min 1024 count) entries)

  pub length_taken : length (taken entries count) ≡ 1280
  length_taken =
      let n : length front ≡ length (take (min 1024 count) entries) = length-map (take (min 1024 count) entries) row_of in
      length_over vacant_rows front (omega (arith, n, length-take (min 1024 count) entries, length-replicate 1280 vacant_row))
      ∙ length-replicate 1280 vacant_row

  -- where more are said to be held than there are, all were taken in
  taken_all : length entries ≤ count → take (length entries) (taken entries count) ≡ own
  taken_all h =
      let all : take (min 1024 count) entries ≡ entries = take_all (min 1024 count) entries (omega arith) in
      let n : length own ≡ length entries = length-map entries row_of in
      rw all (take-append-le (length entries) own _ (omega arith) ∙ take_all (length entries) own (omega arith))

  -- else those held
  taken_held : count ≤ length entries → take count (take (length entries) (taken entries count)) ≡ take count own
  taken_held h =
      let e : min 1024 count ≡ count = omega arith in
      let n : length (map row_of (take count entries)) ≡ count = length-map (take count entries) row_of ∙ length-take-le count entries h in
      take-take count (length entries) (taken entries count) h
      ∙ rw e (take-append-le count (map row_of (take count entries)) _ (omega arith) ∙ take_all count (map row_of (take count entries)) (omega arith)
      ∙ sym (take-map row_of count entries))

-- the rows taken in spell what is lent
pub taken_spells : (c : Carried) (entries : List Entry) (pool : List ℤ) → length entries ≤ 1024 →
    state_carried c (take (length entries) (taken entries c.count)) pool ≡ state_carried c (map row_of entries) pool
taken_spells c entries pool few =
    let k = c.count in
    let n : length (take (length entries) (taken entries k)) ≡ length entries =
    length-take-le (length entries) (taken entries k) (omega (arith, length_taken entries k few)) in
    by_cases (leb k (length entries))
    (λ h. spelled_held c _ (map row_of entries) pool (taken_held entries k few (leb-true k (length entries) h)) (n ∙ sym (length-map entries row_of)))
    (λ h. ap (λ x. state_carried c x pool) (taken_all entries k few (omega (arith, leb-false k (length entries) h))))

-- ---- put back

module _ {altered : Bool} (entries : List Entry) {pool : List ℤ} {c : Carried} {s : State} {k : ℕ} {c' : Carried} {rows' : List Row} {pool' : List ℤ}
    {s' : State} (entries' : List Entry)
    (back : PutsBack altered (length entries) c pool s k c' rows' pool' s') (put : entries' ≡ over entries (map entry_of (take k rows'))) where
  -- where nothing was altered, every entry, every word of the pool and what is carried are what they were
  pub put_unaltered : altered ≡ false → (entries' ≡ entries) × (pool' ≡ pool) × (c' ≡ c)
  put_unaltered u = let l = back.leaves u in (put ∙ ap (λ n. over entries (map entry_of (take n rows'))) l.0, l.1, l.2)

  -- what is then lent and carried spells what the working table did
  pub put_spells : map row_of entries' ≡ over (map row_of entries) (take k rows') → length entries' ≡ length entries → length pool' ≡ length pool →
      lent (length entries) (length pool) ≡ true → state_lent entries pool c ≡ some s → state_lent entries' pool' c' ≡ some s'
  put_spells put_rows same_entries same_pool sizes spelled-before = by_cases altered
      (λ a.
      let n : length (map row_of entries') ≡ length entries = length-map entries' row_of ∙ same_entries in
      let front : take k (map row_of entries') ≡ take k rows' = ap (take k) put_rows ∙ take_over (map row_of entries) rows' k back.bounded.1 in
      rw (same_entries, same_pool, sizes) (back.stores a (map row_of entries') n front))
      (λ u.
      let l = put_unaltered u in
      let x = l.0 in let y = l.1 in let z = l.2 in let e = (back.leaves u).3 in
      rw (x, y, z, e) spelled-before)
