-- From what loading and attending promise to what serving does to the rows taken in; and from the rows put back to the lent table.
use mathlib.Core.Path.{◌≡◌, sym, ap, subst, ◌∙◌}
use mathlib.Core.Bool.{true, false}
use mathlib.Core.List.{List, map}
use mathlib.Core.Option.{some, some-injective, none-ne-some}
use Prim.Native.Nat.{ℕ, ◌≤◌}
use native.Mathlib.Omega.{arith}
use lib.IntN.{ℤ}
use lib.ListN.{length, take}
use Rattle.rules.specs.Terms.{State}
use Rattle.rules.specs.Answers.{lent, opened}
use Rattle.rules.proofs.Lists.{by_cases}
use Rattle.table_slices.specs.Writes.{over}
use Rattle.table.specs.Spelled as working
use Rattle.table.specs.Spelled.{Row}
use Rattle.table.specs.declared.Table.{Table}
use Rattle.lent.specs.State.{is_state, state_of, state_carried}
use Rattle.lent.specs.Stored.{carried_of, PutsBack}
use Rattle.lent.specs.declared.Carried.{Carried}
use Rattle.lent.proofs.Sizes.{lent_most}
use Rattle.lent.proofs.Stored.{stored_back, nothing_back}
use Rattle.lent_entries.specs.Lent.{entry_of, row_of, taken, state_lent}
use Rattle.lent_entries.specs.declared.Entry.{Entry}
use Rattle.lent_entries.proofs.Lending.{taken_spells, put_unaltered, put_spells}
use Rattle.lent_load.specs.Loads.{Loads}
use Rattle.std.specs.Prelude.{Some}
use Rattle.table_room.specs.Room.{Squeezed}
use Rattle.line_read.specs.Machine.{fresh}
use Rattle.line_read.specs.Parts.{closes, state_after, some_alters}
use Rattle.line_read.proofs.Parts.{after_entries}
use Rattle.call_serve.specs.Serving.{Attending, ServedRows, Serving}
use Rattle.call_serve.specs.declared.Attended.{Attended}
use Rattle.lent_entries.specs.declared.Ran.{Ran}

module _ (n : ℕ) (rows : List Row) (pool : List ℤ) (c : Carried) where
  abbrev own : List Row
  own = take n rows

  -- no state: nothing is served
  pub unserved : is_state c own pool ≡ false → {rows' : List Row} → ServedRows n rows pool c (record { given = c; count = 0 }) rows' pool
  unserved f = record {
    bounded = (omega arith, omega arith);
    served = λ s d. absurd (none-ne-some s (rw f at d));
  }

  -- a state, loaded and attended
  module _ {t : Table} {rows₁ : List Row} (loaded : Loads c own pool (Some t) rows₁)
      {q : Attended} {rows₂ : List Row} {pool₂ : List ℤ} {stack₂ : List ℕ}
      (attended : (bs : List ℕ) × Attending bs t rows₁ pool c.stack q rows₂ pool₂ stack₂) where
    abbrev before : State
    before = working.spelled t rows₁ pool c.stack

    abbrev bytes : List ℕ
    bytes = attended.0

    served : (k : ℕ) (c' : Carried) (rows' : List Row) →
        PutsBack (some_alters before (closes fresh bytes)) n c pool before k c' rows' pool₂ (working.spelled q.table rows₂ pool₂ stack₂)
        → ServedRows n rows pool c (record { given = c'; count = k }) rows' pool₂
    served k c' rows' back = let is = loaded.0 in record {
      bounded = back.bounded;
      served =
          λ s d. (
            bytes,
            subst (λ x. PutsBack (some_alters x (closes fresh bytes)) n c pool x k c' rows' pool₂ (state_after x (closes fresh bytes)))
                (loaded.2 ∙ some-injective _ s (rw is at d)) (rw attended.1.state at back),
          );
    }

    pub served_kept : q.altered ≡ false → ServedRows n rows pool c (record { given = c; count = 0 }) rows₂ pool₂
    served_kept e =
        let alters = attended.1.altered in
        let l = alters.left e in
        let a = l.table in let b = l.same_rows in let p = l.same_pool in let k = l.same_stack in
        served 0 c rows₂ (nothing_back (sym alters.told_so ∙ e) p (rw (a, b, p, k)))

    pub served_stored : q.altered ≡ true → length own ≡ n → {u : Table} {rows₃ : List Row} → Squeezed q.table rows₂ pool₂ stack₂ u rows₃ →
        ServedRows n rows pool c (record { given = carried_of u stack₂; count = u.count }) rows₃ pool₂
    unfolding state_of
    served_stored e l {u} {rows₃} z =
        let sized = ap (λ (x : State). x.entries) attended.1.state ∙ after_entries (closes fresh bytes) before ∙ ap (λ (x : State). x.entries) loaded.2
        ∙ l in
        served u.count _ rows₃ (stored_back z.fit z.none_gone (sym attended.1.altered.told_so ∙ e)
        (ap (λ (x : State). x.entries) z.same ∙ sized) z.same)

-- ---- the rows put back

module _ (entries : List Entry) (pool : List ℤ) (c : Carried) (opens : state_lent entries pool c ≡ some (opened 2048 1024 8192)) where
  -- what spells a state has sizes in range
  fits : lent (length entries) (length pool) ≡ true
  fits =
      by_cases (lent (length entries) (length pool)) (λ t. t)
      (λ f. absurd (none-ne-some _ (rw f at opens)))

  pub opened_most : (length entries ≤ 1024) × (length pool ≤ 8192)
  opened_most = lent_most (length entries) (length pool) fits

  taken_opened : state_carried c (take (length entries) (taken entries c.count)) pool ≡ some (opened 2048 1024 8192)
  taken_opened = taken_spells c entries pool opened_most.0 ∙ rw fits at opens

  module _ (q : Ran Carried) (rows' : List Row) (entries' : List Entry) (pool' : List ℤ)
      (ran : ServedRows (length entries) (taken entries c.count) pool c q rows' pool')
      (put : entries' ≡ over entries (map entry_of (take q.count rows')))
      (put_rows : map row_of entries' ≡ over (map row_of entries) (take q.count rows'))
      (same_entries : length entries' ≡ length entries) (same_pool : length pool' ≡ length pool) where
    pub serves_lent : Serving entries pool c q.given entries' pool'
    serves_lent =
        let s = ran.served (opened 2048 1024 8192) taken_opened in
        record {
          bytes = s.0;
          spells = put_spells entries entries' s.1 put put_rows same_entries same_pool fits opens;
          unaltered = put_unaltered entries entries' s.1 put;
        }
