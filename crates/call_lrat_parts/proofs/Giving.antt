-- From a part on the rows taken in, and the rows put back, to what the call promises of what is lent.
use mathlib.Core.Path.{◌≡◌, refl, sym, ap, ◌∙◌}
use mathlib.Core.Bool.{Bool, true, false, not}
use mathlib.Core.List.{List, map}
use mathlib.Core.Option.{none, some}
use Prim.Native.Nat.{ℕ}
use native.Mathlib.Omega.{arith}
use lib.IntN.{ℤ}
use lib.ListN.{length, take}
use Rattle.rules.specs.Terms.{State}
use Rattle.rules.specs.Answers.{lent}
use Rattle.rules.proofs.Lists.{by_cases, and_left, and_right, and_both, true-false}
use Rattle.table_slices.specs.Writes.{over}
use Rattle.table.specs.Spelled.{Row}
use Rattle.lent.specs.State.{state_carried}
use Rattle.lent.specs.declared.Carried.{Carried}
use Rattle.lent.proofs.Sizes.{lent_most}
use Rattle.lent_entries.specs.Lent.{entry_of, row_of, taken, state_lent}
use Rattle.lent_entries.specs.declared.Entry.{Entry}
use Rattle.lent_entries.proofs.Lending.{taken_spells, put_unaltered, put_spells}
use Rattle.lrat.specs.Checking.{answer}
use Rattle.call_lrat_parts.specs.Parts.{is_reading, met, refused, GivenFrom, LratGiving}
use Rattle.call_lrat_parts.specs.Running.{give_sized, proof_left, RanFrom, RanOn, GiveRun}
use Rattle.call_lrat_parts.specs.declared.ProofReading.{ProofReading}
use Rattle.lent_entries.specs.declared.Ran.{Ran}
use Rattle.call_lrat_parts.specs.declared.LratGiven.{LratGiven}

module _ (entries : List Entry) (pool : List ℤ) (c : Carried) (r : ProofReading) (part : List ℕ) (last : Bool) (q : Ran LratGiven)
    (rows' : List Row) (entries' : List Entry) (pool' : List ℤ)
    (ran : GiveRun (length entries) (taken entries c.count) pool c r part last q rows' pool')
    (put : entries' ≡ over entries (map entry_of (take q.count rows'))) (put_rows : map row_of entries' ≡ over (map row_of entries) (take q.count rows'))
    (same_entries : length entries' ≡ length entries) (same_pool : length pool' ≡ length pool) where
  -- nothing was run: nothing goes back
  stays : (q ≡ proof_left (answer 1 0) c r) × (pool' ≡ pool) → (q.given ≡ refused (answer 1 0) c r) × (entries' ≡ entries) × (pool' ≡ pool)
  stays l = (
    ap (λ (x : Ran LratGiven). x.given) l.0,
    put ∙ ap (λ n. over entries (map entry_of (take n rows'))) (ap (λ (x : Ran LratGiven). x.count) l.0),
    l.1,
  )

  -- ---- in range

  module _ (t : give_sized (length entries) pool r ≡ true) where
    fits : lent (length entries) (length pool) ≡ true
    fits = and_left (lent (length entries) (length pool)) _ t

    reading_is : is_reading r ≡ true
    reading_is = and_right (lent (length entries) (length pool)) _ t

    -- the rows taken in spell what the part meets
    met_is : met entries pool c r ≡ state_carried c (take (length entries) (taken entries c.count)) pool
    met_is = let e = taken_spells c entries pool (lent_most (length entries) (length pool) fits).0 in rw (reading_is, fits) (sym e)

    run : RanOn (length entries) (taken entries c.count) pool c r part last q rows' pool'
    run = ran.judged_so t

    given_from : (s : State) → state_lent entries pool c ≡ some s → RanFrom s (length entries) pool c r part last q rows' pool' →
        GivenFrom s entries pool c r part last q.given entries' pool'
    given_from s before f =
        let is = f.reading_is in
        record {
          after = f.after;
          fed = f.fed;
          answered = f.answered;
          spells = rw is (put_spells entries entries' f.back put put_rows same_entries same_pool fits before);
          reads = f.reads;
          again = λ o. let l = put_unaltered entries entries' f.back put (ap not o) in (l.0, l.1, l.2, f.again o);
        }

    in_range : LratGiving entries pool c r part last q.given entries' pool'
    in_range = record {
      given = λ s e. given_from s (rw reading_is at e) (run.ran s (sym met_is ∙ e));
      left = λ e. stays (run.left (sym met_is ∙ e));
      sizes = (same_entries, same_pool);
    }

  -- ---- out of range

  module _ (f : give_sized (length entries) pool r ≡ false) where
    unmet : met entries pool c r ≡ none
    unmet = by_cases (is_reading r)
        (λ b. by_cases (lent (length entries) (length pool)) (λ l. true-false (and_both l b) f) (λ l. rw (b, l) refl))
        (λ b. rw b refl)

    out_of_range : LratGiving entries pool c r part last q.given entries' pool'
    out_of_range =
        let u = unmet in
        record {
          given = λ s d. let z : ◌≡◌ {A = ℕ} 0 1 = cc in absurd (omega arith);
          left = λ d. stays (ran.refused f);
          sizes = (same_entries, same_pool);
        }

  pub gives_lent : LratGiving entries pool c r part last q.given entries' pool'
  gives_lent = by_cases (give_sized (length entries) pool r) in_range out_of_range
