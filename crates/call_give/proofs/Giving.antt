-- From a part on the rows taken in, and the rows put back, to what the call promises of what is lent.
use mathlib.Core.Path.{◌≡◌, sym, ap, ◌∙◌}
use mathlib.Core.Bool.{true, false, ◌&&◌}
use mathlib.Core.List.{List, map}
use mathlib.Core.Option.{none, some}
use Prim.Native.Nat.{ℕ}
use native.Mathlib.Omega.{arith}
use lib.Dec.{leb}
use lib.IntN.{ℤ}
use lib.ListN.{length, take}
use borrow.Author.Tests.{le-leb}
use Rattle.rules.specs.Terms.{State}
use Rattle.rules.specs.Answers.{lent}
use Rattle.rules.proofs.Lists.{by_cases, and_left, and_right, and_both, true-false}
use Rattle.table_slices.specs.Writes.{over}
use Rattle.table.specs.Spelled.{Row}
use Rattle.lent.specs.State.{state_carried}
use Rattle.lent.specs.declared.Carried.{Carried}
use Rattle.lent.proofs.Sizes.{lent_most}
use Rattle.lent_entries.specs.Lent.{entry_of, row_of, taken, state_lent}
use Rattle.lent_entries.specs.declared.Entry.{Entry}
use Rattle.lent_entries.proofs.Lending.{taken_spells, put_unaltered, put_spells}
use Rattle.line_read.specs.Parts.{largest_reply}
use Rattle.line_read.specs.declared.Reader.{Reader}
use Rattle.call_give.specs.Giving.{is_line, met, given_to, give_refused, GivenFrom, Giving}
use Rattle.call_give.specs.Running.{give_sized, give_left, RanFrom, RanOn, GiveRun}
use Rattle.lent_entries.specs.declared.Ran.{Ran}
use Rattle.call_give.specs.declared.Given.{Given}

module _ (entries : List Entry) (pool : List ℤ) (c : Carried) (r : Reader) (frame : List ℤ) (part out : List ℕ) (q : Ran Given)
    (rows' : List Row) (entries' : List Entry) (pool' : List ℤ) (frame' : List ℤ) (out' : List ℕ)
    (ran : GiveRun (length entries) (taken entries c.count) pool c r frame part out q rows' pool' frame' out')
    (put : entries' ≡ over entries (map entry_of (take q.count rows'))) (put_rows : map row_of entries' ≡ over (map row_of entries) (take q.count rows'))
    (same_entries : length entries' ≡ length entries) (same_pool : length pool' ≡ length pool) (same-frame : length frame' ≡ length frame)
    (same_out : length out' ≡ length out) where
  -- nothing was run: nothing goes back
  refused : (q ≡ give_left c r) × (pool' ≡ pool) × (frame' ≡ frame) × (out' ≡ out) → (q.given ≡ give_refused c r) × (entries' ≡ entries) × (pool' ≡ pool)
      × (frame' ≡ frame) × (out' ≡ out)
  refused l = (
    ap (λ (x : Ran Given). x.given) l.0,
    put ∙ ap (λ n. over entries (map entry_of (take n rows'))) (ap (λ (x : Ran Given). x.count) l.0),
    l.1,
    l.2,
    l.3,
  )

  -- ---- in range

  module _ (t : give_sized (length entries) pool r frame out ≡ true) where
    fits : lent (length entries) (length pool) ≡ true
    fits = and_left (lent (length entries) (length pool)) _ t

    reads : (is_line r (length frame) && leb largest_reply (length out)) ≡ true
    reads = and_right (lent (length entries) (length pool)) _ t

    -- the rows taken in spell what the part meets
    met_is : met entries pool c r frame out ≡ state_carried c (take (length entries) (taken entries c.count)) pool
    met_is = let e = taken_spells c entries pool (lent_most (length entries) (length pool) fits).0 in rw (reads, fits) (sym e)

    run : RanOn (length entries) (taken entries c.count) pool c r frame part out q rows' pool' frame' out'
    run = ran.judged_so t

    given_from : (s : State) → state_lent entries pool c ≡ some s → RanFrom s (length entries) pool c r frame part out q rows' pool' frame' out' →
        GivenFrom s entries pool c r frame part out q.given entries' pool' frame' out'
    given_from s before f =
        let few = le-leb q.given.reader.digits 32768 f.fed.most in
        let wide = and_right (leb r.digits 32768) _ (and_left (is_line r (length frame)) _ reads) in
        let room = and_right (is_line r (length frame)) _ reads in
        record {
          after = f.after;
          spells = rw (same-frame, same_out, few, wide, room) (put_spells entries entries' f.back put put_rows same_entries same_pool fits before);
          fed = f.fed;
          unaltered = put_unaltered entries entries' f.back put;
        }

    in_range : Giving entries pool c r frame part out q.given entries' pool' frame' out'
    in_range = record {
      answered = run.answered ∙ sym (ap given_to met_is);
      given = λ s e. given_from s (rw reads at e) (run.ran s (sym met_is ∙ e));
      left = λ e. refused (run.left (sym met_is ∙ e));
    }

  -- ---- out of range

  module _ (f : give_sized (length entries) pool r frame out ≡ false) where
    unmet : met entries pool c r frame out ≡ none
    unmet = by_cases (is_line r (length frame) && leb largest_reply (length out))
        (λ b. by_cases (lent (length entries) (length pool)) (λ l. true-false (and_both l b) f) (λ l. rw (b, l)))
        (λ b. rw b)

    out_of_range : Giving entries pool c r frame part out q.given entries' pool' frame' out'
    out_of_range =
        let l = refused (ran.refused f) in
        let u = unmet in
        let e = l.0 in
        record {
          answered = rw (u, e);
          given = λ s d. let z : ◌≡◌ {A = ℕ} 0 1 = cc in absurd (omega arith);
          left = λ d. l;
        }

  pub gives_lent : Giving entries pool c r frame part out q.given entries' pool' frame' out'
  gives_lent = by_cases (give_sized (length entries) pool r frame out) in_range out_of_range
