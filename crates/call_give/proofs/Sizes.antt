-- Lent sizes in range, and out of it; and the end of input.
use mathlib.Core.Path.{◌≡◌, refl}
use mathlib.Core.Bool.{true, false}
use mathlib.Core.List.{List}
use Prim.Native.Nat.{ℕ, ◌≤◌, ◌<◌}
use native.Mathlib.Omega.{arith}
use lib.Dec.{leb}
use lib.IntN.{ℤ}
use lib.ListN.{length}
use borrow.Author.Tests.{leb-true, le-leb, lt-leb}
use Rattle.rules.specs.Answers.{lent}
use Rattle.std.specs.Prelude.{Ok, Err}
use Rattle.rules.specs.declared.Fault.TheVariants.{NoState}
use Rattle.rules.proofs.Lists.{and_left, and_right, and_both, true-false, by_cases}
use Rattle.table.specs.Spelled.{Row}
use Rattle.lent.specs.declared.Carried.{Carried}
use Rattle.lent.proofs.Sizes.{lent_most}
use Rattle.line_read.specs.Machine.{end_reply}
use Rattle.line_read.specs.Lent.{Wrote}
use Rattle.line_read.specs.Parts.{largest_reply}
use Rattle.line_read.specs.declared.Reader.{Reader}
use Rattle.call_give.specs.Giving.{is_line, may_end, last_reply, Ending}
use Rattle.call_give.specs.Running.{give_sized, give_left, Sized, RanOn, GiveRun}
use Rattle.lent_entries.specs.declared.Ran.{Ran}
use Rattle.call_give.specs.declared.Given.{Given}

-- ---- a part

module _ (n : ℕ) (pool : List ℤ) (r : Reader) (frame : List ℤ) (out : List ℕ) where
  pub sized : give_sized n pool r frame out ≡ true → Sized n pool r frame
  sized h =
      let k = lent_most n (length pool) (and_left (lent n (length pool)) _ h) in
      let l = and_left (is_line r (length frame)) (leb largest_reply (length out)) (and_right (lent n (length pool)) _ h) in
      record {
        rows_most = k.0;
        pool_most = k.1;
        digits_most = leb-true r.digits 32768 (and_left (leb r.digits 32768) (leb 4096 (length frame)) l);
        frame_least = leb-true 4096 (length frame) (and_right (leb r.digits 32768) (leb 4096 (length frame)) l);
      }

  module _ {rows : List Row} {c : Carried} {part : List ℕ} where
    pub run_refused : give_sized n pool r frame out ≡ false → GiveRun n rows pool c r frame part out (give_left c r) rows pool frame out
    run_refused f = record { bounded = (omega arith, omega arith); judged_so = λ t. true-false t f; refused = λ g. (refl, refl, refl, refl) }

    pub run_judged : give_sized n pool r frame out ≡ true → {q : Ran Given} {rows' : List Row} {pool' : List ℤ} {frame' : List ℤ} {out' : List ℕ} →
        length rows' ≡ 1280 →
        RanOn n rows pool c r frame part out q rows' pool' frame' out' → GiveRun n rows pool c r frame part out q rows' pool' frame' out'
    run_judged t l s = record { bounded = (s.bounded.0, omega (arith, s.bounded.1)); judged_so = λ g. s; refused = λ f. true-false t f }

-- ---- the end of input

module _ (r : Reader) (out : List ℕ) where
  pub ends_not : may_end r out ≡ false → Ending r out (record { answer = Err NoState; written = 0 }) out
  ends_not f = record { answered = rw f; wrote = λ t. true-false t f; left = λ g. (refl, refl) }

  pub many_digits : 32768 < r.digits → may_end r out ≡ false
  many_digits h = rw (lt-leb r.digits 32768 h)

  pub few_bytes : length out < last_reply → may_end r out ≡ false
  few_bytes h = by_cases (leb r.digits 32768) (λ e. rw (e, lt-leb last_reply (length out) h)) (λ e. rw e)

  pub ends : r.digits ≤ 32768 → last_reply ≤ length out → {out' : List ℕ} {k : ℕ} → Wrote out 0 (end_reply r.digits r.spoilt) out' k →
      Ending r out (record { answer = Ok 0; written = k }) out'
  ends h l w =
      let t : may_end r out ≡ true = and_both (le-leb r.digits 32768 h) (le-leb last_reply (length out) l) in
      record { answered = rw t; wrote = λ g. w; left = λ f. true-false t f }
