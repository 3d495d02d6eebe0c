-- Lent sizes in range, and out of it.
use mathlib.Core.Path.{◌≡◌, refl, sym, ap, subst, ◌∙◌}
use mathlib.Core.Bool.{true, false, true≢false}
use mathlib.Core.List.{List, ◌++◌}
use mathlib.Core.Option.{Option, none, some}
use Prim.Native.Nat.{ℕ, ◌≤◌}
use native.Mathlib.Omega.{arith}
use lib.Dec.{eqb}
use lib.IntN.{ℤ}
use lib.ListN.{length, take}
use lib.Seq.{length-take-le}
use borrow.Author.Tests.{eqb-true}
use Rattle.rules.specs.Terms.{State}
use Rattle.rules.specs.Answers.{lent}
use Rattle.std.specs.Prelude.{Ok, Err}
use Rattle.rules.specs.declared.Fault.TheVariants.{NoState}
use Rattle.rules.proofs.Lists.{and_left, and_right}
use Rattle.table.specs.Spelled.{Row}
use Rattle.lent.specs.State.{state_carried}
use Rattle.lent.specs.declared.Carried.{Carried}
use Rattle.lent.proofs.Sizes.{lent_most}
use Rattle.lent.proofs.Stored.{back_longer}
use Rattle.call_step.specs.Running.{Running, StepRun, step_sized, step_left}
use Rattle.lent_entries.specs.declared.Ran.{Ran}
use Rattle.lent.specs.declared.Called.{Called}

pub sizes : (n : ℕ) (pool : List ℤ) (model : List ℕ) → step_sized n pool model ≡ true → (n ≤ 1024) × (length pool ≤ 8192) × (length model ≡ 32)
sizes n pool model h =
    let k = lent_most n (length pool) (and_left (lent n (length pool)) (eqb (length model) 32) h) in
    (k.0, k.1, eqb-true (length model) 32 (and_right (lent n (length pool)) (eqb (length model) 32) h))

module _ {n : ℕ} {rows : List Row} {pool : List ℤ} {c : Carried} {frame : List ℤ} {model : List ℕ} where
  pub run_refused : step_sized n pool model ≡ false → StepRun n rows pool c frame model (step_left (Err NoState) c) rows pool model
  run_refused f = record { bounded = (omega arith, omega arith); judged_so = λ t. absurd (true≢false (sym t ∙ f)); refused = λ g. (refl, refl, refl) }

  -- the rows that were run come first again
  pub run_judged : step_sized n pool model ≡ true → n ≤ length rows → (xs rest : List Row) {r : Ran Called} {pool' : List ℤ} {model' : List ℕ} →
      Running (length (take n rows)) (take n rows) c pool frame model r xs pool' model' → StepRun n rows pool c frame model r (xs ++ rest) pool' model'
  run_judged t h xs rest {r} {pool'} {model'} s =
      let k : length (take n rows) ≡ n = length-take-le n rows h in
      let run : Running n (take n rows) c pool frame model r xs pool' model' = subst (λ m. Running m (take n rows) c pool frame model r xs pool' model') k s in
      let few : r.count ≤ n = at_most run (state_carried c (take n rows) pool) refl in
      record {
        bounded = (few, omega (arith, few, (sizes n pool model t).0));
        judged_so = λ g. record { answered = run.answered; handed = run.handed; back = λ x d. back_longer rest (run.back x d); left = run.left };
        refused = λ f. absurd (true≢false (sym t ∙ f));
      }
    where
      -- no more rows go back than there are entries
      at_most : {r : Ran Called} {pool' : List ℤ} {model' : List ℕ} {xs : List Row} → Running n (take n rows) c pool frame model r xs pool' model' →
          (x : Option State) → state_carried c (take n rows) pool ≡ x → r.count ≤ n
      at_most run (some x) e = (run.back x e).bounded.0
      at_most run none e = let q = ap (λ (y : Ran Called). y.count) (run.left e).0 in omega arith
