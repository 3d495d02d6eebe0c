-- Opening's two checks.
use mathlib.Core.Path.{◌≡◌}
use mathlib.Core.Bool.{true, false}
use Prim.Native.Nat.{ℕ, ◌≤◌, ◌<◌}
use native.Mathlib.Omega.{arith}
use borrow.Author.Tests.{lt-ltb, le-leb, lt-leb}
use Rattle.rules.specs.Answers.{◌then◌, need, lent, check_open}
use Rattle.std.specs.Prelude.{Ok, Err}
use Rattle.rules.specs.declared.Fault.TheVariants.{NoState, Literal}

module _ (vars entries words : ℕ) where
  pub unlent : lent entries words ≡ false → check_open vars entries words ≡ Err NoState
  unfolding check_open ◌then◌ need
  unlent f = rw f

  pub no_vars : lent entries words ≡ true → vars ≡ 0 → check_open vars entries words ≡ Err (Literal 0)
  unfolding check_open ◌then◌ need
  no_vars t z = rw (t, z)

  pub many_vars : lent entries words ≡ true → 2048 < vars → check_open vars entries words ≡ Err (Literal 0)
  unfolding check_open ◌then◌ need
  many_vars t h = let a = lt-ltb 0 vars (omega arith) in let b = lt-leb vars 2048 h in rw (t, a, b)

  pub opens : lent entries words ≡ true → 0 < vars → vars ≤ 2048 → check_open vars entries words ≡ Ok tt
  unfolding check_open ◌then◌ need
  opens t h k = let a = lt-ltb 0 vars h in let b = le-leb vars 2048 k in rw (t, a, b)
