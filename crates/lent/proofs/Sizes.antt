-- Lent sizes in range.
use mathlib.Core.Path.{◌≡◌}
use mathlib.Core.Bool.{true, ◌&&◌}
use Prim.Native.Nat.{ℕ, ◌≤◌}
use lib.Dec.{ltb, leb}
use borrow.Author.Tests.{leb-true}
use Rattle.rules.specs.Answers.{lent}
use Rattle.rules.proofs.Lists.{and_left, and_right}

pub lent_most : (n k : ℕ) → lent n k ≡ true → (n ≤ 1024) × (k ≤ 8192)
lent_most n k h = (
  leb-true n 1024 (and_right (ltb 0 n) (leb n 1024) (and_left (ltb 0 n && leb n 1024) (ltb 0 k && leb k 8192) h)),
  leb-true k 8192 (and_right (ltb 0 k) (leb k 8192) (and_right (ltb 0 n && leb n 1024) (ltb 0 k && leb k 8192) h)),
)
