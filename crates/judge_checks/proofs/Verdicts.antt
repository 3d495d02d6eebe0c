-- What `decided` asks of a verdict: hints stop no later than their number.
use mathlib.Core.Path.{◌≡◌}
use mathlib.Core.List.{List}
use Prim.Native.Nat.{ℕ, ◌≤◌}
use native.Mathlib.Omega.{arith}
use lib.IntN.{ℤ}
use lib.ListN.{length}
use Rattle.rules.specs.Propagation.{Allowed, proves}
use Rattle.rules.specs.declared.Verdict.{Verdict}
use Rattle.rules.specs.declared.Verdict.TheVariants.{Proved, BadHint, UsedUp}
use Rattle.rules.proofs.Propagation.{Stopped, proves_stops}

stopped_more : (m n : ℕ) (v : Verdict) → m ≤ n → Stopped m v → Stopped n v
stopped_more m n (Proved k) h s = omega arith
stopped_more m n (BadHint k) h s = omega arith
stopped_more m n UsedUp h s = tt

pub stopped_within : (A : Allowed) (target hints : List ℤ) (n : ℕ) → length hints ≤ n → {v : Verdict} → v ≡ proves A target hints → Stopped n v
stopped_within A target hints n h e = rw e (stopped_more (length hints) n (proves A target hints) h (proves_stops A target hints))
