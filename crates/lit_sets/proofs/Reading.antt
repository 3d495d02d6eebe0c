-- A literal that is read from a list.
use mathlib.Core.Path.{◌≡◌}
use mathlib.Core.Bool.{true}
use mathlib.Core.List.{List}
use Prim.Native.Nat.{ℕ, ◌<◌}
use lib.ListN.{length, get_or}
use lib.IntN.{ℤ, pos}
use mir.Syntax.{w32}
use mir.Val.{SFits}
use mir.Facts.{to_z-of_z}
use Rattle.rules.specs.Lists.{all_pass}
use Rattle.rules.specs.Terms.{in_range}
use Rattle.rules.proofs.Lists.{all_index}
use Rattle.lit.proofs.Signed.{back}

-- by its bits
pub read_in : (c : List ℤ) (i : ℕ) → all_pass (in_range 2048) c ≡ true → i < length c → SFits w32 (get_or c i (pos 0)) →
    in_range 2048 (back (get_or c i (pos 0))) ≡ true
read_in c i a lt f = rw (to_z-of_z f) (all_index (in_range 2048) c i (pos 0) lt a)
