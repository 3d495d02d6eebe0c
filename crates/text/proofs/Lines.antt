-- Bytes that close no line.
use mathlib.Core.Path.{◌≡◌, ap}
use mathlib.Core.Bool.{false, not}
use mathlib.Core.List.{List, [], ◌∷◌}
use Prim.Native.Nat.{ℕ, ◌+◌, ◌≤◌, ◌<◌}
use native.Mathlib.Omega.{arith}
use lib.Dec.{eqb}
use lib.ListN.{length, get_or}
use lib.Seq.{slice, slice_empty}
use Rattle.rules.proofs.Lists.{all_nil, all_cons, all_append}
use Rattle.text.specs.Places.{goes_on, Unclosed}
use Rattle.text.proofs.Slices.{slice_snoc}

pub unclosed_none : (text : List ℕ) (from : ℕ) → from ≤ length text → Unclosed text from from
unclosed_none text from h = record { low = omega arith; high = h; goes = rw (slice_empty from text) (all_nil goes_on) }

-- one byte more that closes none
pub unclosed_more : {text : List ℕ} {from i : ℕ} → Unclosed text from i → i < length text → eqb (get_or text i 0) 10 ≡ false → Unclosed text from (i + 1)
unclosed_more {text} {from} {i} u h e = record {
  low = omega (arith, u.low);
  high = omega arith;
  goes =
      rw (slice_snoc from i text u.low h)
      (all_append goes_on (slice from i text) (get_or text i 0 ∷ []) u.goes (all_cons goes_on (get_or text i 0) [] (ap not e) (all_nil goes_on)));
}
