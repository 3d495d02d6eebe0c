-- Two's complement: a word as it is stored, and that a word's bits read back are the word.
use mathlib.Core.Path.{◌≡◌, ap}
use mathlib.Core.Bool.{true}
use Prim.Native.Nat.{ℕ, ◌-◌, ◌<◌}
use native.Mathlib.Omega.{arith}
use native.Mathlib.Decide.{dec_lt}
use lib.IntN.{ℤ, pos, negsuc}
use mir.Syntax.{w32}
use mir.Val.{SFits, to_z, of_z}
use mir.Facts.{to_z-of_z}
use borrow.Author.Tests.{lt-ltb, le-ltb, ltb-true}
use Rattle.line_hex.specs.Hex.{signed, is_word, unsigned}

-- a word that is stored is the word
pub stored : (w : ℕ) → w < 4294967296 → to_z w32 (of_z w32 (signed w)) ≡ signed w
unfolding signed
stored w h =
    let f : SFits w32 (signed w) =
    elim (dec_lt w 2147483648) [
      | yes a ↦ rw (lt-ltb w 2147483648 a) (record { sfits = omega arith })
      | no a ↦ rw (le-ltb w 2147483648 (omega arith)) (record { sfits = omega arith })
    ] in
    to_z-of_z f

-- ---- there and back

-- what is stored in 32 bits is a word
pub held : (x : ℤ) → SFits w32 x → is_word x ≡ true
held (pos n) f = lt-ltb n 2147483648 f.sfits
held (negsuc n) f = lt-ltb n 2147483648 f.sfits

pub unsigned_few : (x : ℤ) → is_word x ≡ true → unsigned x < 4294967296
unsigned_few (pos n) e = omega (arith, ltb-true n 2147483648 e)
unsigned_few (negsuc n) e = omega arith

pub signed_unsigned : (x : ℤ) → is_word x ≡ true → signed (unsigned x) ≡ x
unfolding signed
signed_unsigned (pos n) e = rw e
signed_unsigned (negsuc n) e =
    let h = ltb-true n 2147483648 e in
    rw (le-ltb (4294967295 - n) 2147483648 (omega arith)) (ap negsuc (omega arith))
