-- Laws of signed words. A local holds the bits of a number: they read back as the number.
use mathlib.Core.Path.{◌≡◌, ◌∙◌, ap}
use mathlib.Core.Bool.{true, false≢true}
use mathlib.Core.List.{List}
use Prim.Native.Nat.{ℕ, zero, suc, ◌≤◌}
use native.Mathlib.Omega.{arith}
use lib.IntN.{ℤ, pos, negsuc, nat_abs, neg_ℤ}
use mir.Syntax.{w32}
use mir.Val.{SFits, to_z, of_z}
use mir.Facts.{to_z-of_z}
use borrow.Author.Tests.{ltb-true, lt-ltb}
use Rattle.rules.specs.Lists.{all_pass}
use Rattle.rules.specs.Terms.{in_range}
use Rattle.rules.proofs.Lists.{all_at, all_of}

-- what the bits of x read back as
abbrev pub back : ℤ → ℤ
back x = to_z w32 (of_z w32 x)

-- ---- literals

-- the variable of a literal
pub sized : (l : ℤ) → in_range 2048 l ≡ true → (1 ≤ nat_abs l) × (nat_abs l ≤ 2048)
sized (pos zero) h = absurd (false≢true h)
sized (pos (suc n)) h = let k = ltb-true n 2048 h in (omega arith, omega arith)
sized (negsuc n) h = let k = ltb-true n 2048 h in (omega arith, omega arith)

pub wider : (vars : ℕ) (l : ℤ) → vars ≤ 2048 → in_range vars l ≡ true → in_range 2048 l ≡ true
wider vars (pos zero) h e = e
wider vars (pos (suc n)) h e = lt-ltb n 2048 (omega (arith, ltb-true n vars e))
wider vars (negsuc n) h e = lt-ltb n 2048 (omega (arith, ltb-true n vars e))

pub all_wider : (vars : ℕ) (c : List ℤ) → vars ≤ 2048 → all_pass (in_range vars) c ≡ true → all_pass (in_range 2048) c ≡ true
all_wider vars c h a = all_of (in_range 2048) c (λ l m. wider vars l h (all_at (in_range vars) a m))

-- the opposite is a literal too
pub opposite_in : (vars : ℕ) (l : ℤ) → in_range vars l ≡ true → in_range vars (neg_ℤ l) ≡ true
opposite_in vars (pos zero) h = h
opposite_in vars (pos (suc n)) h = h
opposite_in vars (negsuc n) h = h

-- ---- negation

neg_fits : (x : ℤ) → nat_abs x ≤ 2048 → SFits w32 (neg_ℤ x)
neg_fits (pos zero) h = record { sfits = omega arith }
neg_fits (pos (suc n)) h = record { sfits = omega arith }
neg_fits (negsuc n) h = record { sfits = omega arith }

-- ---- a word in a local

-- what `variable` asks, and gives
pub variable_asked : {l : ℤ} → SFits w32 l → in_range 2048 l ≡ true → nat_abs (back l) ≤ 2048
variable_asked {l} f h = rw (to_z-of_z f) (sized l h).1

pub variable_bounds : {l : ℤ} {v : ℕ} → SFits w32 l → in_range 2048 l ≡ true → v ≡ nat_abs (back l) → (1 ≤ v) × (v ≤ 2048)
variable_bounds {l} f h e = rw (e, to_z-of_z f) (sized l h)

-- what a call said of the bits, it said of the word
pub said : {A : Type 0} (P : ℤ → A) {l : ℤ} {r : A} → SFits w32 l → r ≡ P (back l) → r ≡ P l
said P f e = e ∙ ap P (to_z-of_z f)

-- what `opposite` handed back
pub opposite_back : (l r : ℤ) → in_range 2048 l ≡ true → r ≡ neg_ℤ l → back r ≡ neg_ℤ l
opposite_back l r h e = rw e (to_z-of_z (neg_fits l (sized l h).1))
