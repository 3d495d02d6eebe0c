-- Whether a proof is being read, as the code asks it.
use mathlib.Core.Path.{◌≡◌, refl}
use mathlib.Core.Bool.{true, false}
use mathlib.Core.List.{List, [], ◌∷◌}
use Prim.Native.Nat.{ℕ, ◌+◌}
use native.Mathlib.Omega.{arith}
use lib.IntN.{ℤ}
use Rattle.rules.specs.Lists.{all_pass}
use Rattle.rules.specs.Terms.{in_range}
use Rattle.rules.specs.Answers.{need, ◌then◌, ranged}
use Rattle.std.specs.Prelude.{Ok, Err}
use Rattle.rules.specs.declared.Fault.{Fault}
use Rattle.rules.proofs.Lists.{by_cases}

all_ranged : (at : ℕ) (c : List ℤ) → all_pass (in_range 2048) c ≡ true → ranged 2048 at c ≡ Ok tt
unfolding ranged need ◌then◌ all_pass
all_ranged at [] e = refl
all_ranged at (l ∷ c) e = by_cases (in_range 2048 l)
    (λ t. let d = rw t at e in rw t (all_ranged (at + 1) c d))
    (λ f. let d = rw f at e in let z : ◌≡◌ {A = ℕ} 0 1 = cc in absurd (omega arith))

-- a word is no literal
pub not_ranged : (at : ℕ) (c : List ℤ) (f : Fault) → ranged 2048 at c ≡ Err f → all_pass (in_range 2048) c ≡ false
not_ranged at c f e = by_cases (all_pass (in_range 2048) c)
    (λ t. let d = all_ranged at c t in let z : ◌≡◌ {A = ℕ} 0 1 = cc in absurd (omega arith))
    (λ f. f)
