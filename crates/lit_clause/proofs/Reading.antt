-- Loops over a list of literals, from an index on.
use mathlib.Core.Path.{◌≡◌, sym, ◌∙◌, ap, fun_ext}
use mathlib.Core.Bool.{Bool, true, false, ◌||◌, or_assoc, or_comm, or-false}
use mathlib.Core.List.{List}
use Prim.Native.Nat.{ℕ, ◌+◌, ◌≤◌, ◌<◌}
use lib.ListN.{length, get_or, drop, replicate, drop_of_length-le}
use lib.IntN.{ℤ, pos}
use Rattle.rules.specs.Lists.{any_passes}
use Rattle.rules.specs.Terms.{Literals, same, holds}
use Rattle.rules.specs.Propagation.{also}
use Rattle.rules.proofs.Lists.{from_index, any_on, any_past}
use Rattle.lit_sets.specs.Words.{set_of}
use Rattle.lit_sets.proofs.Sets.{zeros_empty}

-- ---- a look for a literal that passes a test

module _ (p : ℤ → Bool) (c : List ℤ) (i : ℕ) (far : any_passes p c ≡ any_passes p (drop i c)) where
  pub found : i < length c → p (get_or c i (pos 0)) ≡ true → true ≡ any_passes p c
  found lt t = sym (far ∙ any_on p c i (pos 0) lt ∙ rw t)

  pub passed : i < length c → p (get_or c i (pos 0)) ≡ false → any_passes p c ≡ any_passes p (drop (i + 1) c)
  passed lt f = far ∙ any_on p c i (pos 0) lt ∙ rw f

  pub none_found : length c ≤ i → false ≡ any_passes p c
  none_found le = sym (far ∙ any_past p c i le)

-- ---- a set that takes up the literals of a list

-- those of c, and those already in it
abbrev pub with_all : List ℤ → Literals → Literals
with_all c F l = holds c l || F l

pub none_marked : (c : List ℤ) → holds c ≡ with_all c (set_of (replicate 32 0) (replicate 32 0))
none_marked c = rw zeros_empty (fun_ext (λ l. sym (or-false (holds c l))))

module _ (whole F : Literals) (c : List ℤ) (i : ℕ) (far : whole ≡ with_all (drop i c) F) where
  pub marked : i < length c → (G : Literals) → G ≡ also (get_or c i (pos 0)) F → whole ≡ with_all (drop (i + 1) c) G
  unfolding any_passes
  marked lt G g = let q = from_index c i (pos 0) lt in (rw q at far) ∙ rw g (fun_ext (λ l. joined (same (get_or c i (pos 0)) l) (holds (drop (i + 1) c) l) (F l)))
    where
      joined : (x y z : Bool) → (x || y || z) ≡ (y || (x || z))
      joined x y z = ap (λ b. b || z) (or_comm x y) ∙ or_assoc y x z

  pub all_marked : length c ≤ i → F ≡ whole
  unfolding any_passes
  all_marked le = let q = drop_of_length-le c le in sym (rw q at far)
