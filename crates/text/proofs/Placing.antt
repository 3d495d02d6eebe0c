-- Lines and columns, byte by byte.
use mathlib.Core.Path.{◌≡◌, refl, sym, ◌∙◌}
use mathlib.Core.List.{List, [], ◌∷◌}
use Prim.Native.Nat.{ℕ, ◌+◌, ◌≤◌, ◌<◌}
use native.Mathlib.Omega.{arith}
use lib.Dec.{eqb}
use lib.ListN.{length, get_or, drop}
use Rattle.std.proofs.lemmas.List.{at_drop_more, at_drop_all}
use Rattle.rules.proofs.Lists.{by_cases}
use Rattle.text.specs.Places.{place_on}
use Rattle.text.specs.declared.Place.{Place}

-- from the place p, which byte i has, the bytes from there on lead to the place behind them all
pub record Placing (bytes : List ℕ) (p : Place) (i : ℕ) : Type 0 where
  pub lines : p.line ≤ i + 1
  pub columns : p.column ≤ i + 1
  pub rest : place_on p.line p.column (drop i bytes) ≡ place_on 1 1 bytes

-- one byte more
one_more : (line column b : ℕ) (bs : List ℕ) → let p = place_on line column (b ∷ []) in
    (place_on line column (b ∷ bs) ≡ place_on p.line p.column bs) × (p.line ≤ line + 1) × (p.column ≤ column + 1)
unfolding place_on
one_more line column b bs = by_cases (eqb b 10) (λ t. rw t (refl, omega arith, omega arith)) (λ f. rw f (refl, omega arith, omega arith))

pub placing_more : {bytes : List ℕ} {i : ℕ} {p : Place} → Placing bytes p i → i < length bytes → (q : Place)
    → q ≡ place_on p.line p.column (get_or bytes i 0 ∷ []) → Placing bytes q (i + 1)
placing_more {bytes} {i} {p} s h q e =
    let more = one_more p.line p.column (get_or bytes i 0) (drop (i + 1) bytes) in
    rw e (record {
      lines = omega (arith, more.1, s.lines);
      columns = omega (arith, more.2, s.columns);
      rest = sym more.0 ∙ sym (at_drop_more (place_on p.line p.column) bytes i 0 h) ∙ s.rest;
    })

pub placing_all : {bytes : List ℕ} {i : ℕ} {p : Place} → Placing bytes p i → length bytes ≤ i → p ≡ place_on 1 1 bytes
unfolding place_on
placing_all {bytes} {i} {p} s h = sym (at_drop_all (place_on p.line p.column) bytes i h) ∙ s.rest
