-- The variables of a clause, by the stamps that they have.
use mathlib.Core.Path.{◌≡◌, sym, ap, ◌∙◌}
use mathlib.Core.Bool.{Bool, true, false, ◌||◌, or-false}
use mathlib.Core.List.{List, [], ◌∷◌, ◌++◌}
use Prim.Native.Nat.{ℕ, ◌+◌, ◌≤◌, ◌<◌}
use native.Mathlib.Omega.{arith}
use native.Mathlib.Decide.{ℕ_discrete, dec_lt}
use lib.Dec.{eqb}
use lib.IntN.{ℤ, nat_abs}
use lib.ListN.{length, get_or, set, replicate, length-set, length-replicate, get_or-replicate, get_or-eq_default}
use lib.Seq.{get_or-set_same, get_or-set_other}
use borrow.Author.Tests.{eq-eqb, ne_eqb}
use Rattle.rules.specs.Lists.{any_passes}
use Rattle.rules.specs.Terms.{mentions}
use Rattle.rules.proofs.Lists.{or_right, any_last}

-- ---- stamps

-- of 1 to 2,048 the variables of the clause c have the stamp, and no other; none has a later one, and 0 an earlier one
pub record Stamped (stamps : List ℕ) (stamp : ℕ) (c : List ℤ) : Type 0 where
  pub size : length stamps ≡ 2049
  pub most : (v : ℕ) → get_or stamps v 0 ≤ stamp
  pub none : get_or stamps 0 0 < stamp
  pub same : (v : ℕ) → 0 < v → v ≤ 2048 → eqb (get_or stamps v 0) stamp ≡ mentions c v

zero_at : (n v : ℕ) → ◌≡◌ {A = ℕ} (get_or (replicate n 0) v 0) 0
zero_at n v = of (dec_lt v n)
  where
    of : Dec (v < n) → ◌≡◌ {A = ℕ} (get_or (replicate n 0) v 0) 0
    of (yes h) = get_or-replicate n v 0 0 h
    of (no h) = let past : length {A = ℕ} (replicate n 0) ≤ v = omega (arith, length-replicate {A = ℕ} n 0) in get_or-eq_default (replicate n 0) 0 past

-- no stamp is given yet
pub stamped_none : (stamps : List ℕ) → stamps ≡ replicate 2049 0 → Stamped stamps 1 []
unfolding any_passes
stamped_none stamps e = rw e (record {
  size = length-replicate {A = ℕ} 2049 0;
  most = λ v. omega (arith, zero_at 2049 v);
  none = omega (arith, zero_at 2049 0);
  same = λ v low high. rw (zero_at 2049 v);
})

module _ {stamps : List ℕ} {stamp : ℕ} {c : List ℤ} (s : Stamped stamps stamp c) where
  -- 0 never has the stamp: what closes a clause is no variable
  pub zero_unstamped : eqb (get_or stamps 0 0) stamp ≡ false
  zero_unstamped = ne_eqb (get_or stamps 0 0) stamp (λ e. omega (arith, s.none))

  -- the stamps after one more
  after : (v : ℕ) → v < 2049 → (u : ℕ) → (u ≡ v → get_or (set stamps v stamp) u 0 ≡ stamp) × ((u ≡ v → ⊥) → get_or (set stamps v stamp) u 0 ≡ get_or stamps u 0)
  after v h u =
      (λ e. rw e (get_or-set_same stamps v stamp 0 (omega (arith, s.size))), λ e. get_or-set_other stamps v u stamp 0 e)

  after_most : (v : ℕ) → v < 2049 → (u : ℕ) → get_or (set stamps v stamp) u 0 ≤ stamp
  after_most v h u = of (ℕ_discrete u v)
    where
      of : Dec (u ≡ v) → get_or (set stamps v stamp) u 0 ≤ stamp
      of (yes e) = omega (arith, (after v h u).0 e)
      of (no e) = omega (arith, (after v h u).1 e, s.most u)

  -- a literal more
  pub stamped_more : (l : ℤ) → 0 < nat_abs l → nat_abs l ≤ 2048 → Stamped (set stamps (nat_abs l) stamp) stamp (c ++ (l ∷ []))
  stamped_more l low high =
      let v = nat_abs l in
      record {
        size = length-set stamps v stamp ∙ s.size;
        most = after_most v (omega arith);
        none = omega (arith, (after v (omega arith) 0).1 (λ e. omega arith), s.none);
        same = λ u low' high'. of u low' high' (ℕ_discrete u v);
      }
    where
      of : (u : ℕ) → 0 < u → u ≤ 2048 → Dec (u ≡ nat_abs l) → eqb (get_or (set stamps (nat_abs l) stamp) u 0) stamp ≡ mentions (c ++ (l ∷ [])) u
      of u low' high' (yes e) =
          let q : eqb (nat_abs l) u ≡ true = eq-eqb (nat_abs l) u (sym e) in
          eq-eqb (get_or (set stamps (nat_abs l) stamp) u 0) stamp ((after (nat_abs l) (omega arith) u).0 e)
          ∙ sym (any_last (λ m. eqb (nat_abs m) u) c l ∙ or_right (mentions c u) (eqb (nat_abs l) u) q)
      of u low' high' (no e) =
          let q : eqb (nat_abs l) u ≡ false = ne_eqb (nat_abs l) u (λ r. e (sym r)) in
          ap (λ (k : ℕ). eqb k stamp) ((after (nat_abs l) (omega arith) u).1 e) ∙ s.same u low' high'
          ∙ sym (any_last (λ m. eqb (nat_abs m) u) c l ∙ ap (λ (b : Bool). mentions c u || b) q ∙ or-false (mentions c u))

  -- the clause is closed, and the next has the next stamp
  pub stamped_next : Stamped (set stamps 0 stamp) (stamp + 1) []
  unfolding any_passes
  stamped_next = record {
    size = length-set stamps 0 stamp ∙ s.size;
    most = λ v. omega (arith, after_most 0 (omega arith) v);
    none = omega (arith, after_most 0 (omega arith) 0);
    same = λ v low high. ne_eqb (get_or (set stamps 0 stamp) v 0) (stamp + 1) (λ e. omega (arith, after_most 0 (omega arith) v));
  }
