-- The variables that differ, counted a word at a time.
use mathlib.Core.Path.{◌≡◌, refl, ap, ◌∙◌}
use mathlib.Core.Bool.{Bool, true, false, xor}
use mathlib.Core.List.{List}
use Prim.Native.Nat.{ℕ, zero, suc, ◌+◌, ◌-◌, ◌*◌, ◌≤◌, ◌<◌}
use native.Mathlib.Omega.{arith}
use native.Mathlib.Nat.{add-zero, add-suc}
use lib.ListN.{get_or}
use lib.Bits.{bit_xor}
use Rattle.rules.specs.Terms.{Assignment}
use Rattle.rules.specs.Answers.{differing}
use Rattle.lit_sets.specs.Words.{ones_below, assigned}
use Rattle.lit_sets.proofs.Bits.{xor_bit, one_at_most}
use Rattle.lit_sets.proofs.Assigned.{at_word}

module _ (xs ys : List ℕ) (j : ℕ) where
  -- the first k variables of word j
  part : (k : ℕ) → k ≤ 64 → differing (assigned xs) (assigned ys) (64 * j + k) ≡ ones_below (bit_xor (get_or xs j 0) (get_or ys j 0)) k + differing (assigned xs)
      (assigned ys) (64 * j)
  unfolding differing ones_below
  part zero h = rw add-zero (omega arith)
  part (suc k) h =
      rw (add-suc (64 * j) k, at_word xs j k (omega arith), at_word ys j k (omega arith), xor_bit (get_or xs j 0) (get_or ys j 0) k)
      (omega (arith, part k (omega arith)))

  -- a word more
  pub word_more : differing (assigned xs) (assigned ys) (64 * (j + 1)) ≡ ones_below (bit_xor (get_or xs j 0) (get_or ys j 0)) 64 + differing (assigned xs)
      (assigned ys) (64 * j)
  word_more = let e : 64 * (j + 1) ≡ 64 * j + 64 = omega arith in rw e (part 64 (omega arith))

pub differ_le : (α β : Assignment) (n : ℕ) → differing α β n ≤ n
unfolding differing
differ_le α β zero = omega arith
differ_le α β (suc n) = omega (arith, differ_le α β n, one_at_most (xor (α (suc n)) (β (suc n))))

xor_self : (b : Bool) → xor b b ≡ false
unfolding xor
xor_self true = refl
xor_self false = refl

differ_past : (α β : Assignment) (vars k : ℕ) → ((v : ℕ) → vars < v → α v ≡ β v) → differing α β (vars + k) ≡ differing α β vars
unfolding differing
differ_past α β vars zero e = rw add-zero
differ_past α β vars (suc k) e =
    let q = e (suc (vars + k)) (omega arith) in
    rw (add-suc vars k, q, xor_self (β (suc (vars + k)))) (omega (arith, differ_past α β vars k e))

-- variables past V that agree do not count
pub differ_within : (α β : Assignment) (vars : ℕ) → vars ≤ 2048 → ((v : ℕ) → vars < v → α v ≡ β v) → differing α β 2048 ≡ differing α β vars
differ_within α β vars h e = ap (differing α β) (omega arith) ∙ differ_past α β vars (2048 - vars) e
