-- Literals read from words by their sign.
use mathlib.Core.Path.{◌≡◌, refl, ap, fun_ext}
use mathlib.Core.Bool.{Bool, true, false, not, ◌||◌, beq, true≢false, false≢true}
use mathlib.Core.List.{List}
use Prim.Native.Nat.{ℕ, zero, suc}
use lib.ListN.{replicate}
use lib.IntN.{ℤ, pos, negsuc, nat_abs}
use lib.Dec.{eqb, eqb-suc-suc}
use Rattle.rules.specs.Terms.{Assignment, in_range, opposes, upd, lit}
use Rattle.rules.specs.Propagation.{also}
use Rattle.rules.proofs.Lists.{by_cases}
use Rattle.lit.specs.Signs.{is_natural}
use Rattle.lit_sets.specs.Words.{assigned, set_of}
use Rattle.lit_sets.proofs.Assigned.{zeros_unset}

-- a literal is true where its variable has its sign
pub lit_by_sign : (α : Assignment) (l : ℤ) → in_range 2048 l ≡ true → beq (α (nat_abs l)) (is_natural l) ≡ lit α l
unfolding lit
lit_by_sign α (pos zero) h = absurd (false≢true h)
lit_by_sign α (pos (suc n)) h = by_value (α (suc n))
  where
    by_value : (b : Bool) → beq b true ≡ b
    by_value true = refl
    by_value false = refl
lit_by_sign α (negsuc n) h = by_value (α (suc n))
  where
    by_value : (b : Bool) → beq b false ≡ not b
    by_value true = refl
    by_value false = refl

-- ---- a set of literals

upd_or : (α : Assignment) (v u : ℕ) → upd α v true u ≡ (eqb v u || α u)
unfolding upd
upd_or α v u = by_cases (eqb v u) (λ e. rw e) (λ e. rw e)

module _ (plus minus : List ℕ) where
  pub has_positive : (l : ℤ) → is_natural l ≡ true → assigned plus (nat_abs l) ≡ set_of plus minus l
  unfolding set_of
  has_positive (pos n) h = refl
  has_positive (negsuc n) h = absurd (false≢true h)

  pub has_negative : (l : ℤ) → is_natural l ≡ false → assigned minus (nat_abs l) ≡ set_of plus minus l
  unfolding set_of
  has_negative (pos n) h = absurd (true≢false h)
  has_negative (negsuc n) h = refl

  -- the arrays changed over are the set of the opposites
  pub changed_over : set_of minus plus ≡ opposes (set_of plus minus)
  unfolding set_of assigned
  changed_over = fun_ext at
    where
      at : (l : ℤ) → set_of minus plus l ≡ opposes (set_of plus minus) l
      at (pos zero) = refl
      at (pos (suc n)) = refl
      at (negsuc n) = refl

  -- a literal more
  pub also_positive : (more : List ℕ) (l : ℤ) → is_natural l ≡ true → assigned more ≡ upd (assigned plus) (nat_abs l) true →
      set_of more minus ≡ also l (set_of plus minus)
  unfolding set_of
  also_positive more (negsuc n) h e = absurd (false≢true h)
  also_positive more (pos n) h e = fun_ext at
    where
      at : (m : ℤ) → set_of more minus m ≡ also (pos n) (set_of plus minus) m
      at (pos m) = rw e (upd_or (assigned plus) n m)
      at (negsuc m) = refl

  pub also_negative : (more : List ℕ) (l : ℤ) → is_natural l ≡ false → assigned more ≡ upd (assigned minus) (nat_abs l) true →
      set_of plus more ≡ also l (set_of plus minus)
  unfolding set_of
  also_negative more (pos n) h e = absurd (true≢false h)
  also_negative more (negsuc n) h e = fun_ext at
    where
      at : (m : ℤ) → set_of plus more m ≡ also (negsuc n) (set_of plus minus) m
      at (pos m) = refl
      at (negsuc m) = rw (e, upd_or (assigned minus) (suc n) (suc m), eqb-suc-suc n m)

-- the empty set
pub zeros_empty : set_of (replicate 32 0) (replicate 32 0) ≡ (λ (l : ℤ). false)
unfolding set_of
zeros_empty = fun_ext at
  where
    at : (l : ℤ) → set_of (replicate 32 0) (replicate 32 0) l ≡ false
    at (pos n) = ap (λ (α : Assignment). α n) zeros_unset
    at (negsuc n) = ap (λ (α : Assignment). α (suc n)) zeros_unset
