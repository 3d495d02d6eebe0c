-- Literals made true one after the other, and the assignment that a list of true variables offers.
use mathlib.Core.Path.{◌≡◌, refl, sym, ◌∙◌, ap, fun_ext}
use mathlib.Core.Bool.{true, ◌||◌, or-true, or-false, false≢true}
use mathlib.Core.List.{List, [], ◌∷◌}
use Prim.Native.Nat.{ℕ, zero, suc, ◌+◌, ◌≤◌, ◌<◌}
use lib.ListN.{length, get_or, drop, drop_of_length-le}
use lib.IntN.{ℤ, pos, negsuc, nat_abs}
use lib.Dec.{eqb}
use Rattle.rules.specs.Lists.{any_passes, all_pass}
use Rattle.rules.specs.Terms.{Assignment, in_range, holds, upd}
use Rattle.rules.specs.Frames.{put, make, offered, number}
use Rattle.rules.specs.Answers.{unseen, ascending, is_above}
use Rattle.std.specs.Prelude.{Ok}
use Rattle.rules.proofs.Lists.{from_index, by_cases, and_left, and_right, all_nil, all_cons, all_head, all_tail}
use Rattle.rules.proofs.Checks.{then_left, then_right, need_true}
use Rattle.lit.specs.Signs.{is_natural}
use Rattle.lit.proofs.Signed.{wider}

put_is : (α : Assignment) (l : ℤ) → in_range 2048 l ≡ true → put α l ≡ upd α (nat_abs l) (is_natural l)
unfolding put
put_is α (pos zero) h = absurd (false≢true h)
put_is α (pos (suc n)) h = refl
put_is α (negsuc n) h = refl

-- a loop that makes the literals of w true
module _ (whole : Assignment) (w : List ℤ) (α : Assignment) (i : ℕ) (far : whole ≡ make α (drop i w)) where
  pub made_on : i < length w → in_range 2048 (get_or w i (pos 0)) ≡ true → (β : Assignment) →
      β ≡ upd α (nat_abs (get_or w i (pos 0))) (is_natural (get_or w i (pos 0))) →
      whole ≡ make β (drop (i + 1) w)
  unfolding make
  made_on lt r β e = let q = from_index w i (pos 0) lt in (rw q at far) ∙ ap (λ γ. make γ (drop (i + 1) w)) (put_is α (get_or w i (pos 0)) r ∙ sym e)

  pub made_end : length w ≤ i → α ≡ whole
  unfolding make
  made_end le = let q = drop_of_length-le w le in sym (rw q at far)

-- ---- the offered assignment

make_positive : (vs : List ℤ) (α : Assignment) → all_pass (in_range 2048) vs ≡ true → all_pass is_natural vs ≡ true → (v : ℕ) →
    make α vs v ≡ (holds vs (pos v) || α v)
unfolding make put any_passes upd
make_positive [] α r p v = refl
make_positive (pos zero ∷ vs) α r p v = absurd (false≢true (all_head (in_range 2048) (pos zero) vs r))
make_positive (pos (suc n) ∷ vs) α r p v =
    make_positive vs (upd α (suc n) true) (all_tail (in_range 2048) (pos (suc n)) vs r) (all_tail is_natural (pos (suc n)) vs p) v
    ∙ by_cases (eqb (suc n) v) (λ e. rw (e, or-true (holds vs (pos v)))) (λ e. rw e)
make_positive (negsuc n ∷ vs) α r p v = absurd (false≢true (all_head is_natural (negsuc n) vs p))

pub offered_made : (vs : List ℤ) → all_pass (in_range 2048) vs ≡ true → all_pass is_natural vs ≡ true → make unseen vs ≡ offered vs
offered_made vs r p = fun_ext (λ v. make_positive vs unseen r p v ∙ or-false (holds vs (pos v)))

-- "true variables not in 1 to V and rising": they are positive literals
pub ascending_offers : (vars last at : ℕ) (vs : List ℤ) → vars ≤ 2048 → ascending vars last at vs ≡ Ok tt → (all_pass (in_range 2048) vs ≡ true)
    × (all_pass is_natural vs ≡ true)
unfolding ascending
ascending_offers vars last at [] h e = (all_nil (in_range 2048), all_nil is_natural)
ascending_offers vars last at (x ∷ vs) h e =
    let k = need_true _ _ (then_left _ _ e) in
    let rest = ascending_offers vars (number x) (at + 1) vs h (then_right _ _ e) in (
      all_cons (in_range 2048) x vs (wider vars x h (and_left (in_range vars x) (is_above last x) k)) rest.0,
      all_cons is_natural x vs (above_positive x (and_right (in_range vars x) (is_above last x) k)) rest.1,
    )
  where
    above_positive : (y : ℤ) → is_above last y ≡ true → is_natural y ≡ true
    above_positive (pos n) t = refl
    above_positive (negsuc n) t = t
