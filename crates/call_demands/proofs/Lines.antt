-- Lines in a history: each is a frame heard, or nothing; and the variables printed for a model are its true ones.
use mathlib.Core.Path.{◌≡◌, refl, sym, ap, ◌∙◌, fun_ext}
use mathlib.Core.Bool.{Bool, true, false, ◌&&◌, ◌||◌, or-false}
use mathlib.Core.List.{List, [], ◌∷◌}
use mathlib.Core.Option.{Option, none, some}
use Prim.Native.Nat.{ℕ, zero, suc}
use native.Mathlib.Omega.{arith}
use lib.Dec.{eqb, ltb, leb}
use lib.IntN.{ℤ}
use borrow.Author.Tests.{eqb-true, eqb-false, ltb-true, leb-true, leb-false, lt-ltb, le-leb, lt-leb}
use Rattle.rules.specs.Lists.{any_passes}
use Rattle.rules.specs.Terms.{is_variable, Assignment}
use Rattle.rules.specs.Histories.{History, step, Reached}
use Rattle.rules.specs.Outcomes.{trues}
use Rattle.rules.proofs.Lists.{by_cases}
use Rattle.rules.proofs.Reaching.{reached_one}
use Rattle.line_read.specs.Parts.{state_after}
use Rattle.call_demands.specs.Chains.{added_after}
use Rattle.call_demands.specs.Heard.{true_of}

-- ---- lines in a history

-- the history after lines
pub record After (h : History) (fs : List (Option (List ℤ))) : Type 0 where
  pub history : History
  pub reached : Reached history
  pub state : history.state ≡ state_after h.state fs
  pub added : history.added ≡ added_after h.state fs h.added

pub after_lines : (fs : List (Option (List ℤ))) (h : History) → Reached h → After h fs
unfolding state_after added_after step
after_lines [] h r = record { history = h; reached = r; state = refl; added = refl }
after_lines (none ∷ fs) h r = let k = after_lines fs h r in record { history = k.history; reached = k.reached; state = k.state; added = k.added }
after_lines (some ws ∷ fs) h r =
    let k = after_lines fs (step h ws) (reached_one h ws r) in
    record { history = k.history; reached = k.reached; state = k.state; added = k.added }

-- ---- the printed variables

-- the variables of 1 to n, and one more
variable_more : (n v : ℕ) → is_variable (suc n) v ≡ (eqb v (suc n) || is_variable n v)
variable_more n v = by_cases (eqb v (suc n))
    (λ e. let k = eqb-true v (suc n) e in let a : ltb 0 v ≡ true = lt-ltb 0 v (omega arith) in let b : leb v (suc n) ≡ true = le-leb v (suc n) (omega arith) in
    rw (e, a, b))
    (λ e.
    let k = eqb-false v (suc n) e in
    by_cases (leb v n)
    (λ b. let c : leb v (suc n) ≡ true = let z = leb-true v n b in le-leb v (suc n) (omega arith) in rw (e, b, c))
    (λ b. let c : leb v (suc n) ≡ false = let z = leb-false v n b in lt-leb v (suc n) (omega arith) in rw (e, b, c)))

none_of_none : (v : ℕ) → is_variable 0 v ≡ false
none_of_none v = by_cases (ltb 0 v) (λ t. let k = ltb-true 0 v t in let b : leb v 0 ≡ false = lt-leb v 0 (omega arith) in rw (t, b)) (λ t. rw t)

listed : (here had rest at : Bool) → (here ≡ true → at ≡ true) → ((here || had) || (rest && at)) ≡ (had || ((here || rest) && at))
listed true true rest at f = refl
listed true false rest at f = sym (f refl)
listed false had rest at f = refl

unlisted : (here had rest at : Bool) → (here ≡ true → at ≡ false) → (had || (rest && at)) ≡ (had || ((here || rest) && at))
unlisted true true rest at f = refl
unlisted true false true at f = refl
unlisted true false false at f = sym (f refl)
unlisted false had rest at f = refl

module _ (β : Assignment) where
  trues_are : (n : ℕ) (vs : List ℕ) (v : ℕ) → any_passes (eqb v) (trues β n vs) ≡ (any_passes (eqb v) vs || (is_variable n v && β v))
  unfolding trues any_passes
  trues_are zero vs v = sym (rw (none_of_none v) (or-false (any_passes (eqb v) vs)))
  trues_are (suc n) vs v =
      let more = variable_more n v in
      by_cases (β (suc n))
      (λ e. rw e (trues_are n (suc n ∷ vs) v
      ∙ rw more (listed (eqb v (suc n)) (any_passes (eqb v) vs) (is_variable n v) (β v) (λ t. ap β (eqb-true v (suc n) t) ∙ e))))
      (λ e. rw e (trues_are n vs v ∙ rw more (unlisted (eqb v (suc n)) (any_passes (eqb v) vs) (is_variable n v) (β v) (λ t. ap β (eqb-true v (suc n) t) ∙ e))))

  -- where nothing else is true, the variables printed are the true ones
  pub printed_true : (n : ℕ) → ((v : ℕ) → is_variable n v ≡ false → β v ≡ false) → true_of (trues β n []) ≡ β
  unfolding any_passes
  printed_true n f = fun_ext (λ v. trues_are n [] v ∙ by_cases (is_variable n v) (λ t. rw t) (λ e. rw (e, f v e)))
