-- Cleanness, read from either side.
use mathlib.Core.Path.{◌≡◌, refl, ◌∙◌, ap}
use mathlib.Core.Bool.{Bool, true, not, false≢true}
use mathlib.Core.List.{List, [], ◌∷◌, Memᴰ}
use Prim.Native.Nat.{zero, suc}
use lib.IntN.{ℤ, pos, negsuc}
use Rattle.rules.specs.Lists.{any_passes, all_pass}
use Rattle.rules.specs.Terms.{holds, opposes, clean}
use Rattle.rules.proofs.Lists.{by_cases, true-false, any_in, any_find}
use Rattle.rules.proofs.Literals.{holds_in, in_holds}

-- where a list holds the opposite of a literal of c, c holds the opposite of a literal of the list
opposed_back : (c w : List ℤ) (l : ℤ) → Memᴰ l c → opposes (holds w) l ≡ true → any_passes (opposes (holds c)) w ≡ true
opposed_back c w (pos zero) m h = absurd (false≢true h)
opposed_back c w (pos (suc n)) m h = any_in (opposes (holds c)) (in_holds w (negsuc n) h) (holds_in m)
opposed_back c w (negsuc n) m h = any_in (opposes (holds c)) (in_holds w (pos (suc n)) h) (holds_in m)

turned_round : (c w : List ℤ) → any_passes (opposes (holds w)) c ≡ true → any_passes (opposes (holds c)) w ≡ true
turned_round c w h = let r = any_find (opposes (holds w)) c h in opposed_back c w r.0 r.1 r.2

either_side : (c w : List ℤ) → any_passes (opposes (holds w)) c ≡ any_passes (opposes (holds c)) w
either_side c w = by_cases (any_passes (opposes (holds w)) c)
    (λ t. rw (t, turned_round c w t))
    (λ f. by_cases (any_passes (opposes (holds c)) w) (λ t. true-false (turned_round w c t) f) (λ g. rw (f, g)))

all_not : (p : ℤ → Bool) (c : List ℤ) → all_pass (λ l. not (p l)) c ≡ not (any_passes p c)
unfolding all_pass any_passes
all_not p [] = refl
all_not p (l ∷ c) = by_cases (p l) (λ t. rw t) (λ f. rw f (all_not p c))

-- a clause is clean against a witness that holds no literal whose opposite is in the clause
pub clean_is : (c w : List ℤ) → clean c w ≡ not (any_passes (opposes (holds c)) w)
clean_is c w = all_not (opposes (holds w)) c ∙ ap not (either_side c w)
