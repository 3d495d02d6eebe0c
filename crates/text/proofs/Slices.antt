-- The part of a list from one place to before another: one element more, and two parts side by side.
use mathlib.Core.Path.{◌≡◌, sym, ap, ◌∙◌}
use mathlib.Core.List.{List, [], ◌∷◌, ◌++◌}
use Prim.Native.Nat.{ℕ, ◌+◌, ◌-◌, ◌≤◌, ◌<◌}
use native.Mathlib.Omega.{arith}
use native.Mathlib.Numerals.{add-one}
use lib.ListN.{length, get_or, take, drop, take-append-drop}
use lib.Seq.{slice, take-suc, take-take, drop-append-le, drop-drop, length-take-le}

pub slice_snoc : (f i : ℕ) (l : List ℕ) → f ≤ i → i < length l → slice f (i + 1) l ≡ slice f i l ++ (get_or l i 0 ∷ [])
slice_snoc f i l h k = rw (add-one, take-suc l i 0) (drop-append-le f (take i l) (get_or l i 0 ∷ []) (rw (length-take-le i l (omega arith)) h))

pub slice_join : (f i j : ℕ) (l : List ℕ) → f ≤ i → i ≤ j → j ≤ length l → slice f i l ++ slice i j l ≡ slice f j l
slice_join f i j l h k m =
    sym (drop-append-le f (take i l) (drop i (take j l)) (rw (length-take-le i l (omega arith)) h))
    ∙ ap (λ x. drop f (x ++ drop i (take j l))) (sym (take-take i j l k))
    ∙ ap (drop f) (take-append-drop i (take j l))

-- what is left from a place on: a part of it, and what is left behind that
pub slice_drop : (i j : ℕ) (l : List ℕ) → i ≤ j → j ≤ length l → drop i l ≡ slice i j l ++ drop j l
slice_drop i j l h k =
    ap (drop i) (sym (take-append-drop j l)) ∙ drop-append-le i (take j l) (drop j l) (rw (length-take-le j l k) h)

-- two lists that agree from a place on agree from any later one on
pub drop_further : (i j : ℕ) (l m : List ℕ) → i ≤ j → drop i l ≡ drop i m → drop j l ≡ drop j m
drop_further i j l m h e =
    let n : i + (j - i) ≡ j = omega arith in
    rw (← n, ← drop-drop (j - i) i l, ← drop-drop (j - i) i m, e)
