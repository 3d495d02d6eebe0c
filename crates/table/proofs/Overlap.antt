-- Parts that do not overlap have no more words than they lie in: each word lies in one of them at most, so the words of all parts are counted among the words.
use mathlib.Core.Path.{◌≡◌, refl, sym}
use mathlib.Core.Logic.{⊎_elim}
use mathlib.Core.Bool.{Bool, true, false, cond, ◌&&◌, ◌||◌}
use mathlib.Core.List.{List}
use Prim.Native.Nat.{ℕ, zero, suc, ◌+◌, ◌-◌, ◌≤◌, min}
use native.Mathlib.Omega.{arith}
use lib.Dec.{ltb, leb}
use borrow.Author.Tests.{ltb-true, ltb-false, leb-true, leb-false}
use Rattle.rules.specs.Lists.{any_passes}
use Rattle.rules.proofs.Lists.{by_cases, true-false, and_left, and_right}
use Rattle.table.specs.Facts.{All, none, both, Pairs, alone, ahead, total}
use Rattle.table.specs.Spelled.{Row, start_of, size, Inside, Clear}

-- ---- how many of the numbers below n pass a test

abbrev passing : (ℕ → Bool) → ℕ → ℕ
passing p zero = 0
passing p (suc n) = cond (p n) 1 0 + passing p n

passing_most : (p : ℕ → Bool) (n : ℕ) → passing p n ≤ n
passing_most p zero = omega arith
passing_most p (suc n) = by_cases (p n) (λ e. rw e (omega (arith, passing_most p n))) (λ e. rw e (omega (arith, passing_most p n)))

passing_none : (n : ℕ) → passing (λ w. false) n ≡ 0
passing_none zero = refl
passing_none (suc n) = omega (arith, passing_none n)

-- one of two tests that no number passes both of
passing_either : (p q : ℕ → Bool) → ((w : ℕ) → p w ≡ true → q w ≡ true → ⊥) → (n : ℕ) → passing (λ w. p w || q w) n ≡ passing p n + passing q n
passing_either p q never zero = refl
passing_either p q never (suc n) =
    let r = passing_either p q never n in
    by_cases (p n)
    (λ a. by_cases (q n) (λ b. absurd (never n a b)) (λ b. rw (a, b) (omega arith)))
    (λ a. by_cases (q n) (λ b. rw (a, b) (omega arith)) (λ b. rw (a, b) (omega arith)))

-- ---- the words of parts

abbrev lies_in : Row → ℕ → Bool
lies_in r w = leb (start_of r) w && ltb w (start_of r + size r)

passing_part : (r : Row) (n : ℕ) → passing (lies_in r) n ≡ min n (start_of r + size r) - min n (start_of r)
passing_part r zero = omega arith
passing_part r (suc n) =
    let i = passing_part r n in
    by_cases (leb (start_of r) n)
    (λ a. let x = leb-true (start_of r) n a in by_cases (ltb n (start_of r + size r))
    (λ b. let y = ltb-true n (start_of r + size r) b in rw (a, b) (omega arith))
    (λ b. let y = ltb-false n (start_of r + size r) b in rw (a, b) (omega arith)))
    (λ a. let x = leb-false (start_of r) n a in rw a (omega arith))

part_words : (r : Row) (n : ℕ) → Inside n r → passing (lies_in r) n ≡ size r
part_words r n h = omega (arith, passing_part r n)

-- no word lies in two
not_both : (r x : Row) → Clear r x → (w : ℕ) → lies_in r w ≡ true → lies_in x w ≡ true → ⊥
not_both r x c w a b =
    let p = leb-true (start_of r) w (and_left (leb (start_of r) w) _ a) in
    let q = ltb-true w (start_of r + size r) (and_right (leb (start_of r) w) _ a) in
    let s = leb-true (start_of x) w (and_left (leb (start_of x) w) _ b) in
    let t = ltb-true w (start_of x + size x) (and_right (leb (start_of x) w) _ b) in
    ⊎_elim
    (λ e. ⊎_elim (λ (z : size r ≡ 0). omega arith) (λ (z : size x ≡ 0). omega arith) e)
    (λ e. ⊎_elim (λ (z : start_of r + size r ≤ start_of x). omega arith) (λ (z : start_of x + size x ≤ start_of r). omega arith) e)
    c

abbrev in_some : List Row → ℕ → Bool
in_some rows w = any_passes (λ r. lies_in r w) rows

not_any : (r : Row) {rows : List Row} → All (Clear r) rows → (w : ℕ) → lies_in r w ≡ true → in_some rows w ≡ true → ⊥
unfolding any_passes
not_any r none w a b = true-false b refl
not_any r (both {x} {xs} c d) w a b = by_cases (lies_in x w) (λ e. not_both r x c w a e) (λ e. not_any r d w a (rw e at b))

-- ---- all of them

words_of_all : (n : ℕ) {rows : List Row} → All (Inside n) rows → Pairs Clear rows → total size rows ≡ passing (in_some rows) n
unfolding any_passes
words_of_all n none alone = sym (passing_none n)
words_of_all n (both {x} {xs} h a) (ahead c p) =
    omega (arith, words_of_all n a p, part_words x n h, passing_either (lies_in x) (in_some xs) (not_any x c) n)

pub apart_fit : (n : ℕ) {rows : List Row} → All (Inside n) rows → Pairs Clear rows → total size rows ≤ n
apart_fit n {rows} a p = omega (arith, words_of_all n a p, passing_most (in_some rows) n)
