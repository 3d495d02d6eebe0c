-- The assignment that words hold: when one bit is turned over, when none is set, and that it fixes the words.
use mathlib.Core.Path.{◌≡◌, refl, sym, ap, ap₂, ◌∙◌, fun_ext}
use mathlib.Core.Bool.{Bool, true, false, not, xor, beq, true≢false, false≢true}
use mathlib.Core.List.{List}
use Prim.Native.Nat.{ℕ, zero, suc, ◌+◌, ◌-◌, ◌*◌, ◌/◌, ◌%◌, ◌^◌, ◌≤◌, ◌<◌}
use native.Mathlib.Omega.{arith}
use lib.ListN.{length, get_or, set, replicate}
use lib.Seq.{get_or-set_same, get_or-set_other, ext_get_or}
use lib.Dec.{eqb, eqb-suc-suc, eqb-suc-zero}
use lib.Pow.{shl_exact}
use lib.Bits.{bit_xor}
use borrow.Author.Tests.{eq-eqb, ne_eqb, eqb-true, eqb-false}
use Rattle.rules.specs.Terms.{Assignment, upd}
use Rattle.rules.specs.Answers.{unseen}
use Rattle.rules.proofs.Lists.{by_cases}
use Rattle.lit_sets.specs.Words.{bit, assigned}
use Rattle.lit_sets.proofs.Bits.{xor_bit, bit_none, bit_power, bits_fixed}

-- ---- one bit turned over

xor_false : (b : Bool) → xor b false ≡ b
unfolding xor
xor_false true = refl
xor_false false = refl

xor_true : (b : Bool) → xor b true ≡ not b
unfolding xor
xor_true true = refl
xor_true false = refl

-- two variables of one word
same_word : (i m : ℕ) → m / 64 ≡ i / 64 → eqb (i % 64) (m % 64) ≡ eqb i m
same_word i m e = by_cases (eqb i m)
    (λ t. let q = eqb-true i m t in rw (t, eq-eqb (i % 64) (m % 64) (ap (λ x. x % 64) q)))
    (λ f. rw (f, ne_eqb (i % 64) (m % 64) (λ q. eqb-false i m f (omega arith))))

-- bit i of the words, turned over
abbrev turned : List ℕ → ℕ → List ℕ
turned ws i = set ws (i / 64) (bit_xor (get_or ws (i / 64) 0) (2 ^ (i % 64)))

turned_bit : (ws : List ℕ) (i m : ℕ) → i / 64 < length ws → bit (get_or (turned ws i) (m / 64) 0) (m % 64) ≡ xor (bit (get_or ws (m / 64) 0) (m % 64)) (eqb i m)
turned_bit ws i m h = by_cases (eqb (m / 64) (i / 64))
    (λ t.
    let q = eqb-true (m / 64) (i / 64) t in
    let s = get_or-set_same ws (i / 64) (bit_xor (get_or ws (i / 64) 0) (2 ^ (i % 64))) 0 h in
    rw (q, s, xor_bit (get_or ws (i / 64) 0) (2 ^ (i % 64)) (m % 64), bit_power (i % 64) (m % 64), same_word i m q))
    (λ f.
    let n = eqb-false (m / 64) (i / 64) f in
    let s = get_or-set_other ws (i / 64) (m / 64) (bit_xor (get_or ws (i / 64) 0) (2 ^ (i % 64))) 0 n in
    rw (s, ne_eqb i m (λ q. n (ap (λ x. x / 64) (sym q)))) (sym (xor_false _)))

-- at every variable
turned_at : (ws : List ℕ) (i u : ℕ) → i / 64 < length ws → assigned (turned ws i) u ≡ xor (assigned ws u) (eqb (suc i) u)
unfolding assigned
turned_at ws i zero h = let e = eqb-suc-zero i in rw (e, xor_false false)
turned_at ws i (suc m) h = let e = eqb-suc-suc i m in rw e (turned_bit ws i m h)

-- the variable with the other value, and no other, is turned over
upd_turns : (α : Assignment) (v : ℕ) (b : Bool) → not (α v) ≡ b → (u : ℕ) → xor (α u) (eqb v u) ≡ upd α v b u
unfolding upd
upd_turns α v b e u = by_cases (eqb v u)
    (λ t. let q = eqb-true v u t in rw (t, ← q, xor_true (α v)) e)
    (λ f. rw (f, xor_false (α u)))

pub upd_same : (α : Assignment) (v : ℕ) (b : Bool) → α v ≡ b → α ≡ upd α v b
unfolding upd
upd_same α v b e = fun_ext (λ u. by_cases (eqb v u) (λ t. let q = eqb-true v u t in rw (t, ← q) e) (λ f. rw f))

-- ---- in the code's form

pub read_is : (ws : List ℕ) (v : ℕ) → 1 ≤ v → eqb (get_or ws ((v - 1) / 64) 0 / 2 ^ ((v - 1) % 64) % 2) 1 ≡ assigned ws v
unfolding assigned bit
read_is ws zero h = absurd (omega arith)
read_is ws (suc i) h = let e : suc i - 1 ≡ i = omega arith in rw e

pub beq_true : (a b : Bool) → beq a b ≡ true → a ≡ b
beq_true true true e = refl
beq_true true false e = absurd (false≢true e)
beq_true false true e = absurd (false≢true e)
beq_true false false e = refl

pub beq_false : (a b : Bool) → beq a b ≡ false → not a ≡ b
beq_false true true e = absurd (true≢false e)
beq_false true false e = refl
beq_false false true e = refl
beq_false false false e = absurd (true≢false e)

pub turned_is : (ws : List ℕ) (v : ℕ) (b : Bool) → 1 ≤ v → (v - 1) / 64 < length ws → not (assigned ws v) ≡ b
    → assigned (set ws ((v - 1) / 64) (bit_xor (get_or ws ((v - 1) / 64) 0) (1 * 2 ^ ((v - 1) % 64) % 2 ^ 64))) ≡ upd (assigned ws) v b
turned_is ws zero b h l e = absurd (omega arith)
turned_is ws (suc i) b h l e =
    let p : suc i - 1 ≡ i = omega arith in
    let k : 1 * 2 ^ (i % 64) % 2 ^ 64 ≡ 2 ^ (i % 64) = shl_exact {a = 1} 1 (i % 64) 64 (omega arith) (omega arith) ∙ omega arith in
    rw (p, k) (fun_ext (λ u. turned_at ws i u (omega arith) ∙ upd_turns (assigned ws) (suc i) b e u))

-- ---- no bit set

pub zeros_unset : assigned (replicate 32 0) ≡ unseen
unfolding assigned
zeros_unset = fun_ext at
  where
    no_word : (n j : ℕ) → ◌≡◌ {A = ℕ} (get_or (replicate n 0) j 0) 0
    no_word zero j = refl
    no_word (suc n) zero = refl
    no_word (suc n) (suc j) = no_word n j

    at : (v : ℕ) → assigned (replicate 32 0) v ≡ false
    at zero = refl
    at (suc i) = ap (λ (w : ℕ). bit w (i % 64)) (no_word 32 (i / 64)) ∙ bit_none (i % 64)

-- ---- the words are fixed

-- bit k of word j
pub at_word : (ws : List ℕ) (j k : ℕ) → k < 64 → assigned ws (suc (64 * j + k)) ≡ bit (get_or ws j 0) k
unfolding assigned
at_word ws j k h = ap₂ (λ (q r : ℕ). bit (get_or ws q 0) r) (omega arith) (omega arith)

-- two arrays that hold the same assignment are the same
pub words_fixed : (n : ℕ) (xs ys : List ℕ) → length xs ≡ n → length ys ≡ n → ((j : ℕ) → j < n → get_or xs j 0 < 2 ^ 64) → ((j : ℕ) → j < n → get_or ys j 0 < 2 ^ 64)
    → assigned xs ≡ assigned ys → xs ≡ ys
words_fixed n xs ys lx ly fx fy e = ext_get_or 0 xs ys (lx ∙ sym ly) λ j h.
    bits_fixed 64 (get_or xs j 0) (get_or ys j 0) (fx j (omega arith)) (fy j (omega arith)) λ k l.
    sym (at_word xs j k l) ∙ ap (λ (α : Assignment). α (suc (64 * j + k))) e ∙ at_word ys j k l
