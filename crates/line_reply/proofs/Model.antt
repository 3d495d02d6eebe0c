-- The true variables of a model, rising: one after the other, and none where no bit is left of a word.
use mathlib.Core.Path.{◌≡◌, refl, sym, ap, ◌∙◌}
use mathlib.Core.Bool.{true, false, cond}
use mathlib.Core.List.{List, [], ◌∷◌, ◌++◌, append_assoc, append-nil}
use Prim.Native.Nat.{ℕ, zero, suc, ◌+◌, ◌-◌, ◌*◌, ◌/◌, ◌%◌, ◌^◌, ◌≤◌, ◌<◌}
use native.Mathlib.Omega.{arith}
use native.Mathlib.Numerals.{add-one}
use native.Mathlib.Nat.{add-zero, add-suc}
use lib.ListN.{length, get_or}
use lib.Pow.{shr-shr}
use lib.Dec.{eqb}
use borrow.Author.Tests.{eq-eqb, ne_eqb}
use Rattle.rules.specs.Terms.{Assignment}
use Rattle.rules.specs.Outcomes.{trues}
use Rattle.rules.proofs.Lists.{by_cases}
use Rattle.lit_sets.specs.Words.{bit, assigned}
use Rattle.lit_sets.proofs.Bits.{bit_none}
use Rattle.line_hex.specs.Hex.{hex}
use Rattle.line_read.specs.Lines.{in_hex}
use Rattle.line_read.specs.Lent.{Wrote}
use Rattle.line_read.proofs.Replies.{spelled_length, trues_few}
use Rattle.line_put.proofs.Writing.{wrote_none, wrote_then, wrote_as}

spelled_append : (vs ws : List ℕ) → in_hex (vs ++ ws) ≡ in_hex vs ++ in_hex ws
unfolding in_hex
spelled_append [] ws = refl
spelled_append (v ∷ vs) ws = ap (λ l. hex 8 v ++ l) (spelled_append vs ws) ∙ sym (append_assoc (hex 8 v) (in_hex vs) (in_hex ws))

module _ (α : Assignment) where
  trues_onto : (n : ℕ) (vs ws : List ℕ) → trues α n (vs ++ ws) ≡ trues α n vs ++ ws
  unfolding trues
  trues_onto zero vs ws = refl
  trues_onto (suc n) vs ws = by_cases (α (suc n)) (λ e. rw e (trues_onto n (suc n ∷ vs) ws)) (λ e. rw e (trues_onto n vs ws))

  -- one variable more that is true
  trues_more : (n : ℕ) → α (n + 1) ≡ true → in_hex (trues α (n + 1) []) ≡ in_hex (trues α n []) ++ hex 8 (n + 1)
  unfolding trues in_hex
  trues_more n e = let k : α (suc n) ≡ true = rw (← add-one n) e in
      rw add-one
      (ap (λ b. in_hex (trues α n (cond b (suc n ∷ []) []))) k
      ∙ ap in_hex (trues_onto n [] (suc n ∷ []))
      ∙ spelled_append (trues α n []) (suc n ∷ [])
      ∙ ap (λ l. in_hex (trues α n []) ++ l) (append-nil (hex 8 (suc n))))

  -- none of the next k is true
  pub trues_past : (n k : ℕ) → ((v : ℕ) → n < v → v ≤ n + k → α v ≡ false) → trues α (n + k) [] ≡ trues α n []
  unfolding trues
  trues_past n zero f = rw add-zero
  trues_past n (suc k) f =
      rw (add-suc n k)
      (ap (λ b. trues α (n + k) (cond b (suc (n + k) ∷ []) [])) (f (suc (n + k)) (omega arith) (omega arith)) ∙ trues_past n k (λ v h m. f v h (omega arith)))

-- bit b of word k as the code reads it
bit_read : (ws : List ℕ) (k b : ℕ) → b < 64 → assigned ws (64 * k + b + 1) ≡ eqb (get_or ws k 0 / 2 ^ b % 2) 1
unfolding assigned bit
bit_read ws k b h =
    let q : (64 * k + b) / 64 ≡ k = omega arith in
    let r : (64 * k + b) % 64 ≡ b = omega arith in
    rw (add-one, q, r)

-- where no bit is left of a word, none of its other variables is true
word_past : (ws : List ℕ) (k b : ℕ) → get_or ws k 0 / 2 ^ b ≡ 0 → (v : ℕ) → 64 * k + b < v → v ≤ 64 * k + 64 → assigned ws v ≡ false
unfolding assigned bit
word_past ws k b e zero h m = absurd (omega arith)
word_past ws k b e (suc n) h m =
    let rest = n - (64 * k + b) in
    let q : n / 64 ≡ k = omega arith in
    let r : n % 64 ≡ b + rest = omega arith in
    rw (q, r, ← shr-shr (get_or ws k 0) b rest, e) (bit_none rest)

-- ---- the loop over the variables

-- those of 1 to i are written
pub record Spelling (o : List ℕ) (at : ℕ) (ws o' : List ℕ) (a i : ℕ) : Type 0 where
  pub few : i ≤ 2048
  pub size : length o' ≡ length o
  pub wrote : Wrote o at (in_hex (trues (assigned ws) i [])) o' a

pub spelling_start : (o : List ℕ) (at : ℕ) (ws : List ℕ) → Spelling o at ws o at 0
unfolding trues in_hex
spelling_start o at ws = record { few = omega arith; size = refl; wrote = wrote_none o at }

-- room for the true variables of 1 to n
pub model_room : {o : List ℕ} {at : ℕ} (α : Assignment) (n : ℕ) {o' : List ℕ} {a : ℕ} → Wrote o at (in_hex (trues α n [])) o' a → a ≤ at + 8 * n
model_room α n w = omega (arith, w.place, spelled_length (trues α n []), trues_few α n [])

-- of word k those before bit b are written, and bit b is looked at
module _ {o : List ℕ} {at : ℕ} {ws o' : List ℕ} {a : ℕ} (k b : ℕ) (w : Spelling o at ws o' a (64 * k + b)) (h : k < 32) (m : b < 64) where
  next : 64 * k + (b + 1) ≡ 64 * k + b + 1
  next = omega arith

  pub spelling_room : a + 8 ≤ at + 16384
  spelling_room = omega (arith, model_room (assigned ws) (64 * k + b) w.wrote)

  pub spelling_true : {o₂ : List ℕ} {a₂ : ℕ} → get_or ws k 0 / 2 ^ b % 2 ≡ 1 → length o₂ ≡ length o' → Wrote o' a (hex 8 (64 * k + b + 1)) o₂ a₂
      → Spelling o at ws o₂ a₂ (64 * k + (b + 1))
  spelling_true e l p = rw next record {
    few = omega arith;
    size = l ∙ w.size;
    wrote = wrote_as (sym (trues_more (assigned ws) (64 * k + b) (bit_read ws k b m ∙ eq-eqb _ 1 e))) (wrote_then w.wrote p);
  }

  -- n variables that are false
  past : (n : ℕ) → b + n ≤ 64 → ((v : ℕ) → 64 * k + b < v → v ≤ 64 * k + b + n → assigned ws v ≡ false) → Spelling o at ws o' a (64 * k + b + n)
  past n l f = record { few = omega arith; size = w.size; wrote = wrote_as (ap in_hex (sym (trues_past (assigned ws) (64 * k + b) n f))) w.wrote }

  pub spelling_false : (get_or ws k 0 / 2 ^ b % 2 ≡ 1 → ⊥) → Spelling o at ws o' a (64 * k + (b + 1))
  spelling_false n = rw next (past 1 (omega arith) (λ v l u. let e : v ≡ 64 * k + b + 1 = omega arith in rw e (bit_read ws k b m ∙ ne_eqb _ 1 n)))

  pub spelling_past : get_or ws k 0 / 2 ^ b ≡ 0 → Spelling o at ws o' a (64 * (k + 1))
  spelling_past e =
      let n : 64 * (k + 1) ≡ 64 * k + b + (64 - b) = omega arith in
      rw n (past (64 - b) (omega arith) (λ v l u. word_past ws k b e v l (omega arith)))
