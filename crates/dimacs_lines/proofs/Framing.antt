-- A frame's words, written one after the other.
use mathlib.Core.Path.{◌≡◌, refl, sym, ap, ◌∙◌}
use mathlib.Core.List.{List, [], ◌∷◌, ◌++◌, append_assoc, append-nil}
use Prim.Native.Nat.{ℕ, ◌+◌, ◌*◌, ◌≤◌, ◌<◌}
use native.Mathlib.Omega.{arith}
use native.Mathlib.Numerals.{add-one}
use lib.IntN.{ℤ, pos}
use lib.ListN.{length, get_or, take, length-append}
use lib.Seq.{take-suc, length-take-le}
use mir.Syntax.{w32}
use mir.Val.{SFits, to_z, of_z}
use mir.Facts.{to_z-of_z}
use Rattle.line_hex.specs.Hex.{unsigned, hex}
use Rattle.line_hex.proofs.Digits.{hex_length}
use Rattle.line_read.specs.Lent.{Wrote}
use Rattle.line_put.proofs.Writing.{wrote_none, wrote_then, wrote_as}
use Rattle.dimacs_lines.specs.Lines.{words_in_hex}

pub words_length : (ws : List ℤ) → length (words_in_hex ws) ≡ 8 * length ws
unfolding words_in_hex
words_length [] = refl
words_length (w ∷ ws) = omega (arith, length-append (hex 8 (unsigned w)) (words_in_hex ws), hex_length 8 (unsigned w), words_length ws)

pub words_append : (vs ws : List ℤ) → words_in_hex (vs ++ ws) ≡ words_in_hex vs ++ words_in_hex ws
unfolding words_in_hex
words_append [] ws = refl
words_append (v ∷ vs) ws =
    ap (λ l. hex 8 (unsigned v) ++ l) (words_append vs ws) ∙ sym (append_assoc (hex 8 (unsigned v)) (words_in_hex vs) (words_in_hex ws))

-- one word more
words_more : (ws : List ℤ) (i : ℕ) → i < length ws →
    words_in_hex (take (i + 1) ws) ≡ words_in_hex (take i ws) ++ hex 8 (unsigned (get_or ws i (pos 0)))
unfolding words_in_hex
words_more ws i h =
    let w = get_or ws i (pos 0) in
    rw (add-one, take-suc ws i (pos 0) h)
    (words_append (take i ws) (w ∷ []) ∙ ap (λ l. words_in_hex (take i ws) ++ l) (append-nil (hex 8 (unsigned w))))

-- ---- the loop over the words

-- the first i are written
pub record Framing (o : List ℕ) (at : ℕ) (ws : List ℤ) (o' : List ℕ) (a i : ℕ) : Type 0 where
  pub few : i ≤ length ws
  pub size : length o' ≡ length o
  pub wrote : Wrote o at (words_in_hex (take i ws)) o' a

pub framing_start : (o : List ℕ) (at : ℕ) (ws : List ℤ) → Framing o at ws o at 0
unfolding words_in_hex
framing_start o at ws = record { few = omega arith; size = refl; wrote = wrote_none o at }

module _ {o : List ℕ} {at : ℕ} {ws : List ℤ} {o' : List ℕ} {a i : ℕ} (f : Framing o at ws o' a i) where
  pub framing_place : a ≡ at + 8 * i
  framing_place = omega (arith, f.few, f.wrote.place, words_length (take i ws), length-take-le i ws f.few)

  -- the next word is read as its bits
  pub framing_more : {n : ℕ} {o₂ : List ℕ} {a₂ : ℕ} → i < length ws → SFits w32 (get_or ws i (pos 0))
      → n ≡ unsigned (to_z w32 (of_z w32 (get_or ws i (pos 0)))) → length o₂ ≡ length o' → Wrote o' a (hex 8 n) o₂ a₂ → Framing o at ws o₂ a₂ (i + 1)
  framing_more h s e k p = record {
    few = omega arith;
    size = k ∙ f.size;
    wrote = wrote_as (ap (λ m. words_in_hex (take i ws) ++ hex 8 m) (e ∙ ap unsigned (to_z-of_z s)) ∙ sym (words_more ws i h)) (wrote_then f.wrote p);
  }
