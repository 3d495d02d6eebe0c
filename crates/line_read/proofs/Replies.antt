-- A reply: its length, and the room that it takes.
use mathlib.Core.Path.{◌≡◌, refl}
use mathlib.Core.Bool.{Bool, true, false, cond}
use mathlib.Core.List.{List, [], ◌∷◌, ◌++◌}
use Prim.Native.Nat.{ℕ, zero, suc, ◌+◌, ◌*◌, ◌≤◌}
use native.Mathlib.Omega.{arith}
use lib.ListN.{length, length-append}
use Rattle.rules.specs.Terms.{Assignment}
use Rattle.rules.specs.Answers.{numbers, Handed, untouched, mended, Outcome}
use Rattle.rules.specs.Outcomes.{trues}
use Rattle.std.specs.Prelude.{Err}
use Rattle.rules.specs.Results.{Answer}
use Rattle.rules.specs.declared.Fault.TheVariants.{Malformed}
use Rattle.rules.proofs.Lists.{by_cases}
use Rattle.line_hex.specs.Hex.{hex}
use Rattle.line_hex.proofs.Digits.{hex_length}
use Rattle.line_read.specs.Lines.{in_hex, numbered, following, reply, refusal}
use Rattle.line_read.specs.Machine.{is_begun, end_reply}
use Rattle.line_read.specs.Lent.{Wrote}

pub numbered_length : (a : Answer) → length (numbered a) ≡ 16
unfolding numbered
numbered_length a = omega (arith, length-append (hex 8 (numbers a).0) (hex 8 (numbers a).1), hex_length 8 (numbers a).0, hex_length 8 (numbers a).1)

-- the place behind code and detail
pub numbered_end : {o : List ℕ} {at : ℕ} (x : Answer) {o' : List ℕ} {a : ℕ} → Wrote o at (numbered x) o' a → a ≡ at + 16
numbered_end x w = omega (arith, w.place, numbered_length x)

pub spelled_length : (vs : List ℕ) → length (in_hex vs) ≡ 8 * length vs
unfolding in_hex
spelled_length [] = refl
spelled_length (v ∷ vs) = omega (arith, length-append (hex 8 v) (in_hex vs), hex_length 8 v, spelled_length vs)

pub trues_few : (α : Assignment) (n : ℕ) (vs : List ℕ) → length (trues α n vs) ≤ n + length vs
unfolding trues
trues_few α zero vs = omega arith
trues_few α (suc n) vs = by_cases (α (suc n)) (λ e. rw e (omega (arith, trues_few α n (suc n ∷ vs)))) (λ e. rw e (omega (arith, trues_few α n vs)))

-- room for any reply
pub reply_room : {o : List ℕ} {at : ℕ} (vars : ℕ) (r : Outcome) {o' : List ℕ} {a : ℕ} → vars ≤ 2048 → Wrote o at (reply vars r) o' a → a ≤ at + 16401
reply_room vars r h w =
    let vs = following vars r.handed in
    omega (
      arith,
      w.place,
      length-append (numbered r.answer) (in_hex vs ++ (10 ∷ [])),
      length-append (in_hex vs) (10 ∷ []),
      numbered_length r.answer,
      spelled_length vs,
      few r.handed,
    )
  where
    few : (h : Handed) → length (following vars h) ≤ vars
    few untouched = omega arith
    few (mended α β) = omega (arith, trues_few β vars [])

-- and for what the end of the input is answered
pub ended_room : {o : List ℕ} {at : ℕ} (d : ℕ) (spoilt : Bool) {o' : List ℕ} {a : ℕ} → Wrote o at (end_reply d spoilt) o' a → a ≤ at + 17
unfolding in_hex
ended_room d spoilt w = omega (arith, w.place, few (is_begun d spoilt))
  where
    few : (begun : Bool) → length (cond begun refusal []) ≤ 17
    few true = omega (arith, length-append (numbered (Err Malformed)) (10 ∷ []), numbered_length (Err Malformed))
    few false = omega arith
