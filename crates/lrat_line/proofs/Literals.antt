-- A number among the literals: a literal in range goes behind those that are kept, where there is room; else a number of refusal is noted.
use mathlib.Core.Path.{◌≡◌, refl, ◌∙◌}
use mathlib.Core.Bool.{Bool, true, false}
use mathlib.Core.List.{List, [], ◌∷◌, ◌++◌}
use Prim.Native.Nat.{ℕ, zero, suc, ◌+◌, ◌≤◌, ◌<◌}
use native.Mathlib.Omega.{arith}
use native.Mathlib.Numerals.{add-one}
use lib.IntN.{ℤ, pos, negsuc}
use lib.ListN.{take, set, length-set}
use lib.Seq.{take-suc-set}
use mir.Syntax.{w32}
use mir.Val.{SFits}
use mir.Facts.{to_z-of_z}
use borrow.Author.Tests.{ltb-true, lt-ltb}
use Rattle.rules.specs.Lists.{all_pass}
use Rattle.rules.specs.Terms.{in_range}
use Rattle.rules.proofs.Lists.{all_nil, all_cons, all_append}
use Rattle.lit.proofs.Signed.{back, wider}
use Rattle.text_numbers.specs.Told.{with_sign}
use Rattle.lrat.specs.Kept.{Keeps}
use Rattle.lrat.specs.Machine.{in_phase}
use Rattle.lrat.specs.declared.ProofLine.{ProofLine}
use Rattle.lrat_line.specs.Lines.{LiteralTaken}

-- ---- a number with its sign as a literal

module _ (vars : ℕ) where
  sign_inside : (minus : Bool) (v : ℕ) → (v ≡ 0 → ⊥) → v ≤ vars → in_range vars (with_sign minus v) ≡ true
  sign_inside minus zero n h = absurd (n refl)
  sign_inside true (suc k) n h = lt-ltb k vars (omega arith)
  sign_inside false (suc k) n h = lt-ltb k vars (omega arith)

-- a literal fits its word
literal_fits : (l : ℤ) → in_range 2048 l ≡ true → SFits w32 l
literal_fits (pos zero) h = record { sfits = omega arith }
literal_fits (pos (suc n)) h = record { sfits = omega (arith, ltb-true n 2048 h) }
literal_fits (negsuc n) h = record { sfits = omega (arith, ltb-true n 2048 h) }

-- ---- what is taken

module _ (vars : ℕ) (minus : Bool) (v : ℕ) (l : ProofLine) (lits : List ℤ) (k : Keeps l lits) {e : ProofLine} (d : e ≡ in_phase 2 l) where
  module _ (some : v ≡ 0 → ⊥) (within : v ≤ vars) where
    inside : in_range vars (with_sign minus v) ≡ true
    inside = sign_inside vars minus v some within

    -- the line with it
    module _ (n : l.count ≡ 256 → ⊥) (small : vars ≤ 2048) where
      abbrev kept : List ℤ
      kept = take l.count lits ++ (with_sign minus v ∷ [])

      room : l.count < 256
      room = omega (arith, n, k.few)

      one_more : take (l.count + 1) (set lits l.count (with_sign minus v)) ≡ kept
      one_more = rw add-one (take-suc-set lits l.count (with_sign minus v) (omega (arith, room, k.long)))

      fits : in_range 2048 (with_sign minus v) ≡ true
      fits = wider vars (with_sign minus v) small inside

      ranged : all_pass (in_range 2048) kept ≡ true
      ranged =
          all_append (in_range 2048) (take l.count lits) _ k.ranged
          (all_cons (in_range 2048) (with_sign minus v) [] fits (all_nil (in_range 2048)))

      pub kept_behind : {x : ℤ} → x ≡ with_sign minus v →
          LiteralTaken vars minus v l lits (record { phase = e.phase; noted = e.noted; id = e.id; count = l.count + 1; proof = e.proof })
          (set lits l.count (back x))
      kept_behind q =
          let t = inside in
          let m = lt-ltb l.count 256 room in
          let o = one_more in
          let b = to_z-of_z (literal_fits (with_sign minus v) fits) in
          rw (q, b, d) (record {
            keeps = record { long = length-set lits l.count (with_sign minus v) ∙ k.long; few = omega (arith, room); ranged = rw o ranged };
            taken = λ F. rw (t, m, o);
          })
