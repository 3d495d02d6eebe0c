-- Bytes fed after bytes: line, state and whether a line was an accepted change, on and on.
use mathlib.Core.Path.{◌≡◌, refl, sym, ap, ap₂, ◌∙◌}
use mathlib.Core.Bool.{Bool, false, ◌||◌}
use mathlib.Core.List.{List, [], ◌++◌}
use Prim.Native.Nat.{ℕ, ◌+◌, ◌≤◌, ◌<◌}
use native.Mathlib.Omega.{arith}
use lib.ListN.{length, take, drop, length-drop}
use lib.Seq.{slice}
use Rattle.rules.specs.Terms.{State}
use Rattle.line_read.specs.Machine.{Line, Session}
use Rattle.line_read.specs.Parts.{closes, line_after, state_after, some_alters, largest_reply}
use Rattle.line_read.specs.Lent.{LinesFed}
use Rattle.text.proofs.Slices.{slice_join}
use Rattle.line_read.proofs.Parts.{run_by_lines, closes_append, line_append, state_append, alters_append, taken_le, taken_least}

-- the bytes made l' of the line l, s' of the state s, and a line of them was an accepted change or not
pub record After (bs : List ℕ) (l : Line) (s : State) (l' : Line) (s' : State) (altered : Bool) : Type 0 where
  pub line : l' ≡ line_after l bs
  pub state : s' ≡ state_after s (closes l bs)
  pub told : altered ≡ some_alters s (closes l bs)

pub after_none : (l : Line) (s : State) → After [] l s l s false
unfolding closes line_after state_after some_alters
after_none l s = record { line = refl; state = refl; told = refl }

pub after_both : {bs cs : List ℕ} {l l₁ l₂ : Line} {s s₁ s₂ : State} {a b now : Bool} → After bs l s l₁ s₁ a → After cs l₁ s₁ l₂ s₂ b → now ≡ (a || b) →
    After (bs ++ cs) l s l₂ s₂ now
after_both {bs} {cs} {l} {l₁} {s} {s₁} p q either =
    let lines = closes_append bs cs l ∙ ap (λ x. closes l bs ++ closes x cs) (sym p.line) in
    record {
      line = q.line ∙ ap (λ x. line_after x cs) p.line ∙ sym (line_append bs cs l);
      state = q.state ∙ ap (λ x. state_after x (closes l₁ cs)) p.state ∙ sym (state_append (closes l bs) (closes l₁ cs) s) ∙ ap (state_after s) (sym lines);
      told =
          either ∙ ap₂ (λ x y. x || y) p.told (q.told ∙ ap (λ x. some_alters x (closes l₁ cs)) p.state)
          ∙ sym (alters_append (closes l bs) (closes l₁ cs) s) ∙ ap (some_alters s) (sym lines);
    }

-- ---- one call of feed more, on what is left of the part

module _ {part : List ℕ} {i i' : ℕ} {r r' : Session} {out out' : List ℕ} {a' : ℕ} (f : LinesFed part i i' r r' out out' a') (h : i ≤ length part) where
  pub fed_high : i' ≤ length part
  fed_high = omega (arith, f.taken, taken_le (drop i part) (length out) r, length-drop i part)

  fed_low : i ≤ i'
  fed_low = omega (arith, f.taken)

  -- with room for one answer a byte is taken
  pub fed_onward : i < length part → length r.out + largest_reply ≤ length out → i < i'
  fed_onward less room = omega (arith, f.taken, taken_least (length out) r (drop i part) room (omega (arith, length-drop i part)))

  fed_after : {b : Bool} → b ≡ some_alters r.state (closes r.line (slice i i' part)) →
      After (slice i i' part) r.line r.state r'.line r'.state b
  fed_after told =
      let e = f.moved ∙ run_by_lines (slice i i' part) r in
      record { line = ap (λ (x : Session). x.line) e; state = ap (λ (x : Session). x.state) e; told = told }

  pub fed_more : {l₀ : Line} {s₀ : State} {a b now : Bool} → After (take i part) l₀ s₀ r.line r.state a →
      b ≡ some_alters r.state (closes r.line (slice i i' part)) → now ≡ (a || b) →
      After (take i' part) l₀ s₀ r'.line r'.state now
  fed_more p told either = rw (slice_join 0 i i' part (omega arith) fed_low fed_high) at (after_both p (fed_after told) either)
