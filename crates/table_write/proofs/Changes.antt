-- What each accepted frame does to the entries and to the stack's ids is what the paper says of the state.
use mathlib.Core.Path.{◌≡◌, refl, ◌∙◌}
use mathlib.Core.List.{List, [], ◌∷◌, ◌++◌}
use Prim.Native.Nat.{ℕ, ◌<◌}
use lib.IntN.{ℤ}
use Rattle.rules.specs.Terms.{State}
use Rattle.rules.specs.Frames.{ADD, LEARN, FORGET, PROMOTE, DROP, WEAKEN, RESTORE, next}
use Rattle.table.specs.Facts.{All}
use Rattle.table.specs.Spelled.{Listed, InPlace}
use Rattle.table.proofs.Refits.{state_of}
use Rattle.table.proofs.Entries.{entry_of, spell, spell_unseen, spell_comes, spell_goes, fetch_here, has_here}
use Rattle.table.proofs.Stacked.{listed_fetch, records_push, records_leave}

module _ (v hi n m : ℕ) (es fs : List InPlace) (ids : List ℕ) (i : ℕ) (c : List ℤ) (b : All (λ a. a.what.id < i) es) (a : All (λ a. i < a.what.id) fs) where
  -- the clause as it stands in each place
  abbrev irr : InPlace
  irr = entry_of 0 i c []

  abbrev lrn : InPlace
  lrn = entry_of 1 i c []

  abbrev before : State
  before = state_of v hi n m (es ++ fs) ids

  abbrev with_irr : State
  with_irr = state_of v hi n m (es ++ irr ∷ fs) ids

  abbrev with_lrn : State
  with_lrn = state_of v hi n m (es ++ lrn ∷ fs) ids

  pub added : state_of v i n m (es ++ irr ∷ fs) ids ≡ next before (ADD i c)
  added =
      let p = spell_comes 0 irr refl es fs b a in
      let q = spell_unseen 1 irr refl es fs in
      let r = spell_unseen 2 irr refl es fs in
      rw (p, q, r)

  pub learnt : (hints : List ℤ) → state_of v i n m (es ++ lrn ∷ fs) ids ≡ next before (LEARN i c hints)
  learnt hints =
      let p = spell_comes 1 lrn refl es fs b a in
      let q = spell_unseen 0 lrn refl es fs in
      let r = spell_unseen 2 lrn refl es fs in
      rw (p, q, r)

  pub forgotten : before ≡ next with_lrn (FORGET i)
  forgotten =
      let p = spell_goes 1 lrn refl es fs b in
      let q = spell_unseen 0 lrn refl es fs in
      let r = spell_unseen 2 lrn refl es fs in
      rw (q, r, ← p)

  pub dropped : (hints : List ℤ) → before ≡ next with_irr (DROP i hints)
  dropped hints =
      let p = spell_goes 0 irr refl es fs b in
      let q = spell_unseen 1 irr refl es fs in
      let r = spell_unseen 2 irr refl es fs in
      rw (q, r, ← p)

  pub promoted : with_irr ≡ next with_lrn (PROMOTE i)
  promoted =
      let g = spell_goes 1 lrn refl es fs b in
      let h = fetch_here 1 lrn refl es fs b in
      let p = spell_comes 0 irr refl es fs b a in
      let q₀ = spell_unseen 0 lrn refl es fs in
      let q₁ = spell_unseen 1 irr refl es fs in
      let q₂ = spell_unseen 2 lrn refl es fs in
      let q₃ = spell_unseen 2 irr refl es fs in
      rw (h, q₀, q₁, q₂, q₃, ← g, p)

  module _ (w : List ℤ) where
    abbrev rec : InPlace
    rec = entry_of 2 i c w

    pub weakened : (groups : List ℤ) → Listed (spell 2 (es ++ fs)) ids → state_of v hi n m (es ++ rec ∷ fs) (i ∷ ids) ≡ next with_irr (WEAKEN i w groups)
    weakened groups l =
        let g = spell_goes 0 irr refl es fs b in
        let h = fetch_here 0 irr refl es fs b in
        let q₀ = spell_unseen 0 rec refl es fs in
        let q₁ = spell_unseen 1 rec refl es fs in
        let q₂ = spell_unseen 1 irr refl es fs in
        let q₃ = spell_unseen 2 irr refl es fs in
        let r = records_push es fs rec refl b a ids l in
        rw (h, ← g, q₀, q₁, q₂, q₃, r)

    pub restored : (xs ys : List ℕ) → Listed (spell 2 (es ++ rec ∷ fs)) (xs ++ i ∷ ys) →
        state_of v hi n m (es ++ irr ∷ fs) (xs ++ ys) ≡ next (state_of v hi n m (es ++ rec ∷ fs) (xs ++ i ∷ ys)) (RESTORE i)
    restored xs ys l =
        let p = spell_comes 0 irr refl es fs b a in
        let q₀ = spell_unseen 0 rec refl es fs in
        let q₁ = spell_unseen 1 rec refl es fs in
        let q₂ = spell_unseen 1 irr refl es fs in
        let q₃ = spell_unseen 2 irr refl es fs in
        let r = records_leave es fs rec refl b a xs ys l in
        let f = listed_fetch l i (has_here 2 rec refl es fs) ∙ fetch_here 2 rec refl es fs b in
        rw (p, f, q₀, q₁, q₂, q₃, r)
