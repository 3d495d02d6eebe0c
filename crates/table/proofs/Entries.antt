-- A row with its part of the pool, as one entry; what a list of entries by rising id spells; and what it spells when one entry comes or goes.
-- The list is split at the entry, es ++ e ∷ fs: so each change is two laws, for the entry that goes and for the one that comes.
use mathlib.Core.Path.{◌≡◌, refl, sym}
use mathlib.Core.Bool.{true, false, cond}
use mathlib.Core.List.{List, [], ◌∷◌, ◌++◌, map}
use Prim.Native.Nat.{ℕ, ◌<◌}
use native.Mathlib.Omega.{arith}
use lib.Dec.{eqb}
use lib.IntN.{ℤ}
use borrow.Author.Tests.{lt-ltb, le-ltb, eq-eqb, ne_eqb}
use Rattle.rules.specs.Lists.{any_passes, only}
use Rattle.rules.specs.Terms.{Held, has, fetch}
use Rattle.rules.specs.Frames.{without, place}
use Rattle.rules.proofs.Lists.{by_cases}
use Rattle.table.specs.Facts.{All, both}
use Rattle.table.specs.Spelled.{Row, stands, InPlace, in_place, clauses}

abbrev pub entry_of : ℕ → ℕ → List ℤ → List ℤ → InPlace
entry_of p i c w = record { where_is = p; what = record { id = i; lits = c; witness = w } }

-- the clauses of the place p
unfoldable pub spell : ℕ → List InPlace → List Held
spell p [] = []
spell p (e ∷ es) = cond (eqb e.where_is p) (e.what ∷ spell p es) (spell p es)

pub clauses_spell : (p : ℕ) (pool : List ℤ) (rows : List Row) → clauses p pool rows ≡ spell p (map (in_place pool) rows)
unfolding spell only
clauses_spell p pool [] = refl
clauses_spell p pool (r ∷ rows) = let i = clauses_spell p pool rows in by_cases (stands p r) (λ e. rw (e, i)) (λ e. rw (e, i))

abbrev pub Before : InPlace → InPlace → Type 0
Before e a = a.what.id < e.what.id

abbrev pub After : InPlace → InPlace → Type 0
After e a = e.what.id < a.what.id

less_differs : {a b : ℕ} → a < b → eqb a b ≡ false
less_differs {a} {b} h = ne_eqb a b (λ (z : a ≡ b). omega arith)

-- ---- an entry of another place is not seen
module _ (p : ℕ) (e : InPlace) (n : eqb e.where_is p ≡ false) where
  pub spell_unseen : (es fs : List InPlace) → spell p (es ++ e ∷ fs) ≡ spell p (es ++ fs)
  unfolding spell
  spell_unseen [] fs = rw n
  spell_unseen (a ∷ es) fs = let r = spell_unseen es fs in rw r

-- ---- an entry of this place
module _ (p : ℕ) (e : InPlace) (q : eqb e.where_is p ≡ true) where
  abbrev i : ℕ
  i = e.what.id

  self : eqb i i ≡ true
  self = eq-eqb i i refl

  place_here : (fs : List InPlace) → All (After e) fs → place e.what (spell p fs) ≡ e.what ∷ spell p fs
  unfolding place spell
  place_here [] b = refl
  place_here (a ∷ fs) (both h b) = by_cases (eqb a.where_is p)
      (λ s. let l = lt-ltb i a.what.id h in rw (s, l))
      (λ s. rw s (place_here fs b))

  -- it comes to its place by rising id
  pub spell_comes : (es fs : List InPlace) → All (Before e) es → All (After e) fs → spell p (es ++ e ∷ fs) ≡ place e.what (spell p (es ++ fs))
  unfolding place spell
  spell_comes [] fs a b = let r = place_here fs b in rw q (sym r)
  spell_comes (d ∷ es) fs (both h a) b =
      let r = spell_comes es fs a b in
      by_cases (eqb d.where_is p)
      (λ s. let l = le-ltb i d.what.id (omega arith) in rw (s, l, r))
      (λ s. rw (s, r))

  -- it goes
  pub spell_goes : (es fs : List InPlace) → All (Before e) es → spell p (es ++ fs) ≡ without (spell p (es ++ e ∷ fs)) i
  unfolding without spell
  spell_goes [] fs a = rw (q, self)
  spell_goes (d ∷ es) fs (both h a) =
      let r = spell_goes es fs a in
      by_cases (eqb d.where_is p)
      (λ s. let l = less_differs h in rw (s, l, r))
      (λ s. rw (s, r))

  -- it is found
  pub fetch_here : (es fs : List InPlace) → All (Before e) es → fetch (spell p (es ++ e ∷ fs)) i ≡ e.what
  unfolding fetch spell
  fetch_here [] fs a = rw (q, self)
  fetch_here (d ∷ es) fs (both h a) =
      let r = fetch_here es fs a in
      by_cases (eqb d.where_is p)
      (λ s. let l = less_differs h in rw (s, l, r))
      (λ s. rw (s, r))

  pub has_here : (es fs : List InPlace) → has (spell p (es ++ e ∷ fs)) i ≡ true
  unfolding any_passes spell
  has_here [] fs = rw (q, self)
  has_here (d ∷ es) fs =
      let r = has_here es fs in
      by_cases (eqb d.where_is p)
      (λ s. by_cases (eqb d.what.id i) (λ z. rw (s, z)) (λ z. rw (s, z, r)))
      (λ s. rw (s, r))

  -- others are found as before
  pub fetch_other : (es fs : List InPlace) (j : ℕ) → eqb i j ≡ false → fetch (spell p (es ++ e ∷ fs)) j ≡ fetch (spell p (es ++ fs)) j
  unfolding fetch spell
  fetch_other [] fs j n = rw (q, n)
  fetch_other (d ∷ es) fs j n = let r = fetch_other es fs j n in by_cases (eqb d.where_is p) (λ s. rw (s, r)) (λ s. rw (s, r))

  pub has_other : (es fs : List InPlace) (j : ℕ) → eqb i j ≡ false → has (spell p (es ++ e ∷ fs)) j ≡ has (spell p (es ++ fs)) j
  unfolding any_passes spell
  has_other [] fs j n = rw (q, n)
  has_other (d ∷ es) fs j n = let r = has_other es fs j n in by_cases (eqb d.where_is p) (λ s. rw (s, r)) (λ s. rw (s, r))

-- no entry has the id
pub has_none : (p : ℕ) (i : ℕ) (es : List InPlace) → All (λ a. a.what.id ≡ i → ⊥) es → has (spell p es) i ≡ false
unfolding any_passes spell
has_none p i [] a = refl
has_none p i (e ∷ es) (both h a) =
    let r = has_none p i es a in
    by_cases (eqb e.where_is p) (λ s. let l = ne_eqb e.what.id i h in rw (s, l, r)) (λ s. rw (s, r))
