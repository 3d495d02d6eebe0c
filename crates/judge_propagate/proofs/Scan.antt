-- The scan of a hint's clause: what is left of the paper's reading at each literal.
use mathlib.Core.Path.{◌≡◌, refl, sym, ◌∙◌}
use mathlib.Core.Bool.{Bool, true, false, not, true≢false, false≢true}
use mathlib.Core.List.{List, [], ◌∷◌, ◌++◌}
use Prim.Native.Nat.{ℕ, ◌+◌, ◌≤◌, ◌<◌}
use lib.IntN.{ℤ, pos}
use lib.ListN.{length, get_or, drop, drop_of_length-le}
use Rattle.std.specs.Prelude.{Option, Some, None, is_some}
use Rattle.std.proofs.lemmas.Option.{none-some, same_Some}
use Rattle.rules.proofs.Lists.{from_index}
use Rattle.rules.specs.Lists.{only}
use Rattle.rules.specs.Terms.{Literals, in_range, opposes}
use Rattle.rules.specs.Propagation.{Looked, conflict, forced, bad, reading, read}

-- the open literal that the scan has met
abbrev met : Option ℤ → List ℤ
met None = []
met (Some l) = l ∷ []

unfoldable pub resumed : Literals → Option ℤ → List ℤ → Looked
resumed F o rest = reading F (met o ++ only (λ l. not (F l)) rest)

module _ (F : Literals) (l : ℤ) (rest : List ℤ) where
  on_false : (o : Option ℤ) → F l ≡ true → resumed F o (l ∷ rest) ≡ resumed F o rest
  unfolding resumed only
  on_false o h = rw h

  -- a second literal that is not false, or a true one
  on_bad : (o : Option ℤ) → F l ≡ false → (o ≡ None → opposes F l ≡ true) → resumed F o (l ∷ rest) ≡ bad
  unfolding resumed only
  on_bad None h t = rw h (first (only (λ x. not (F x)) rest))
    where
      first : (more : List ℤ) → reading F (l ∷ more) ≡ bad
      first [] = let e = t refl in rw e
      first (x ∷ more) = refl
  on_bad (Some k) h t = rw h

  -- the first open literal
  on_open : F l ≡ false → resumed F None (l ∷ rest) ≡ resumed F (Some l) rest
  unfolding resumed only
  on_open h = rw h

-- at index i of the clause, with the open literal o
pub record Scanned (F : Literals) (c : List ℤ) (o : Option ℤ) (i : ℕ) : Type 0 where
  pub left : read F c ≡ resumed F o (drop i c)
  pub kept : (l : ℤ) → o ≡ Some l → (opposes F l ≡ false) × (in_range 2048 l ≡ true)

pub scan_start : (F : Literals) (c : List ℤ) → Scanned F c None 0
unfolding resumed read
scan_start F c = record { left = refl; kept = λ l n. absurd (none-some l n) }

module _ {F : Literals} {c : List ℤ} {o : Option ℤ} {i : ℕ} (s : Scanned F c o i) where
  module _ (lt : i < length c) where
    abbrev l : ℤ
    l = get_or c i (pos 0)

    here : read F c ≡ resumed F o (l ∷ drop (i + 1) c)
    here = let q = from_index c i (pos 0) lt in rw q at s.left

    pub scan_false : F l ≡ true → Scanned F c o (i + 1)
    scan_false h = record { left = here ∙ on_false F _ _ o h; kept = s.kept }

    pub scan_bad : F l ≡ false → (o ≡ None → opposes F l ≡ true) → read F c ≡ bad
    scan_bad h t = here ∙ on_bad F _ _ o h t

    pub scan_open : o ≡ None → in_range 2048 l ≡ true → F l ≡ false → opposes F l ≡ false → Scanned F c (Some l) (i + 1)
    scan_open z r h d = record { left = (rw z at here) ∙ on_open F _ _ h; kept = λ k e. let q = same_Some l k e in rw (← q) (d, r) }

  module _ (le : length c ≤ i) where
    end : read F c ≡ resumed F o []
    end = let q = drop_of_length-le c le in rw q at s.left

    pub scan_conflict : o ≡ None → read F c ≡ conflict
    unfolding resumed only
    scan_conflict z = rw z at end

    pub scan_forced : (k : ℤ) → o ≡ Some k → read F c ≡ forced k
    unfolding resumed only
    scan_forced k e = let d = (s.kept k e).0 in (rw e at end) ∙ rw d

-- by what the code asks of the open literal
pub none_yet : {o : Option ℤ} → o ≡ None → {b : Bool} → b ≡ is_some o → b ≡ true → ⊥
none_yet {o} z e t = let q : is_some o ≡ true = sym e ∙ t in false≢true (rw z at q)

pub none_met : {o : Option ℤ} {b : Bool} → b ≡ is_some o → b ≡ false → o ≡ None
none_met {o} e f = by_case o (sym e ∙ f)
  where
    by_case : (o : Option ℤ) → is_some o ≡ false → o ≡ None
    by_case None f = refl
    by_case (Some l) f = absurd (true≢false f)
