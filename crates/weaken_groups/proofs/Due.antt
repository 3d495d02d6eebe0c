-- The rows that need a group, and the loop over them.
use mathlib.Core.Path.{◌≡◌, refl, sym, ◌∙◌, ap}
use mathlib.Core.Bool.{Bool, true, false, not, ◌&&◌}
use mathlib.Core.List.{List, [], ◌∷◌, map}
use Prim.Native.Nat.{ℕ, ◌+◌, ◌≤◌, ◌<◌}
use native.Mathlib.Omega.{arith}
use lib.IntN.{ℤ, pos}
use lib.ListN.{length, drop, drop_of_length-le}
use borrow.Author.Tests.{lt-ltb, le-ltb, eq-eqb, ne_eqb}
use Rattle.rules.specs.Lists.{any_passes, only}
use Rattle.rules.specs.Terms.{Literals, opposes, Held}
use Rattle.rules.specs.Propagation.{Allowed}
use Rattle.rules.specs.Frames.{needs_group}
use Rattle.rules.specs.Answers.{groups}
use Rattle.rules.specs.declared.Fault.{Fault}
use Rattle.rules.specs.declared.Fault.TheVariants.{Group}
use Rattle.rules.specs.Results.{Check}
use Rattle.std.specs.Prelude.{Result, Ok, Err}
use Rattle.rules.proofs.Lists.{from_index, by_cases}
use Rattle.table.specs.Spelled.{Row, row_at, id_of, place_of, clause_part, held, Rising}
use Rattle.judge_propagate.specs.Scope.{irredundant_but, permits}
use Rattle.judge_propagate.proofs.Scopes as scopes
use Rattle.weaken_groups.specs.Groups.{others, is_due, groups_at, onward, Grouped}

-- ---- one row, by the tests in their order

module _ (i : ℕ) (pool : List ℤ) (W : Literals) (r : Row) where
  pub not_irredundant : (place_of r ≡ 0 → ⊥) → false ≡ is_due i pool W r
  unfolding is_due
  not_irredundant n = rw (le-ltb (place_of r) 1 (omega arith))

  module _ (p : place_of r ≡ 0) where
    pub itself : id_of r ≡ i → false ≡ is_due i pool W r
    unfolding is_due
    itself e = rw (lt-ltb (place_of r) 1 (omega arith), eq-eqb (id_of r) i e)

    module _ (n : id_of r ≡ i → ⊥) (c : List ℤ) (q : c ≡ clause_part pool r) where
      pub unopposed : any_passes (opposes W) c ≡ false → false ≡ is_due i pool W r
      unfolding is_due
      unopposed f = let g = rw q at f in rw (lt-ltb (place_of r) 1 (omega arith), ne_eqb (id_of r) i n, g)

      pub by_shared : any_passes (opposes W) c ≡ true → not (any_passes W c) ≡ is_due i pool W r
      unfolding is_due
      by_shared t = let g = rw q at t in rw (lt-ltb (place_of r) 1 (omega arith), ne_eqb (id_of r) i n, g, q)

-- ---- all rows

only_map : {A B : Type 0} (p : A → Bool) (f : A → B) (q : B → Bool) (xs : List A) → only q (map f (only p xs)) ≡ map f (only (λ x. p x && q (f x)) xs)
unfolding only
only_map p f q [] = refl
only_map p f q (x ∷ xs) =
    let rest = only_map p f q xs in
    by_cases (p x) (λ t. by_cases (q (f x)) (λ u. rw (t, u, rest)) (λ u. rw (t, u, rest))) (λ t. rw (t, rest))

module _ (i : ℕ) (pool : List ℤ) (W : Literals) where
  -- the clauses that need a group
  abbrev pub due : List Row → List Held
  due rows = map (held pool) (only (is_due i pool W) rows)

  pub due_are : (rows : List Row) → Rising rows → only (needs_group W) (others i pool rows) ≡ due rows
  unfolding is_due
  due_are rows up = ap (only (needs_group W)) (sym (scopes.others rows pool i up)) ∙ only_map (permits (irredundant_but i)) (held pool) (needs_group W) rows

  -- a loop that has passed d rows and `at` words
  module _ (A : Allowed) (c : List ℤ) (from : ℕ) (ws : List ℤ) (rows : List Row) (whole : Check) (d at : ℕ)
      (far : whole ≡ groups_at A c W from ws (due (drop d rows)) at) where
    module _ (h : d < length rows) where
      pub judged : is_due i pool W (row_at rows d) ≡ true → (r : Result ℕ Fault) → Grouped A c W from ws (held pool (row_at rows d)) at r
          → whole ≡ onward r (groups_at A c W from ws (due (drop (d + 1) rows)))
      unfolding only
      judged t r g = let e = from_index rows d [] h in (rw (e, t) at far) ∙ g.says (due (drop (d + 1) rows))

      pub passed : is_due i pool W (row_at rows d) ≡ false → whole ≡ groups_at A c W from ws (due (drop (d + 1) rows)) at
      unfolding only
      passed f = let e = from_index rows d [] h in rw (e, f) at far

    module _ (h : length rows ≤ d) where
      none_left : whole ≡ groups A c W [] (from + at) (drop at ws)
      unfolding only
      none_left = let e = drop_of_length-le rows h in rw e at far

      pub words_left : at < length ws → Err (Group (from + at)) ≡ whole
      unfolding groups
      words_left l = let e = from_index ws at (pos 0) l in let q = none_left in sym (rw e at q)

      pub all_judged : length ws ≤ at → Ok tt ≡ whole
      unfolding groups
      all_judged l = let e = drop_of_length-le ws l in let q = none_left in sym (rw e at q)
