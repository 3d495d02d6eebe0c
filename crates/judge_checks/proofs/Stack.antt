-- The stack's ids that are held: each is that of a stacked clause, and those behind an id are the ids of the records above its own.
use mathlib.Core.Path.{◌≡◌, refl, sym, ◌∙◌, ap, subst}
use mathlib.Core.List.{List, [], ◌∷◌, ◌++◌, map, reverse, reverse-append}
use Prim.Native.Nat.{ℕ, ◌+◌, ◌-◌, ◌<◌}
use native.Mathlib.Omega.{arith}
use lib.IntN.{ℤ}
use lib.ListN.{length, get_or, take, drop, length-drop}
use lib.Seq.{length-take-le, get_or-take, get_or-drop, take-add}
use borrow.Author.Tests.{eq-eqb, ne_eqb}
use Rattle.rules.specs.Terms.{Held, has, fetch}
use Rattle.rules.specs.Frames.{above}
use Rattle.rules.proofs.Places.{fetch_id}
use Rattle.table.specs.Facts.{All, both, Pairs}
use Rattle.table.specs.Spelled.{Row, clauses, held_rows, from_top, spelled, Fit}
use Rattle.table.specs.declared.Table.{Table}
use Rattle.table.proofs.Facts.{all_more, pairs_before}
use Rattle.table.proofs.Readers.{stacked_at, from_top_next}
use Rattle.judge_walk.specs.Records.{Stacked, records}

-- F is the record of an id
above_named : (F : ℕ → Held) (xs : List ℕ) (i : ℕ) (ys : List ℕ) → All (λ j. (F j).id ≡ j) (xs ++ i ∷ ys) → All (λ j. i ≡ j → ⊥) xs →
    above (map F (xs ++ i ∷ ys)) i ≡ map F xs
unfolding above
above_named F [] i ys (both p a) d = let e = eq-eqb i i refl in rw (p, e)
above_named F (x ∷ xs) i ys (both p a) (both q d) = let r = above_named F xs i ys a d in let n = ne_eqb x i (λ z. q (sym z)) in rw (p, n, r)

module _ {t : Table} {rows : List Row} {pool : List ℤ} {stack : List ℕ} (f : Fit t rows pool stack) where
  abbrev stacked_clauses : List Held
  stacked_clauses = clauses 2 pool (held_rows t rows)

  pub depth_is : length (take t.depth stack) ≡ t.depth
  depth_is = length-take-le t.depth stack f.stack_fit

  pub stacked : Stacked pool (held_rows t rows) (take t.depth stack)
  stacked j h =
      let l : j < t.depth = omega (arith, depth_is) in
      ap (has stacked_clauses) (get_or-take t.depth stack j 0 l) ∙ stacked_at f j l

  -- behind the index p
  module _ (p : ℕ) (g : p < t.depth) where
    abbrev pub behind : List ℕ
    behind = take (t.depth - (p + 1)) (drop (p + 1) stack)

    pub stacked_behind : Stacked pool (held_rows t rows) behind
    stacked_behind j h =
        let n = length-take-le (t.depth - (p + 1)) (drop (p + 1) stack) (omega (arith, length-drop (p + 1) stack, f.stack_fit)) in
        let l : j < t.depth - (p + 1) = omega arith in
        ap (has stacked_clauses) (get_or-take (t.depth - (p + 1)) (drop (p + 1) stack) j 0 l ∙ get_or-drop (p + 1) stack j 0)
        ∙ stacked_at f (p + 1 + j) (omega arith)

    from_top_is : from_top t stack ≡ reverse behind ++ get_or stack p 0 ∷ reverse (take p stack)
    from_top_is =
        let n : t.depth ≡ p + 1 + (t.depth - (p + 1)) = omega arith in
        ap (λ k. reverse (take k stack)) n ∙ ap reverse (take-add (p + 1) (t.depth - (p + 1)) stack) ∙ reverse-append (take (p + 1) stack) behind
        ∙ ap (λ l. reverse behind ++ l) (from_top_next stack p (omega (arith, f.stack_fit)))

    pub above_is : above (spelled t rows pool stack).stack (get_or stack p 0) ≡ records pool (held_rows t rows) behind
    above_is =
        let named = subst (All (λ j. (fetch stacked_clauses j).id ≡ j)) from_top_is (all_more (fetch_id stacked_clauses) f.core.listed.each) in
        let once = subst (Pairs (λ j k. k ≡ j → ⊥)) from_top_is f.core.listed.once in
        ap (λ ids. above (map (fetch stacked_clauses) ids) (get_or stack p 0)) from_top_is
        ∙ above_named (fetch stacked_clauses) (reverse behind) (get_or stack p 0) _ named (pairs_before (reverse behind) (get_or stack p 0) _ once)
