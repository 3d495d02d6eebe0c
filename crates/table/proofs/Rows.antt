-- Rows and pool as lists, split at the row that goes or comes: what the invariant needs of it.
use mathlib.Core.Path.{◌≡◌, refl, sym, ◌∙◌, ap}
use mathlib.Core.Logic.{inl, inr, ⊎_elim}
use mathlib.Core.Bool.{true, false}
use mathlib.Core.List.{List, [], ◌∷◌, ◌++◌, map, map-append}
use Prim.Native.Nat.{ℕ, zero, suc, ◌+◌, ◌<◌, ◌≤◌}
use native.Mathlib.Omega.{arith}
use lib.IntN.{ℤ}
use lib.ListN.{length, take, drop, length-drop}
use lib.Seq.{length-take-le}
use lib.Dec.{eqb, leb}
use borrow.Author.Tests.{leb-true}
use Rattle.rules.specs.Lists.{all_pass}
use Rattle.rules.specs.Terms.{Held, is_clause, is_witness, distinct}
use Rattle.rules.proofs.Lists.{true-false, and_left}
use Rattle.table.specs.Facts.{All}
use Rattle.table.specs.Spelled.{Row, id_of, place_of, start_of, length_of, witness_of, size, part, clause_part, witness_part, held, stands, Known, Inside}
use Rattle.table.specs.Spelled.{Clear, Lawful, Listed, Core, InPlace, in_place}
use Rattle.table.proofs.Facts.{all_here, all_left, all_right, all_join, all_cut, all_put, all_more, all_map, all_unmap, map_same, pairs_before}
use Rattle.table.proofs.Facts.{pairs_after, pairs_cut, pairs_put, total_cut}
use Rattle.table_slices.proofs.Slices.{part_same}
use Rattle.table.proofs.Entries.{entry_of, spell, clauses_spell, spell_unseen}

-- ---- a part that lies inside the pool is as long as its row says

pub part_length : (pool : List ℤ) (start n : ℕ) → start + n ≤ length pool → length (part pool start n) ≡ n
part_length pool start n h = length-take-le n (drop start pool) (omega (arith, length-drop start pool))

module _ (pool : List ℤ) (r : Row) (h : Inside (length pool) r) where
  pub clause_length : length (clause_part pool r) ≡ length_of r
  clause_length = part_length pool (start_of r) (length_of r) (omega arith)

  pub witness_length : length (witness_part pool r) ≡ witness_of r
  witness_length = part_length pool (start_of r + length_of r) (witness_of r) (omega arith)

-- ---- what a lawful clause is, in whatever place

module _ (vars : ℕ) where
  pub lawful_placed : (p : ℕ) (h : Held) → Lawful vars p h → p ≤ 3
  unfolding Lawful
  lawful_placed zero h l = omega arith
  lawful_placed (suc zero) h l = omega arith
  lawful_placed (suc (suc zero)) h l = omega arith
  lawful_placed (suc (suc (suc zero))) h l = omega arith
  lawful_placed (suc (suc (suc (suc p)))) h l = absurd l

  pub lawful_clause : (p : ℕ) (h : Held) → Lawful vars p h → is_clause vars h.lits ≡ true
  unfolding Lawful is_clause all_pass distinct
  lawful_clause zero h l = l.0
  lawful_clause (suc zero) h l = l.0
  lawful_clause (suc (suc zero)) h l = l.0
  lawful_clause (suc (suc (suc zero))) h l = let e = l.0 in rw e
  lawful_clause (suc (suc (suc (suc p)))) h l = absurd l

  -- no witness is a clause too
  pub lawful_witness : (p : ℕ) (h : Held) → Lawful vars p h → is_clause vars h.witness ≡ true
  unfolding Lawful is_clause is_witness all_pass distinct
  lawful_witness zero h l = let e = l.1 in rw e
  lawful_witness (suc zero) h l = let e = l.1 in rw e
  lawful_witness (suc (suc zero)) h l = and_left (is_clause vars h.witness) _ l.1
  lawful_witness (suc (suc (suc zero))) h l = let e = l.1 in rw e
  lawful_witness (suc (suc (suc (suc p)))) h l = absurd l

  -- where it is gone, it has no words
  pub lawful_gone : (p : ℕ) (h : Held) → eqb p 3 ≡ true → Lawful vars p h → (h.lits ≡ []) × (h.witness ≡ [])
  unfolding Lawful
  lawful_gone zero h e l = true-false refl (sym e)
  lawful_gone (suc zero) h e l = true-false refl (sym e)
  lawful_gone (suc (suc zero)) h e l = true-false refl (sym e)
  lawful_gone (suc (suc (suc zero))) h e l = l
  lawful_gone (suc (suc (suc (suc p)))) h e l = absurd l

pub clause_short : (v : ℕ) (c : List ℤ) → is_clause v c ≡ true → length c ≤ 256
unfolding is_clause
clause_short v c k = leb-true (length c) 256 (and_left (leb (length c) 256) _ k)

-- ---- pools that agree below top

entry_same : (p q : List ℤ) (top : ℕ) (r : Row) → take top q ≡ take top p → Inside top r → in_place q r ≡ in_place p r
entry_same p q top r e h =
    let a = part_same p q top (start_of r) (length_of r) e (omega arith) in
    let b = part_same p q top (start_of r + length_of r) (witness_of r) e (omega arith) in
    rw (a, b)

entries_same : (p q : List ℤ) (top : ℕ) {rows : List Row} → take top q ≡ take top p → All (Inside top) rows → map (in_place q) rows ≡ map (in_place p) rows
entries_same p q top e a = map_same (all_more (λ r h. entry_same p q top r e h) a)

-- ---- parts that do not overlap

clear_flip : (r x : Row) → Clear r x → Clear x r
clear_flip r x c = ⊎_elim (λ e. inl (⊎_elim (λ a. inr a) (λ b. inl b) e)) (λ e. inr (⊎_elim (λ a. inr a) (λ b. inl b) e)) c

-- a part that starts where all others have ended
pub clear_tail : (r : Row) {rows : List Row} → All (Inside (start_of r)) rows → All (Clear r) rows
clear_tail r a = all_more (λ x h. inr (inr h)) a

-- a part that starts where the row's does, and is no longer
pub clear_less : (r r' : Row) {rows : List Row} → start_of r' ≡ start_of r → size r' ≤ size r → All (Clear r) rows → All (Clear r') rows
clear_less r r' e h a = all_more less a
  where
    less : (x : Row) → Clear r x → Clear r' x
    less x c = ⊎_elim
        (λ a. inl (⊎_elim (λ (z : size r ≡ 0). inl (omega arith)) (λ z. inr z) a))
        (λ a. inr (⊎_elim (λ (z : start_of r + size r ≤ start_of x). inl (omega arith)) (λ (z : start_of x + size x ≤ start_of r). inr (omega arith)) a))
        c

-- ---- a row goes

abbrev pub LawfulEntry : ℕ → InPlace → Type 0
LawfulEntry vars e = Lawful vars e.where_is e.what

module _ {v hi top words : ℕ} (us : List Row) (r : Row) (bs : List Row) {pool : List ℤ} {ids : List ℕ} (k : Core v hi top words (us ++ r ∷ bs) pool ids) where
  abbrev es : List InPlace
  es = map (in_place pool) us

  abbrev fs : List InPlace
  fs = map (in_place pool) bs

  pub entries_split : map (in_place pool) (us ++ r ∷ bs) ≡ es ++ in_place pool r ∷ fs
  entries_split = map-append (in_place pool) us (r ∷ bs)

  pub earlier : All (λ a. a.what.id < id_of r) es
  earlier = all_map (in_place pool) us (pairs_before us r bs k.rising)

  pub later : All (λ a. id_of r < a.what.id) fs
  later = all_map (in_place pool) bs (pairs_after us r bs k.rising)

  pub others_clear : All (Clear r) (us ++ bs)
  others_clear = all_join (all_more (λ x c. clear_flip x r c) (pairs_before us r bs k.apart)) (pairs_after us r bs k.apart)

  pub own : Lawful v (place_of r) (held pool r)
  own = all_here us r bs k.lawful

  pub listed_here : Listed (spell 2 (es ++ in_place pool r ∷ fs)) ids
  listed_here = let e = clauses_spell 2 pool (us ++ r ∷ bs) ∙ ap (spell 2) entries_split in rw e at k.listed

  -- a row that is not stacked has no witness
  pub plain_row : (p : ℕ) → p ≤ 1 → place_of r ≡ p → in_place pool r ≡ entry_of p (id_of r) (clause_part pool r) []
  unfolding Lawful
  plain_row zero h e = let o : Lawful v 0 (held pool r) = rw e at own in let w = o.1 in rw (e, w)
  plain_row (suc zero) h e = let o : Lawful v 1 (held pool r) = rw e at own in let w = o.1 in rw (e, w)
  plain_row (suc (suc p)) h e = absurd (omega arith)

  -- and the stack's list does not speak of it
  pub listed_cut : stands 2 r ≡ false → Listed (spell 2 (es ++ fs)) ids
  listed_cut n = let u = spell_unseen 2 (in_place pool r) n es fs in rw u at listed_here

  pub core_cut : (words' : ℕ) (ids' : List ℕ) → words ≡ words' + size r → Listed (spell 2 (es ++ fs)) ids' → Core v hi top words' (us ++ bs) pool ids'
  core_cut words' ids' e l =
      let q = clauses_spell 2 pool (us ++ bs) ∙ ap (spell 2) (map-append (in_place pool) us bs) in
      record {
        rising = pairs_cut us r bs k.rising;
        known = all_cut us r bs k.known;
        inside = all_cut us r bs k.inside;
        apart = pairs_cut us r bs k.apart;
        lawful = all_cut us r bs k.lawful;
        counted = omega (arith, k.counted, total_cut size us r bs);
        listed = rw q l;
      }

-- ---- a row comes; the pool's words below top stay

pub record Comes (v hi top : ℕ) (us bs : List Row) (pool : List ℤ) (r : Row) (hi' top' : ℕ) (pool' : List ℤ) : Type 0 where
  pub behind : All (λ x. id_of x < id_of r) us
  pub ahead_of : All (λ x. id_of r < id_of x) bs
  pub higher : hi ≤ hi'
  pub known : Known hi' r
  pub grows : top ≤ top'
  pub inside : Inside top' r
  pub clear : All (Clear r) (us ++ bs)
  pub same : take top pool' ≡ take top pool
  pub lawful : Lawful v (place_of r) (held pool' r)

module _ {v hi top words : ℕ} (us bs : List Row) {pool : List ℤ} {ids : List ℕ} (k : Core v hi top words (us ++ bs) pool ids)
    {r : Row} {hi' top' : ℕ} {pool' : List ℤ} (c : Comes v hi top us bs pool r hi' top' pool') where
  pub entries_put : map (in_place pool') (us ++ r ∷ bs) ≡ map (in_place pool) us ++ in_place pool' r ∷ map (in_place pool) bs
  entries_put =
      let a = entries_same pool pool' top c.same (all_left us bs k.inside) in
      let b = entries_same pool pool' top c.same (all_right us bs k.inside) in
      map-append (in_place pool') us (r ∷ bs) ∙ rw (a, b)

  lawful_same : All (λ x. Lawful v (place_of x) (held pool' x)) (us ++ bs)
  lawful_same =
      let e = entries_same pool pool' top c.same k.inside in
      all_unmap {P = LawfulEntry v} (in_place pool') (us ++ bs) (rw e (all_map {P = LawfulEntry v} (in_place pool) (us ++ bs) k.lawful))

  pub core_put : (words' : ℕ) (ids' : List ℕ) → words' ≡ words + size r →
      Listed (spell 2 (map (in_place pool) us ++ in_place pool' r ∷ map (in_place pool) bs)) ids' →
      Core v hi' top' words' (us ++ r ∷ bs) pool' ids'
  core_put words' ids' e l =
      let q = clauses_spell 2 pool' (us ++ r ∷ bs) ∙ ap (spell 2) entries_put in
      let g = c.grows in
      let h = c.higher in
      record {
        rising = pairs_put us r bs k.rising c.behind c.ahead_of;
        known = all_put us r bs (all_more (λ x h. (h.0, omega arith)) k.known) c.known;
        inside = all_put us r bs (all_more (λ x h. omega arith) k.inside) c.inside;
        apart = pairs_put us r bs k.apart (all_more (λ x h. clear_flip r x h) (all_left us bs c.clear)) (all_right us bs c.clear);
        lawful = all_put us r bs lawful_same c.lawful;
        counted = omega (arith, k.counted, total_cut size us r bs);
        listed = rw q l;
      }
