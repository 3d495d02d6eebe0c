-- What an opening carries spells the empty state, whatever the tables held.
use mathlib.Core.Path.{◌≡◌, refl, ap, ◌∙◌}
use mathlib.Core.Bool.{true, ◌&&◌}
use mathlib.Core.List.{List, map}
use mathlib.Core.Option.{some}
use Prim.Native.Nat.{ℕ, ◌≤◌}
use native.Mathlib.Omega.{arith}
use lib.Dec.{ltb, leb}
use lib.IntN.{ℤ}
use lib.ListN.{length, length-map, replicate, length-replicate}
use borrow.Author.Tests.{ltb-true, leb-true}
use Rattle.rules.specs.Answers.{lent, check_open, opened}
use Rattle.std.specs.Prelude.{Ok, Err}
use Rattle.rules.proofs.Checks.{then_left, then_right, need_true}
use Rattle.rules.proofs.Lists.{and_left, and_right}
use Rattle.table.specs.Spelled.{Fit}
use Rattle.table.proofs.Empty as working
use Rattle.lent_entries.specs.Lent.{row_of, state_lent}
use Rattle.lent_entries.specs.declared.Entry.{Entry}
use Rattle.lent.proofs.Sizes.{lent_most}
use Rattle.lent.proofs.Stored.{stored_is_state, stored_spells}
use Rattle.lent.specs.declared.Called.{Called}
use Rattle.lent_open.specs.Opened.{empty, opened_with}

module _ (vars : ℕ) (entries : List Entry) (pool : List ℤ) (k : check_open vars (length entries) (length pool) ≡ Ok tt) where
  fits : lent (length entries) (length pool) ≡ true
  unfolding check_open
  fits = need_true _ _ (then_left _ _ k)

  in_range : (ltb 0 vars && leb vars 2048) ≡ true
  unfolding check_open
  in_range = need_true _ _ (then_right _ _ k)

  most : (length entries ≤ 1024) × (length pool ≤ 8192)
  most = lent_most (length entries) (length pool) fits

  empty_fits : Fit (working.empty vars (length (map row_of entries))) (map row_of entries) pool (replicate 1024 0)
  empty_fits =
      let m : length (map row_of entries) ≡ length entries = length-map entries row_of in
      let ids : List ℕ = replicate 1024 0 in
      let n : length ids ≡ 1024 = length-replicate {A = ℕ} 1024 0 in
      working.empty_fit vars (length (map row_of entries)) (map row_of entries) pool ids (ltb-true 0 vars (and_left (ltb 0 vars) _ in_range))
      (leb-true vars 2048 (and_right (ltb 0 vars) _ in_range)) (omega (arith, m, most.0)) (omega arith) (omega (arith, m, most.0)) most.1
      (omega (arith, m, n, most.0))

  spells_opened : state_lent entries pool (empty vars) ≡ some (opened vars (length entries) (length pool))
  spells_opened =
      let m : length (map row_of entries) ≡ length entries = length-map entries row_of in
      let f = fits in
      let s = stored_is_state empty_fits refl (map row_of entries) refl refl in
      let e = stored_spells empty_fits refl (map row_of entries) refl refl ∙ working.empty_spelled vars _ (map row_of entries) pool (replicate 1024 0)
      ∙ ap (λ n. opened vars n (length pool)) m in
      rw (f, s) (ap some e)

-- over any tables of the sizes opened
pub opened_spells : (vars : ℕ) {n w : ℕ} (entries : List Entry) (pool : List ℤ) → length entries ≡ n → length pool ≡ w → check_open vars n w ≡ Ok tt →
    {r : Called} → r ≡ opened_with vars (check_open vars n w) → state_lent entries pool r.carried ≡ some (opened vars n w)
opened_spells vars {n} {w} entries pool a b k {r} e =
    let carried : r.carried ≡ empty vars = ap (λ (x : Called). x.carried) (e ∙ ap (opened_with vars) k) in
    let same : check_open vars (length entries) (length pool) ≡ Ok tt = rw (a, b) k in
    rw carried (spells_opened vars entries pool same ∙ rw (a, b))
