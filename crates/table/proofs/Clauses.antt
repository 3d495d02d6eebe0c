-- The clauses of a place, and the records that the stack's ids name: what holds of the rows that stand there, or of all of the clauses, holds of them.
use mathlib.Core.Path.{◌≡◌, refl}
use mathlib.Core.Bool.{Bool, true}
use mathlib.Core.List.{List, map}
use Prim.Native.Nat.{ℕ}
use lib.IntN.{ℤ}
use borrow.Author.Tests.{lt-ltb}
use Rattle.rules.specs.Lists.{all_pass, only}
use Rattle.rules.specs.Terms.{Held, has, fetch, rising}
use Rattle.rules.proofs.Lists.{by_cases, and_both, all_nil, all_cons}
use Rattle.rules.proofs.Held.{fetch_all}
use Rattle.rules.proofs.Places.{later}
use Rattle.table.specs.Facts.{All, none, both, alone, ahead}
use Rattle.table.specs.Spelled.{Row, id_of, held, stands, clauses, Rising}
use Rattle.table.proofs.Facts.{all_more}

module _ (p : ℕ) (pool : List ℤ) (q : Held → Bool) where
  pub clauses_all : {rows : List Row} → All (λ r. stands p r ≡ true → q (held pool r) ≡ true) rows → all_pass q (clauses p pool rows) ≡ true
  unfolding only
  clauses_all none = all_nil q
  clauses_all (both {x = r} {xs = rows} h a) = by_cases (stands p r)
      (λ e. rw e (all_cons q (held pool r) (clauses p pool rows) (h e) (clauses_all a)))
      (λ e. rw e (clauses_all a))

module _ (p : ℕ) (pool : List ℤ) where
  pub clauses_rising : {rows : List Row} → Rising rows → rising (clauses p pool rows) ≡ true
  unfolding only rising
  clauses_rising alone = refl
  clauses_rising (ahead {x = r} {xs = rows} a s) = by_cases (stands p r)
      (λ e. rw e (and_both (clauses_all p pool (later (held pool r)) (all_more (λ x l _. lt-ltb (id_of r) (id_of x) l) a)) (clauses_rising s)))
      (λ e. rw e (clauses_rising s))

pub records_all : (q : Held → Bool) (hs : List Held) {ids : List ℕ} → all_pass q hs ≡ true → All (λ i. has hs i ≡ true) ids →
    all_pass q (map (fetch hs) ids) ≡ true
records_all q hs a none = all_nil q
records_all q hs a (both {x} m ms) = all_cons q _ _ (fetch_all q hs x m a) (records_all q hs a ms)
