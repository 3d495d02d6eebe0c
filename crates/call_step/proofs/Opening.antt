-- What opening by sizes says of tables of those sizes.
use mathlib.Core.Path.{◌≡◌, refl}
use mathlib.Core.List.{List}
use Prim.Native.Nat.{ℕ}
use lib.IntN.{ℤ}
use lib.ListN.{length}
use Rattle.rules.specs.Answers.{check_open}
use Rattle.lent_entries.specs.declared.Entry.{Entry}
use Rattle.lent.specs.declared.Called.{Called}
use Rattle.lent_open.specs.Opened.{opened_with}
use Rattle.lent_open.proofs.Spells.{opened_spells}
use Rattle.call_step.specs.Calls.{Opening}

pub opening_of : (vars n w : ℕ) (entries : List Entry) (pool : List ℤ) → length entries ≡ n → length pool ≡ w →
    (r : Called) → r ≡ opened_with vars (check_open vars n w) → Opening vars entries pool r
opening_of vars n w entries pool a b r e =
    let called : r ≡ opened_with vars (check_open vars (length entries) (length pool)) = rw (a, b) e in
    record { called = called; state = λ k. opened_spells vars entries pool refl refl k called }
