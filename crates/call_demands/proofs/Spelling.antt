-- What is lent and carried, where it spells a state: the state obeys Terms, and settles what is carried.
use mathlib.Core.Path.{◌≡◌}
use mathlib.Core.List.{List, map}
use mathlib.Core.Option.{some}
use lib.IntN.{ℤ}
use Rattle.rules.specs.Terms.{State, Terms}
use Rattle.lent_entries.specs.Lent.{row_of, state_lent}
use Rattle.lent_entries.specs.declared.Entry.{Entry}
use Rattle.lent_entries.proofs.Lending.{lent_spelled}
use Rattle.lent.specs.declared.Carried.{Carried}
use Rattle.lent_load.proofs.Obeys.{Carries, spelled_obeys, spelled_carries}

module _ (entries : List Entry) (pool : List ℤ) (c : Carried) {s : State} (e : state_lent entries pool c ≡ some s) where
  pub lent_obeys : Terms s
  lent_obeys = let l = lent_spelled entries pool c e in spelled_obeys c (map row_of entries) pool l.1 l.0

  pub lent_carries : Carries c s
  lent_carries = let l = lent_spelled entries pool c e in spelled_carries c (map row_of entries) pool l.1 l.0
