use Rattle.std.proofs.Common.{rules, get_or, take, ◌≡◌, ℕ, ◌<◌}
use Rattle.std.proofs.lemmas.List.{get_or-take}
use Rattle.table_slices.proofs.position.Goals as goal

pub returns : goal.returns
returns c =
    let ids = c.args.stack.now in
    let n = c.args.n in
    let within : c.unwrap.result < n = search rules in
    let met : get_or (take n ids) c.unwrap.result 0 ≡ c.args.id = search rules in
    let unmet : (j : ℕ) → c.unwrap.result < j → j < n → get_or (take n ids) j 0 ≡ c.args.id → ⊥ = λ j a b e. search rules in
    (within, rw get_or-take at met, λ j a b e. unmet j a b (rw get_or-take e))
