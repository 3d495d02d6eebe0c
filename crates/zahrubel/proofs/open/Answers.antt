use Rattle.std.proofs.Common.{◌≡◌, refl, arith}
use Rattle.rules.specs.Answers.{check_open}
use Rattle.std.specs.Prelude.{Ok, Err}
use Rattle.lent_open.proofs.Opened.{opens}
use Rattle.lent_open.proofs.Spells.{opened_spells}
use Rattle.zahrubel.proofs.open.Goals as goal

in_range : check_open 2048 1024 8192 ≡ Ok tt
in_range = opens 2048 1024 8192 refl (omega arith) (omega arith)

pub returns : goal.returns
returns c = λ entries pool a b. opened_spells 2048 entries pool a b in_range c.open_sized-called.ensures
