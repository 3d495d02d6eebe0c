-- What the program opens.
use Rattle.std.specs.Prelude.{◌≡◌, List, ℤ, length}
use Rattle.std.proofs.Math.Option.{some}
use Rattle.rules.specs.Answers.{opened}
use Rattle.lent_entries.specs.Lent.{state_lent}
use Rattle.lent_entries.specs.declared.Entry.{Entry}
use Rattle.lent.specs.declared.Carried.{Carried}

-- "The program opens V = 2,048, 1,024 entries and 8,192 words": what is carried spells this, over any tables of these sizes
abbrev pub Opens : Carried → Type 0
Opens c = (entries : List Entry) (pool : List ℤ) → length entries ≡ 1024 → length pool ≡ 8192 → state_lent entries pool c ≡ some (opened 2048 1024 8192)
