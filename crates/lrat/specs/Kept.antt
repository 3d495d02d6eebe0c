-- What is kept of a line in lent memory.
use Rattle.std.specs.Prelude.{◌≡◌, true, List, ◌≤◌, ℤ, length, take}
use Rattle.rules.specs.Lists.{all_pass}
use Rattle.rules.specs.Terms.{Literals, in_range}
use Rattle.lrat.specs.Machine.{Reading}
use Rattle.lrat.specs.declared.ProofLine.{ProofLine}

-- the literals are the first of a buffer of 256, and in range of 2,048 variables
pub record Keeps (l : ProofLine) (lits : List ℤ) : Type 0 where
  pub long : length lits ≡ 256
  pub few : l.count ≤ 256
  pub ranged : all_pass (in_range 2048) (take l.count lits) ≡ true

abbrev pub read_with : ProofLine → List ℤ → Literals → Reading
read_with l lits F = record { line = l; lits = lits; falses = F }
