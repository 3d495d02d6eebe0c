-- Invariant: what the groups come to is what those of the rows left come to, from the word `at` on.
use mathlib.Core.Path.{◌≡◌}
use Prim.Native.Nat.{◌≤◌}
use lib.ListN.{length, drop}
use Rattle.rules.specs.Lists.{only}
use Rattle.rules.specs.Propagation.{among}
use Rattle.rules.specs.Frames.{needs_group}
use Rattle.rules.specs.Answers.{groups}
use Rattle.lit_sets.specs.Words.{literals}
use Rattle.weaken_groups.specs.Groups.{others, groups_at}
use Rattle.weaken_groups.proofs.Due.{due}
use Rattle.weaken_groups.proofs.all_groups.Given as goal

abbrev pub invariant-loop-d : goal.invariant-loop-d
invariant-loop-d l = let A = among (others l.id l.pool l.rows) in
    let W = literals l.witness in
    (l.at ≤ length l.groups)
    × (groups A l.c W (only (needs_group W) (others l.id l.pool l.rows)) l.from l.groups ≡ groups_at A l.c W l.from l.groups (due l.id l.pool W (drop l.d l.rows)) l.at)
