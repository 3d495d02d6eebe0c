use Rattle.std.proofs.Common.{◌≡◌, ◌∙◌, List, ap, arith, rules, get_or, set, length-set, pos}
use lib.IntN.{ℤ}
use mir.Syntax.{w32}
use mir.Val.{to_z, of_z}
use mir.ValLaws.{to_z-of_z}
use Rattle.table_slices.proofs.Slices.{over_next}
use Rattle.table_slices.proofs.write_literals.Goals as goal

pub loop-i-preserved : goal.loop-i-preserved
loop-i-preserved c =
    let a = c.args in
    let l = c.loop-i in
    let v : ℤ = get_or a.lits.now l.i (pos 0) in
    let w : ℤ = to_z w32 (of_z w32 v) in
    let same : w ≡ v = to_z-of_z w32 v (search rules) in (
      ap (λ (z : ℤ). set l.tail l.i z) same ∙ ap (λ (r : List ℤ). set r l.i v) l.invariant.0
          ∙ over_next a.tail.now a.lits.now l.i (pos 0) (omega arith) (omega arith),
      length-set l.tail l.i w ∙ l.invariant.1,
    )
