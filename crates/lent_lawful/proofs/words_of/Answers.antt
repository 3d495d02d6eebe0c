use mathlib.Core.List.{[]}
use Prim.Native.Nat.{◌≤◌}
use native.Mathlib.Omega.{arith}
use Rattle.table.specs.Spelled.{row_at, size}
use Rattle.table.proofs.Facts.{all_index, total_on}
use Rattle.lent_lawful.proofs.words_of.Goals as goal

pub loop-row-preserved : goal.loop-row-preserved
loop-row-preserved c =
    let rows = c.args.rows.now in
    let k = c.loop-row.row-index in
    let size_low : size (row_at rows k) ≤ 8192 = let i = all_index c.requires.0 k [] (omega arith) in omega arith in
    let e = c.size_of-sum.ensures.0 in
    (omega (arith, total_on size rows k [] (omega arith)), omega (arith, size_low))
