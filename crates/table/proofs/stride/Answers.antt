use Rattle.std.proofs.Common.{◌+◌, arith, rules}
use Rattle.table.proofs.Finding.{below_row}
use Rattle.table.proofs.stride.Goals as goal

pub loop-k-preserved : goal.loop-k-preserved
loop-k-preserved c =
    let k = c.loop-k.k in
    (search rules, λ j h. below_row c.requires _ (k + 31) (omega arith) c.if-id-rows.false j (omega arith))
