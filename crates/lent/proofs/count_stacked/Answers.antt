use Rattle.std.proofs.Common.{[], arith, rules, eq-eqb}
use borrow.Author.Tests.{ne_eqb}
use Rattle.table.specs.Spelled.{stands}
use Rattle.lent.proofs.Tests.{only_passes, only_fails, only_past}
use Rattle.lent.proofs.count_stacked.Goals as goal
use Rattle.lent.proofs.count_stacked.Goals.{then-row-eq2, else-row-eq2}

pub loop-row-preserved : goal.loop-row-preserved
loop-row-preserved c =
    let k = c.loop-row.row-index in
    let rows = c.args.rows.now in
    elim c.if-row-eq2.branch [
      | then-row-eq2 w ↦ rw w.n-is (search rules, omega (arith, c.loop-row.invariant.1, only_passes (stands 2) rows k [] (search rules) (eq-eqb _ _ w.if-row-eq2.true)))
      | else-row-eq2 w ↦ rw w.n-is (search rules, omega (arith, c.loop-row.invariant.1, only_fails (stands 2) rows k [] (search rules) (ne_eqb _ _ w.if-row-eq2.false)))
    ]

pub returns : goal.returns
returns c = omega (arith, c.loop-row.invariant.1, only_past (stands 2) c.args.rows.now c.loop-row.row-index (search rules))
