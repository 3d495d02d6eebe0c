use lib.Dec.{eqb}
use borrow.Author.Tests.{eqb-true, eqb-false}
use Rattle.rules.specs.Frames.{SAT, UNSAT}
use Rattle.rules.proofs.Lists.{by_cases}
use Rattle.step_frame.proofs.Rows.{sat_reads, unsat_reads, unassuming, row_of, nine}
use Rattle.step_frame.proofs.assuming_head.Goals as goal

pub returns-in_err-k : goal.returns-in_err-k
returns-in_err-k c = rw c.from_residual.ensures (by_cases (eqb c.args.op 8)
    (λ e. row_of _ _ 8 _ (eqb-true _ _ e) (unassuming _ SAT c.in_err-k.ensures))
    (λ e. row_of _ _ 9 _ (nine _ c.requires.0 c.requires.1 (eqb-false _ _ e)) (unassuming _ UNSAT c.in_err-k.ensures)))

pub returns-then-op-eq8 : goal.returns-then-op-eq8
returns-then-op-eq8 c = row_of _ _ 8 _ c.if-op-eq8.true (sat_reads _ _ c.in_ok-k.ensures c.requires.3)

pub returns-else-op-eq8 : goal.returns-else-op-eq8
returns-else-op-eq8 c = row_of _ _ 9 _ (nine _ c.requires.0 c.requires.1 c.if-op-eq8.false) (unsat_reads _ _ c.in_ok-k.ensures c.requires.3)
