use native.Mathlib.Omega.{arith}
use Rattle.rules.specs.Frames.{LEARN, WEAKEN}
use Rattle.step_frame.proofs.Rows.{add_reads, add_long, forget_reads, promote_reads, drop_reads, restore_reads, learn_reads, weaken_reads, unlisted}
use Rattle.step_frame.proofs.Rows.{row_of, two_words}
use Rattle.step_frame.proofs.named_head.Goals as goal

pub returns-then-n-le258 : goal.returns-then-n-le258
returns-then-n-le258 c =
    row_of _ _ 1 _ c.in-1.is (add_reads _ _ c.requires.4 c.requires.5 (two_words _ _ c.requires.0 c.requires.1 c.requires.2) c.if-n-le258.true c.requires.6)

pub returns-else-n-le258 : goal.returns-else-n-le258
returns-else-n-le258 c = row_of _ _ 1 _ c.in-1.is (add_long _ _ c.requires.4 c.requires.5 c.if-n-le258.false)

pub returns-in_ok-count_at-in-2 : goal.returns-in_ok-count_at-in-2
returns-in_ok-count_at-in-2 c =
    row_of _ _ 2 _ c.in-2.is (learn_reads _ _ c.requires.4 c.requires.5 _ c.in_ok-count_at-in-2.ensures c.requires.3 c.requires.6)

pub returns-in_err-count_at-in-2 : goal.returns-in_err-count_at-in-2
returns-in_err-count_at-in-2 c =
    rw c.from_residual.ensures (row_of _ _ 2 _ c.in-2.is (unlisted _ _ c.requires.4 c.requires.5 0 LEARN c.in_err-count_at-in-2.ensures))

pub returns-in-3 : goal.returns-in-3
returns-in-3 c = rw c.pair_head.ensures (row_of _ _ 3 _ c.in-3.is (forget_reads _ _ c.requires.4 c.requires.5))

pub returns-in-4 : goal.returns-in-4
returns-in-4 c = rw c.pair_head-in-4.ensures (row_of _ _ 4 _ c.in-4.is (promote_reads _ _ c.requires.4 c.requires.5))

pub returns-in-5 : goal.returns-in-5
returns-in-5 c =
    row_of _ _ 5 _ c.in-5.is (drop_reads _ _ c.requires.4 c.requires.5 (two_words _ _ c.requires.0 c.requires.1 c.requires.2) c.requires.3)

pub returns-in_ok-count_at-in-6 : goal.returns-in_ok-count_at-in-6
returns-in_ok-count_at-in-6 c =
    row_of _ _ 6 _ c.in-6.is (weaken_reads _ _ c.requires.4 c.requires.5 _ c.in_ok-count_at-in-6.ensures c.requires.3)

pub returns-in_err-count_at-in-6 : goal.returns-in_err-count_at-in-6
returns-in_err-count_at-in-6 c =
    rw c.from_residual-in_err-count_at-in-6.ensures
    (row_of _ _ 6 _ c.in-6.is (unlisted _ _ c.requires.4 c.requires.5 1 WEAKEN c.in_err-count_at-in-6.ensures))

pub returns-in_default : goal.returns-in_default
returns-in_default c = rw c.pair_head-in_default.ensures (row_of _ _ 7 _ (omega arith) (restore_reads _ _ c.requires.4 c.requires.5))
