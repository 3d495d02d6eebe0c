use mathlib.Core.Path.{sym, ◌∙◌}
use native.Mathlib.Omega.{arith}
use borrow.Author.Rules.{rules}
use Rattle.step_frame.proofs.Rows.{empty, too_long, too_short, no_row, by_row, no_operation, unknown, unnamed}
use Rattle.step_frame.proofs.parse.Goals as goal

pub returns-then-n-eq0 : goal.returns-then-n-eq0
returns-then-n-eq0 c = empty _ (omega (arith, c.if-n-eq0.true))

pub returns-then-n-gt4096 : goal.returns-then-n-gt4096
returns-then-n-gt4096 c = too_long _ c.if-n-gt4096.true

pub returns-then-op-eq0 : goal.returns-then-op-eq0
returns-then-op-eq0 c = no_row _ _ c.number_at-op.ensures.0 (no_operation _ _ c.if-op-eq0.true)

pub returns-then-op-gt9 : goal.returns-then-op-gt9
returns-then-op-gt9 c = no_row _ _ c.number_at-op.ensures.0 (unknown _ _ c.if-op-gt9.true)

pub returns-then-n-least_words : goal.returns-then-n-least_words
returns-then-n-least_words c = too_short _ _ c.number_at-op.ensures.0 (rw c.least_words.ensures at c.if-n-least_words.true)

pub returns-then-op-gt7 : goal.returns-then-op-gt7
returns-then-op-gt7 c =
    by_row _ _ c.number_at-op.ensures.0 _ (rw c.least_words.ensures at c.if-n-least_words.false) (search rules) c.assuming_head.ensures

pub returns-then-id-eq0 : goal.returns-then-id-eq0
returns-then-id-eq0 c =
    no_row _ _ c.number_at-op.ensures.0 (unnamed _ _ (omega arith) (omega arith) (sym c.number_at-id.ensures.0 ∙ c.if-id-eq0.true))

pub returns : goal.returns
returns c = by_row _ _ c.number_at-op.ensures.0 _ (rw c.least_words.ensures at c.if-n-least_words.false) (omega arith) c.named_head.ensures
