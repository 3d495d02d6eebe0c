-- Invariant: every irredundant clause passed is true, so the rest decides.
use mathlib.Core.Path.{sym, ◌∙◌, ap}
use Rattle.std.specs.Prelude.{Err}
use Rattle.rules.specs.declared.Fault.TheVariants.{Falsified}
use Rattle.judge_walk.proofs.Walks.{row_passes, row_fails, rows_true}
use Rattle.judge_walk.proofs.satisfied.Goals as goal

pub returns-then-is_falsified : goal.returns-then-is_falsified
returns-then-is_falsified c =
    ap (λ i. Err (Falsified i)) c.id_at.ensures
    ∙ sym (c.loop-k.invariant ∙ row_fails _ _ _ _ c.loop-k-test.true (sym c.is_falsified.ensures ∙ c.if-is_falsified.true))

pub loop-k-preserved : goal.loop-k-preserved
loop-k-preserved c = c.loop-k.invariant ∙ row_passes _ _ _ _ c.loop-k-test.true (sym c.is_falsified.ensures ∙ c.if-is_falsified.false)

pub returns : goal.returns
returns c = sym (c.loop-k.invariant ∙ rows_true _ _ _ _ c.loop-k-test.false)
