-- Invariant: the clause is clean against every record passed, so those below decide.
use Prim.Native.Nat.{◌-◌}
use mathlib.Core.Bool.{not}
use mathlib.Core.Path.{sym, ◌∙◌, ap}
use native.Mathlib.Omega.{arith}
use Rattle.std.specs.Prelude.{Err}
use Rattle.rules.specs.declared.Fault.TheVariants.{Unclean}
use Rattle.judge_walk.proofs.Walks.{has_stacked, scanned, top_clean, top_unclean, bottom_clean}
use Rattle.judge_walk.proofs.cleanly.Goals as goal

pub record_of-k-requires : goal.record_of-k-requires
record_of-k-requires c = (c.requires.0.rising, sym (has_stacked c.args.pool.now _ _) ∙ c.requires.1 (c.loop-j.j - 1) (omega arith))

pub returns-then-opposed : goal.returns-then-opposed
returns-then-opposed c =
    let turn = top_unclean c.args.pool.now c.args.rows.now c.args.stack.now c.loop-j.j (omega arith) (omega arith) c.record_of-k.result in
    let clean_is = scanned _ c.mark-set.ensures c.witness_of.ensures c.opposed.ensures in
    ap (λ i. Err (Unclean i)) c.id_at.ensures ∙ sym (c.loop-j.invariant ∙ turn (c.record_of-k.ensures.held_there _) c.args.c.now (clean_is ∙ ap not c.if-opposed.true))

pub loop-j-preserved : goal.loop-j-preserved
loop-j-preserved c =
    let turn = top_clean c.args.pool.now c.args.rows.now c.args.stack.now c.loop-j.j (omega arith) (omega arith) c.record_of-k.result in
    let clean_is = scanned _ c.mark-set.ensures c.witness_of.ensures c.opposed.ensures in
    c.loop-j.invariant ∙ turn (c.record_of-k.ensures.held_there _) c.args.c.now (clean_is ∙ ap not c.if-opposed.false)

pub returns : goal.returns
returns c = sym (c.loop-j.invariant ∙ bottom_clean _ _ c.args.stack.now c.loop-j.j (omega arith) c.args.c.now)
