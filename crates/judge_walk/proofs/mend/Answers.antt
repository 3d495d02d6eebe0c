-- Invariant: mending what is left mends the whole.
use Prim.Native.Nat.{◌-◌}
use mathlib.Core.Path.{sym, ◌∙◌, ap}
use native.Mathlib.Omega.{arith}
use Rattle.rules.specs.Frames.{make, mend}
use Rattle.rules.specs.Terms.{sat}
use Rattle.lit_sets.specs.Words.{assigned}
use Rattle.judge_walk.proofs.Walks.{below, has_stacked, top_true, top_false, bottom}
use Rattle.judge_walk.proofs.mend.Goals as goal

pub record_of-k-requires : goal.record_of-k-requires
record_of-k-requires c = (c.requires.0.rising, sym (has_stacked c.args.pool.now _ _) ∙ c.requires.1 (c.loop-j.j - 1) (omega arith))

pub loop-j-preserved-then-not-satisfied : goal.loop-j-preserved-then-not-satisfied
loop-j-preserved-then-not-satisfied c =
    let turn = top_false c.args.pool.now c.args.rows.now c.args.stack.now c.loop-j.j (omega arith) (omega arith) c.record_of-k.result in
    let truth = ap (sat _) (sym c.clause_of.ensures) ∙ sym c.satisfied.ensures in
    let made = c.make_true-words.ensures ∙ ap (make (assigned c.loop-j.words)) c.witness_of.ensures in
    c.loop-j.invariant ∙ turn (c.record_of-k.ensures.held_there _) (assigned c.loop-j.words) (truth ∙ c.if-not-satisfied.true)
    ∙ sym (ap (λ β. mend β (below c.args.pool.now c.args.rows.now c.args.stack.now (c.loop-j.j - 1))) made)

pub loop-j-preserved : goal.loop-j-preserved
loop-j-preserved c =
    let turn = top_true c.args.pool.now c.args.rows.now c.args.stack.now c.loop-j.j (omega arith) (omega arith) c.record_of-k.result in
    let truth = ap (sat _) (sym c.clause_of.ensures) ∙ sym c.satisfied.ensures in
    c.loop-j.invariant ∙ turn (c.record_of-k.ensures.held_there _) (assigned c.loop-j.words) (truth ∙ c.if-not-satisfied.false)

pub returns : goal.returns
returns c = sym (c.loop-j.invariant ∙ bottom _ _ c.args.stack.now c.loop-j.j (omega arith) (assigned c.loop-j.words))
