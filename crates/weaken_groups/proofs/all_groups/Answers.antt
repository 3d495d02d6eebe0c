-- Invariant: what the groups come to is what those of the rows left come to, from the word `at` on.
use mathlib.Core.Path.{◌≡◌, sym, ◌∙◌}
use Prim.Native.Nat.{◌+◌}
use native.Mathlib.Omega.{arith}
use borrow.Author.Rules.{rules}
use Rattle.lit_sets.specs.Words.{literals}
use Rattle.judge_checks.proofs.Order.{handed_on}
use Rattle.weaken_groups.proofs.Due.{due_are, judged, passed, words_left, all_judged}
use Rattle.weaken_groups.proofs.all_groups.Goals as goal
use Rattle.weaken_groups.proofs.all_groups.Goals.{then-needs_group+in_ok-at, else-needs_group}

pub loop-d-init : goal.loop-d-init
loop-d-init c =
    let e = due_are c.args.id c.args.pool.now (literals c.args.witness.now) c.args.rows.now c.requires.0.rising in
    let z : c.args.from + 0 ≡ c.args.from = omega arith in
    (search rules, rw (e, z))

pub returns-in_err-at : goal.returns-in_err-at
returns-in_err-at c =
    let q = judged _ _ _ _ _ _ _ _ _ _ _ c.loop-d.invariant.1 c.loop-d-test.true (sym c.needs_group.ensures ∙ c.if-needs_group.true) _ c.group.ensures in
    handed_on _ _ c.from_residual.ensures.1 ∙ sym (rw c.in_err-at.was at q)

pub loop-d-preserved : goal.loop-d-preserved
loop-d-preserved c =
    elim c.if-needs_group.branch [
      | then-needs_group+in_ok-at w ↦
          let q = judged _ _ _ _ _ _ _ _ _ _ _ c.loop-d.invariant.1 c.loop-d-test.true (sym c.needs_group.ensures ∙ w.if-needs_group.true) _ w.group.ensures in
          rw w.at-is (w.in_ok-at.ensures.ahead.1, rw w.in_ok-at.was at q)
      | else-needs_group w ↦ rw w.at-is (
        c.loop-d.invariant.0,
        passed _ _ _ _ _ _ _ _ _ _ _ c.loop-d.invariant.1 c.loop-d-test.true (sym c.needs_group.ensures ∙ w.if-needs_group.false),
      )
    ]

pub returns-then-at-groups : goal.returns-then-at-groups
returns-then-at-groups c = words_left _ _ _ _ _ _ _ _ _ _ _ c.loop-d.invariant.1 c.loop-d-test.false c.if-at-groups.true

pub returns : goal.returns
returns c = all_judged _ _ _ _ _ _ _ _ _ _ _ c.loop-d.invariant.1 c.loop-d-test.false c.if-at-groups.false
