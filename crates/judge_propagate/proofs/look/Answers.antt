-- Within a clause, what is left of its reading comes to the whole reading: each way out of the loop is one law of Scan.
use mathlib.Core.Path.{◌≡◌, refl, sym, ◌∙◌, ap}
use mathlib.Core.Bool.{true}
use borrow.Author.Rules.{rules}
use lib.IntN.{ℤ, pos, neg_ℤ}
use lib.ListN.{get_or}
use mir.Syntax.{w32}
use mir.Val.{SFits}
use mir.Facts.{to_z-of_z}
use Rattle.rules.specs.Terms.{Literals, in_range, opposes}
use Rattle.rules.specs.Propagation.{also}
use Rattle.rules.proofs.Lists.{all_index}
use Rattle.lit.proofs.Signed.{said, opposite_back, opposite_in}
use Rattle.lit_sets.specs.Words.{literals}
use Rattle.lit_sets.proofs.Reading.{read_in}
use Rattle.judge_propagate.proofs.Scan.{scan_start, scan_false, scan_bad, scan_open, scan_conflict, scan_forced, none_yet, none_met}
use Rattle.judge_propagate.proofs.look.Goals as goal
use Rattle.judge_propagate.proofs.look.Goals.{then-is_some-via-then-is_some, then-is_some-via-else-is_some+then-has_opposite}

pub loop-literal-init : goal.loop-literal-init
loop-literal-init c = scan_start _ _

pub has-requires : goal.has-requires
has-requires c = read_in _ _ c.requires c.loop-literal-test.true (search rules)

pub loop-literal-preserved-then-has : goal.loop-literal-preserved-then-has
loop-literal-preserved-then-has c =
    let fits : SFits w32 (get_or c.args.clause.now c.loop-literal.literal-index (pos 0)) = search rules in
    scan_false c.loop-literal.invariant c.loop-literal-test.true (sym (said (literals _) fits c.has.ensures) ∙ c.if-has.true)

pub has_opposite-requires : goal.has_opposite-requires
has_opposite-requires c = read_in _ _ c.requires c.loop-literal-test.true (search rules)

pub returns-then-is_some : goal.returns-then-is_some
returns-then-is_some c =
    let F : Literals = literals c.args.falses.now in
    let fits : SFits w32 (get_or c.args.clause.now c.loop-literal.literal-index (pos 0)) = search rules in (
      scan_bad c.loop-literal.invariant c.loop-literal-test.true (sym (said F fits c.has.ensures) ∙ c.if-has.false) (λ z. elim c.then-is_some.branch [
        | then-is_some-via-then-is_some w ↦ absurd (none_yet z c.is_some.ensures w.if-is_some.true)
        | then-is_some-via-else-is_some+then-has_opposite w ↦ sym (said (opposes F) fits w.has_opposite.ensures) ∙ w.if-has_opposite.true
      ]),
      refl,
    )

pub loop-literal-preserved : goal.loop-literal-preserved
loop-literal-preserved c =
    let F : Literals = literals c.args.falses.now in
    let fits : SFits w32 (get_or c.args.clause.now c.loop-literal.literal-index (pos 0)) = search rules in
    let ranged : in_range 2048 (get_or c.args.clause.now c.loop-literal.literal-index (pos 0)) ≡ true = all_index (in_range 2048) _ _ _ c.loop-literal-test.true c.requires in
    rw (to_z-of_z fits)
    (scan_open c.loop-literal.invariant c.loop-literal-test.true (none_met c.is_some.ensures c.if-is_some.false) ranged
    (sym (said F fits c.has.ensures) ∙ c.if-has.false) (sym (said (opposes F) fits c.has_opposite.ensures) ∙ c.if-has_opposite.false))

pub returns-in_default : goal.returns-in_default
returns-in_default c = (scan_conflict c.loop-literal.invariant c.loop-literal-test.false c.in_default.is, refl)

pub insert-requires : goal.insert-requires
insert-requires c =
    let fits : SFits w32 c.in-Some.unit = search rules in
    let ranged = (c.loop-literal.invariant.kept _ c.in-Some.is).1 in
    rw (opposite_back _ _ ranged (said neg_ℤ fits c.opposite.ensures)) (opposite_in 2048 c.in-Some.unit ranged)

pub returns : goal.returns
returns c =
    let fits : SFits w32 c.in-Some.unit = search rules in
    let n = opposite_back _ _ (c.loop-literal.invariant.kept _ c.in-Some.is).1 (said neg_ℤ fits c.opposite.ensures) in (
      c.in-Some.unit,
      scan_forced c.loop-literal.invariant c.loop-literal-test.false _ c.in-Some.is,
      c.insert.ensures ∙ ap (λ (u : ℤ). also u (literals c.args.falses.now)) n,
    )
