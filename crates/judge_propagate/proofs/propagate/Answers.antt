-- Before each hint, what is left of the paper's run comes to the whole run; within a clause, what is left of its reading comes to the whole reading.
-- So each way out of the loops is one law of Runs, with one of Scan.
use mathlib.Core.Path.{◌≡◌, refl, sym, ◌∙◌, ap}
use mathlib.Core.Bool.{true}
use borrow.Author.Rules.{rules}
use lib.IntN.{ℤ, pos, neg_ℤ}
use lib.ListN.{get_or}
use mir.Syntax.{w32}
use mir.Val.{SFits}
use mir.Facts.{to_z-of_z}
use Rattle.std.specs.Prelude.{Some, None}
use Rattle.rules.specs.Terms.{Literals, in_range, opposes}
use Rattle.rules.specs.Propagation.{also}
use Rattle.rules.proofs.Lists.{all_index}
use Rattle.lit.proofs.Signed.{said, opposite_back, opposite_in}
use Rattle.lit_sets.specs.Words.{literals}
use Rattle.lit_sets.proofs.Reading.{read_in}
use Rattle.judge_propagate.proofs.Allowed.{by_bits, named_by}
use Rattle.judge_propagate.proofs.Scan.{scan_start, scan_false, scan_bad, scan_open, scan_conflict, scan_forced, none_yet, none_met}
use Rattle.judge_propagate.proofs.Runs.{run_used_up, run_nobody, run_conflict, run_bad, run_forced}
use Rattle.judge_propagate.proofs.propagate.Goals as goal
use Rattle.judge_propagate.proofs.propagate.Goals.{then-is_some-via-then-is_some, then-is_some-via-else-is_some+then-has_opposite}

pub loop-l-init : goal.loop-l-init
loop-l-init c = (scan_start _ _, refl)

pub has-requires : goal.has-requires
has-requires c =
    let hint_fits : SFits w32 (get_or c.args.hints.now c.hints.h (pos 0)) = search rules in
    let there = by_bits c.args.rows.now c.args.scope hint_fits (Some c.in-Some.k) c.in-Some.ensures in
    read_in _ _ (rw c.clause_of-clause.ensures (c.requires.ranged _ there.0)) c.loop-l-test.true (search rules)

pub loop-l-preserved-then-has : goal.loop-l-preserved-then-has
loop-l-preserved-then-has c =
    let fits : SFits w32 (get_or c.clause_of-clause.result.now c.loop-l.l-index (pos 0)) = search rules in
    (scan_false c.loop-l.invariant.0 c.loop-l-test.true (sym (said (literals _) fits c.has.ensures) ∙ c.if-has.true), c.loop-l.invariant.1)

pub has_opposite-requires : goal.has_opposite-requires
has_opposite-requires c =
    let hint_fits : SFits w32 (get_or c.args.hints.now c.hints.h (pos 0)) = search rules in
    let there = by_bits c.args.rows.now c.args.scope hint_fits (Some c.in-Some.k) c.in-Some.ensures in
    read_in _ _ (rw c.clause_of-clause.ensures (c.requires.ranged _ there.0)) c.loop-l-test.true (search rules)

pub loop-l-preserved : goal.loop-l-preserved
loop-l-preserved c =
    let F : Literals = literals c.hints.falses in
    let hint_fits : SFits w32 (get_or c.args.hints.now c.hints.h (pos 0)) = search rules in
    let there = by_bits c.args.rows.now c.args.scope hint_fits (Some c.in-Some.k) c.in-Some.ensures in
    let fits : SFits w32 (get_or c.clause_of-clause.result.now c.loop-l.l-index (pos 0)) = search rules in
    let ranged : in_range 2048 (get_or c.clause_of-clause.result.now c.loop-l.l-index (pos 0)) ≡ true =
    all_index (in_range 2048) _ _ _ c.loop-l-test.true (rw c.clause_of-clause.ensures (c.requires.ranged _ there.0)) in (
      rw (to_z-of_z fits)
          (scan_open c.loop-l.invariant.0 c.loop-l-test.true (none_met c.is_some.ensures c.if-is_some.false) ranged
          (sym (said F fits c.has.ensures) ∙ c.if-has.false) (sym (said (opposes F) fits c.has_opposite.ensures) ∙ c.if-has_opposite.false)),
      c.loop-l.invariant.1,
    )

pub insert-requires : goal.insert-requires
insert-requires c =
    let fits : SFits w32 c.in-Some-open.forced = search rules in
    let ranged = (c.loop-l.invariant.0.kept _ c.in-Some-open.is).1 in
    rw (opposite_back _ _ ranged (said neg_ℤ fits c.opposite.ensures)) (opposite_in 2048 c.in-Some-open.forced ranged)

pub hints-preserved : goal.hints-preserved
hints-preserved c =
    let hint_fits : SFits w32 (get_or c.args.hints.now c.hints.h (pos 0)) = search rules in
    let fits : SFits w32 c.in-Some-open.forced = search rules in
    let n = opposite_back _ _ (c.loop-l.invariant.0.kept _ c.in-Some-open.is).1 (said neg_ℤ fits c.opposite.ensures) in
    rw c.loop-l.invariant.1
    (run_forced c.hints.invariant c.hints-test.true _
    (named_by c.args.rows.now c.args.scope hint_fits _ c.in-Some.ensures c.args.pool.now c.clause_of-clause.ensures) _ (
      c.in-Some-open.forced,
      scan_forced c.loop-l.invariant.0 c.loop-l-test.false _ c.in-Some-open.is,
      c.insert.ensures ∙ ap (λ (u : ℤ). also u (literals c.hints.falses)) n,
    ))

pub returns-after-hints : goal.returns-after-hints
returns-after-hints c = run_used_up c.hints.invariant (search rules)

pub returns-in_default : goal.returns-in_default
returns-in_default c =
    let hint_fits : SFits w32 (get_or c.args.hints.now c.hints.h (pos 0)) = search rules in
    run_nobody c.hints.invariant c.hints-test.true (by_bits c.args.rows.now c.args.scope hint_fits None c.in_default.ensures c.args.pool.now)

pub returns-then-is_some : goal.returns-then-is_some
returns-then-is_some c =
    let F : Literals = literals c.hints.falses in
    let hint_fits : SFits w32 (get_or c.args.hints.now c.hints.h (pos 0)) = search rules in
    let fits : SFits w32 (get_or c.clause_of-clause.result.now c.loop-l.l-index (pos 0)) = search rules in
    run_bad c.hints.invariant c.hints-test.true _
    (named_by c.args.rows.now c.args.scope hint_fits _ c.in-Some.ensures c.args.pool.now c.clause_of-clause.ensures) _ (
      scan_bad c.loop-l.invariant.0 c.loop-l-test.true (sym (said F fits c.has.ensures) ∙ c.if-has.false) (λ z. elim c.then-is_some.branch [
        | then-is_some-via-then-is_some w ↦ absurd (none_yet z c.is_some.ensures w.if-is_some.true)
        | then-is_some-via-else-is_some+then-has_opposite w ↦ sym (said (opposes F) fits w.has_opposite.ensures) ∙ w.if-has_opposite.true
      ]),
      refl,
    )

pub returns-in_default-open : goal.returns-in_default-open
returns-in_default-open c =
    let hint_fits : SFits w32 (get_or c.args.hints.now c.hints.h (pos 0)) = search rules in
    run_conflict c.hints.invariant c.hints-test.true _
    (named_by c.args.rows.now c.args.scope hint_fits _ c.in-Some.ensures c.args.pool.now c.clause_of-clause.ensures) _
    (scan_conflict c.loop-l.invariant.0 c.loop-l-test.false c.in_default-open.is, refl)
