-- Invariant: the whole check is the check of the words left, above the last variable.
use mathlib.Core.Path.{◌∙◌}
use borrow.Author.Rules.{rules}
use borrow.Author.Tests.{lt-ltb, le-ltb}
use lib.IntN.{pos}
use lib.ListN.{get_or}
use mir.Syntax.{w32}
use mir.Val.{SFits}
use Rattle.rules.specs.Frames.{number}
use Rattle.lit.proofs.Signed.{said}
use Rattle.lit_clause.proofs.Faults.{ascents, faulty, sound_on, all_sound, out, rises}
use Rattle.lit_clause.proofs.ascending.Goals as goal

pub returns-then-not-in_range : goal.returns-then-not-in_range
returns-then-not-in_range c =
    let fits : SFits w32 (get_or c.args.vs.now c.loop-i.i (pos 0)) = search rules in
    faulty (ascents _) _ _ _ _ _ c.loop-i.invariant c.loop-i-test.true (out _ fits c.in_range.ensures c.if-not-in_range.true _)

pub returns-then-v-last : goal.returns-then-v-last
returns-then-v-last c =
    let fits : SFits w32 (get_or c.args.vs.now c.loop-i.i (pos 0)) = search rules in
    let above = rises _ fits c.in_range.ensures c.if-not-in_range.false c.loop-i.last c.number-v.ensures.0 in
    faulty (ascents _) _ _ _ _ _ c.loop-i.invariant c.loop-i-test.true (above ∙ le-ltb _ _ c.if-v-last.true)

pub loop-i-preserved : goal.loop-i-preserved
loop-i-preserved c =
    let fits : SFits w32 (get_or c.args.vs.now c.loop-i.i (pos 0)) = search rules in
    let above = rises _ fits c.in_range.ensures c.if-not-in_range.false c.loop-i.last c.number-v.ensures.0 in
    sound_on (ascents _) _ _ _ _ _ c.loop-i.invariant c.loop-i-test.true (above ∙ lt-ltb _ _ c.if-v-last.false) _ (said number fits c.number-v.ensures.0)

pub returns : goal.returns
returns c = all_sound (ascents _) _ _ _ _ _ c.loop-i.invariant c.loop-i-test.false
