-- Invariant: the whole check is the check of the words left.
use mathlib.Core.Path.{refl, ◌∙◌}
use borrow.Author.Rules.{rules}
use lib.IntN.{pos}
use lib.ListN.{get_or}
use mir.Syntax.{w32}
use mir.Val.{SFits}
use Rattle.lit_clause.proofs.Faults.{ranges, faulty, sound_on, all_sound, range_is}
use Rattle.lit_clause.proofs.ranged.Goals as goal

pub returns-then-not-in_range : goal.returns-then-not-in_range
returns-then-not-in_range c =
    let fits : SFits w32 (get_or c.args.c.now c.loop-i.i (pos 0)) = search rules in
    faulty (ranges _) _ tt _ _ _ c.loop-i.invariant c.loop-i-test.true (range_is _ fits c.in_range.ensures ∙ c.if-not-in_range.true)

pub loop-i-preserved : goal.loop-i-preserved
loop-i-preserved c =
    let fits : SFits w32 (get_or c.args.c.now c.loop-i.i (pos 0)) = search rules in
    sound_on (ranges _) _ tt _ _ _ c.loop-i.invariant c.loop-i-test.true (range_is _ fits c.in_range.ensures ∙ c.if-not-in_range.false) tt refl

pub returns : goal.returns
returns c = all_sound (ranges _) _ tt _ _ _ c.loop-i.invariant c.loop-i-test.false
