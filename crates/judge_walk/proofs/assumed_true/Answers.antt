-- Invariant: the whole check is the check of the assumptions left.
use mathlib.Core.Path.{refl, sym, ◌∙◌}
use borrow.Author.Rules.{rules}
use lib.IntN.{pos}
use lib.ListN.{get_or}
use mir.Syntax.{w32}
use mir.Val.{SFits}
use Rattle.rules.specs.Terms.{lit}
use Rattle.lit.proofs.Signed.{said}
use Rattle.lit_sets.specs.Words.{assigned}
use Rattle.lit_sets.proofs.Reading.{read_in}
use Rattle.lit_clause.proofs.Faults.{faulty, sound_on, all_sound}
use Rattle.judge_walk.proofs.Walks.{assumptions}
use Rattle.judge_walk.proofs.assumed_true.Goals as goal

pub is_true-requires : goal.is_true-requires
is_true-requires c = read_in _ _ c.requires.2 c.loop-i-test.true (search rules)

pub returns-then-not-is_true : goal.returns-then-not-is_true
returns-then-not-is_true c =
    let fits : SFits w32 (get_or c.args.c.now c.loop-i.i (pos 0)) = search rules in
    faulty (assumptions _) _ tt _ _ _ c.loop-i.invariant c.loop-i-test.true (sym (said (lit (assigned _)) fits c.is_true.ensures) ∙ c.if-not-is_true.true)

pub loop-i-preserved : goal.loop-i-preserved
loop-i-preserved c =
    let fits : SFits w32 (get_or c.args.c.now c.loop-i.i (pos 0)) = search rules in
    sound_on (assumptions _) _ tt _ _ _ c.loop-i.invariant c.loop-i-test.true (sym (said (lit (assigned _)) fits c.is_true.ensures) ∙ c.if-not-is_true.false) tt refl

pub returns : goal.returns
returns c = all_sound (assumptions _) _ tt _ _ _ c.loop-i.invariant c.loop-i-test.false
