-- Before each literal, what is left to be made false comes to the whole.
use mathlib.Core.Path.{refl, sym, ◌∙◌, ap}
use mathlib.Core.Bool.{not}
use borrow.Author.Rules.{rules}
use lib.IntN.{pos}
use lib.ListN.{get_or}
use mir.Syntax.{w32}
use mir.Val.{SFits}
use Rattle.rules.specs.Terms.{Literals, opposes}
use Rattle.rules.specs.Propagation.{also}
use Rattle.lit.proofs.Signed.{said}
use Rattle.lit_sets.specs.Words.{literals}
use Rattle.lit_sets.proofs.Reading.{read_in}
use Rattle.judge_hints.proofs.Target.{making_opposed, making_end, making_gone, making_kept, deny_more, deny_opposed}
use Rattle.judge_hints.proofs.make_false.Goals as goal

pub has_opposite-requires : goal.has_opposite-requires
has_opposite-requires c = read_in _ _ c.requires c.loop-l-test.true (search rules)

pub loop-l-preserved-then-has_opposite : goal.loop-l-preserved-then-has_opposite
loop-l-preserved-then-has_opposite c =
    let W : Literals = literals c.args.witness.now in
    let fits : SFits w32 (get_or c.args.c.now c.loop-l.l-index (pos 0)) = search rules in
    making_gone _ _ c.loop-l.invariant c.loop-l-test.true (ap not (sym (said (opposes W) fits c.has_opposite.ensures) ∙ c.if-has_opposite.true))

pub has_opposite-requires-in-loop-l : goal.has_opposite-requires-in-loop-l
has_opposite-requires-in-loop-l c = read_in _ _ c.requires c.loop-l-test.true (search rules)

pub returns-then-has_opposite-2 : goal.returns-then-has_opposite-2
returns-then-has_opposite-2 c =
    let W : Literals = literals c.args.witness.now in
    let F : Literals = literals c.loop-l.falses in
    let fits : SFits w32 (get_or c.args.c.now c.loop-l.l-index (pos 0)) = search rules in
    making_opposed _ _ (making_kept _ _ c.loop-l.invariant c.loop-l-test.true (ap not (sym (said (opposes W) fits c.has_opposite.ensures) ∙ c.if-has_opposite.false))
    (deny_opposed F _ (said (opposes F) fits c.has_opposite-in-loop-l.ensures) c.if-has_opposite-2.true)) refl

pub insert-requires : goal.insert-requires
insert-requires c = read_in _ _ c.requires c.loop-l-test.true (search rules)

pub loop-l-preserved : goal.loop-l-preserved
loop-l-preserved c =
    let W : Literals = literals c.args.witness.now in
    let F : Literals = literals c.loop-l.falses in
    let fits : SFits w32 (get_or c.args.c.now c.loop-l.l-index (pos 0)) = search rules in
    making_kept _ _ c.loop-l.invariant c.loop-l-test.true (ap not (sym (said (opposes W) fits c.has_opposite.ensures) ∙ c.if-has_opposite.false))
    (deny_more F _ (said (opposes F) fits c.has_opposite-in-loop-l.ensures) c.if-has_opposite-2.false (said (λ z. also z F) fits c.insert.ensures))

pub returns : goal.returns
returns c = making_end _ _ c.loop-l.invariant c.loop-l-test.false
