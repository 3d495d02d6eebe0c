-- Invariant: the literals of the list are those in the set and those left.
use borrow.Author.Rules.{rules}
use lib.IntN.{ℤ, pos}
use lib.ListN.{get_or}
use mir.Syntax.{w32}
use mir.Val.{SFits}
use Rattle.rules.specs.Propagation.{also}
use Rattle.lit.proofs.Signed.{said}
use Rattle.lit_sets.specs.Words.{literals}
use Rattle.lit_sets.proofs.Reading.{read_in}
use Rattle.lit_clause.proofs.Reading.{none_marked, marked, all_marked}
use Rattle.lit_clause.proofs.mark.Goals as goal

pub loop-l-init : goal.loop-l-init
loop-l-init c = rw (c.empty-set.ensures.0, c.empty-set.ensures.1) (none_marked _)

pub insert-requires : goal.insert-requires
insert-requires c = read_in _ _ c.requires c.loop-l-test.true (search rules)

pub loop-l-preserved : goal.loop-l-preserved
loop-l-preserved c =
    let fits : SFits w32 (get_or c.args.c.now c.loop-l.l-index (pos 0)) = search rules in
    let more = said (λ (l : ℤ). also l (literals c.loop-l.set)) fits c.insert.ensures in
    marked _ _ _ _ c.loop-l.invariant c.loop-l-test.true _ more

pub returns : goal.returns
returns c = all_marked _ _ _ _ c.loop-l.invariant c.loop-l-test.false
