-- The sign picks the array, the variable the bit.
use mathlib.Core.Path.{sym, ◌∙◌, ap}
use lib.IntN.{nat_abs}
use Rattle.lit.specs.Signs.{is_natural}
use Rattle.lit.proofs.Signed.{said}
use Rattle.lit_sets.specs.Words.{assigned}
use Rattle.lit_sets.proofs.Sets.{has_positive, has_negative}
use Rattle.lit_sets.proofs.within.Goals as goal

pub returns-then-is_not_negative : goal.returns-then-is_not_negative
returns-then-is_not_negative c =
    let v = said nat_abs c.ranges.l c.variable-v.ensures in
    let b = said is_natural c.ranges.l c.is_not_negative.ensures in
    c.value.ensures ∙ ap (assigned _) v ∙ has_positive _ _ c.args.l (sym b ∙ c.if-is_not_negative.true)

pub returns : goal.returns
returns c =
    let v = said nat_abs c.ranges.l c.variable-v.ensures in
    let b = said is_natural c.ranges.l c.is_not_negative.ensures in
    c.value-2.ensures ∙ ap (assigned _) v ∙ has_negative _ _ c.args.l (sym b ∙ c.if-is_not_negative.false)
