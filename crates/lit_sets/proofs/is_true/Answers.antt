-- A literal is true where its variable has its sign.
use mathlib.Core.Path.{◌∙◌, ap, ap₂}
use mathlib.Core.Bool.{beq}
use lib.IntN.{nat_abs}
use Rattle.lit.specs.Signs.{is_natural}
use Rattle.lit.proofs.Signed.{said}
use Rattle.lit_sets.specs.Words.{assigned}
use Rattle.lit_sets.proofs.Sets.{lit_by_sign}
use Rattle.lit_sets.proofs.is_true.Goals as goal

pub returns : goal.returns
returns c =
    let v = said nat_abs c.ranges.l c.variable.ensures in
    ap₂ beq (c.value.ensures ∙ ap (assigned c.args.words.now) v) (said is_natural c.ranges.l c.is_not_negative.ensures)
    ∙ lit_by_sign (assigned c.args.words.now) c.args.l c.requires
