-- The sign picks the array in which the variable is set.
use mathlib.Core.Path.{sym, ◌∙◌, ap}
use mathlib.Core.Bool.{true}
use Prim.Native.Nat.{ℕ}
use lib.IntN.{nat_abs}
use Rattle.rules.specs.Terms.{upd}
use Rattle.lit.specs.Signs.{is_natural}
use Rattle.lit.proofs.Signed.{said}
use Rattle.lit_sets.specs.Words.{assigned}
use Rattle.lit_sets.proofs.Sets.{also_positive, also_negative}
use Rattle.lit_sets.proofs.LitSet.insert.Goals as goal

pub returns-then-is_not_negative : goal.returns-then-is_not_negative
returns-then-is_not_negative c =
    let v = said nat_abs c.ranges.l c.variable-v.ensures in
    let b = said is_natural c.ranges.l c.is_not_negative.ensures in
    also_positive _ _ _ c.args.l (sym b ∙ c.if-is_not_negative.true) (c.set_to.ensures ∙ ap (λ (n : ℕ). upd (assigned c.args.self.now.plus) n true) v)

pub returns-else-is_not_negative : goal.returns-else-is_not_negative
returns-else-is_not_negative c =
    let v = said nat_abs c.ranges.l c.variable-v.ensures in
    let b = said is_natural c.ranges.l c.is_not_negative.ensures in
    also_negative _ _ _ c.args.l (sym b ∙ c.if-is_not_negative.false)
    (c.set_to-else-is_not_negative.ensures ∙ ap (λ (n : ℕ). upd (assigned c.args.self.now.minus) n true) v)
