-- The arrays changed over are the set of the opposites.
use mathlib.Core.Path.{◌∙◌, ap}
use Rattle.lit.proofs.Signed.{said}
use Rattle.rules.specs.Terms.{Literals}
use Rattle.lit_sets.specs.Words.{set_of}
use Rattle.lit_sets.proofs.Sets.{changed_over}
use Rattle.lit_sets.proofs.LitSet.has_opposite.Goals as goal

pub returns : goal.returns
returns c =
    let a = c.args in
    said (set_of a.self.now.minus a.self.now.plus) c.ranges.l c.within.ensures
    ∙ ap (λ (S : Literals). S a.l) (changed_over a.self.now.plus a.self.now.minus)
