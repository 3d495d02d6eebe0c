-- The variables are positive literals, so to offer them is to make them true from nothing.
use mathlib.Core.Path.{◌∙◌, ap}
use Rattle.rules.specs.Terms.{Assignment}
use Rattle.rules.specs.Frames.{make}
use Rattle.lit_sets.proofs.Assigned.{zeros_unset}
use Rattle.lit_sets.proofs.Made.{offered_made}
use Rattle.lit_sets.proofs.offer.Goals as goal

pub returns : goal.returns
returns c = c.make_true.ensures ∙ ap (λ (α : Assignment). make α c.args.vs.now) zeros_unset ∙ offered_made c.args.vs.now c.requires.0 c.requires.1
