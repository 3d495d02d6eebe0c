-- All literals of c are left, since nothing is taken out.
use mathlib.Core.Path.{◌∙◌}
use Rattle.lit_sets.proofs.Sets.{zeros_empty}
use Rattle.judge_hints.proofs.Target.{less_nothing}
use Rattle.judge_hints.proofs.falses_of.Goals as goal

pub returns : goal.returns
returns c = c.make_false.ensures ∙ less_nothing _ c.args.c.now (rw (c.empty-nothing.ensures.0, c.empty-nothing.ensures.1) zeros_empty)
