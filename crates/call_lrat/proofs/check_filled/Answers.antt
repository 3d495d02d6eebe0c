use mathlib.Core.Path.{◌∙◌}
use borrow.Author.Rules.{rules}
use Rattle.call_lrat.proofs.Checking.{start_run, start_feedable, whole_told}
use Rattle.call_lrat.proofs.check_filled.Goals as goal

pub feed-fed-requires : goal.feed-fed-requires
feed-fed-requires c = start_feedable c.start-start.ensures (search rules) c.requires

pub returns : goal.returns
returns c = whole_told _ c.requires.vars_fit.1 _ (c.feed-fed.ensures.moved ∙ start_run c.start-start.ensures c.empty-falses.ensures _ _ _) c.finish-ended.ensures.moved c.told.ensures
