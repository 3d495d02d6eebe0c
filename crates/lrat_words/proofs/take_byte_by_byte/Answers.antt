use Rattle.std.proofs.Common.{rules, sym, ◌∙◌}
use Rattle.lrat_words.proofs.Pushing.{pushed_more, pushed_none}
use Rattle.lrat_words.proofs.take_byte_by_byte.Goals as goal

pub loop-i-init : goal.loop-i-init
loop-i-init c = pushed_none _ _ _ c.requires

pub loop-i-preserved : goal.loop-i-preserved
loop-i-preserved c =
    pushed_more c.loop-i.invariant (search rules) (sym c.is_blank.ensures ∙ c.if-is_blank.false) c.push-word.ensures
