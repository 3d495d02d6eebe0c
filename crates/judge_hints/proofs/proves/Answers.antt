-- A target made false literal by literal is the paper's.
use Rattle.judge_hints.proofs.Target.{proved}
use Rattle.judge_hints.proofs.proves.Goals as goal

pub returns : goal.returns
returns c = proved _ _ _ c.falses_of.ensures c.judge.ensures
