-- The same, in two parts.
use mathlib.Core.Path.{refl, sym}
use Rattle.judge_hints.proofs.Target.{in_two_parts, make_false_opposed, proved}
use Rattle.judge_hints.proofs.proves_with.Goals as goal

pub returns-in_default : goal.returns-in_default
returns-in_default c = proved _ _ _ (in_two_parts _ _ c.in_default.ensures (sym (make_false_opposed _))) refl

pub returns : goal.returns
returns c = proved _ _ _ (in_two_parts _ _ c.in-Some.ensures c.make_false.ensures) c.judge.ensures
