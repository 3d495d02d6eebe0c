-- The definitions give document 01's sixteen marked outcomes, by computing.
use mathlib.Core.Path.{◌≡◌, refl}
use mathlib.Core.Bool.{xor}
use mathlib.Core.List.{map}
use Rattle.rules.specs.Lists.{any_passes, all_pass, only}
use Rattle.rules.specs.Terms.{lit, upd, fetch, room}
use Rattle.rules.specs.Propagation.{among, read, run, proves}
use Rattle.rules.specs.Frames.{framed_if, parse, without, above, place, put, make, mend}
use Rattle.rules.specs.Answers.{◌then◌, need, flaw, ranged, ascending, cleanly, groups, satisfied, assumed_true, check, differing, outcome}
use Rattle.rules.specs.Outcomes.{said, trues, answers, expected_of, sixteen}

pub sixteen_marked_outcomes : map answers sixteen ≡ map expected_of sixteen
unfolding sixteen said trues any_passes all_pass only lit upd fetch room among read run proves framed_if parse without above place put make mend ◌then◌ need
    flaw ranged ascending cleanly groups satisfied assumed_true check differing outcome xor
sixteen_marked_outcomes = refl
