-- Document 01's whole example: the definitions give its output for its input.
use mathlib.Core.Path.{◌≡◌, refl}
use mathlib.Core.Bool.{xor}
use mathlib.Core.List.{List, [], ◌∷◌, ◌++◌}
use Prim.Native.Nat.{ℕ}
use Prim.Native.Char.{code}
use Prim.Native.String.{String, [] as end, ◌∷◌ as ◌on◌}
use Rattle.rules.specs.Lists.{any_passes, all_pass, only}
use Rattle.rules.specs.Terms.{lit, upd, fetch, room}
use Rattle.rules.specs.Frames.{framed_if, parse, without, above, place, put, make, mend}
use Rattle.rules.specs.Answers.{◌then◌, need, flaw, ranged, ascending, cleanly, groups, satisfied, assumed_true, check, differing, outcome}
use Rattle.rules.specs.Outcomes.{trues}
use Rattle.line_hex.specs.Hex.{digit, value_at, signed, glyph, hex}
use Rattle.line_read.specs.Lines.{closed_lines, unclosed, words_of, frame_of, in_hex, numbered, replies, program, output}

-- a text and 0A
pub line : String → List ℕ
line end = 10 ∷ []
line (c on s) = code c ∷ line s

pub input : List ℕ
input =
    line "00000001000000010000000100000002"
    ++ line "00000006000000010000000100000001"
    ++ line "0000000800000000"
    ++ line "0000000100000002ffffffff"
    ++ line "0000000700000001"
    ++ line "0000000100000002ffffffff"

pub expected : List ℕ
expected =
    line "0000000000000000"
    ++ line "0000000000000000"
    ++ line "000000000000000100000001"
    ++ line "0000000500000001"
    ++ line "0000000000000000"
    ++ line "0000000000000000"

pub example : output input ≡ expected
unfolding line input expected digit value_at signed glyph hex closed_lines unclosed words_of frame_of in_hex numbered replies program trues any_passes all_pass
    only lit upd fetch room framed_if parse without above place put make mend ◌then◌ need flaw ranged ascending cleanly groups satisfied assumed_true check
    differing outcome xor
example = refl
