-- Document 01, "Tables and hexadecimal lines": the line of a frame, and that of a text's fault in the same form.
use Rattle.std.specs.Prelude.{Bool, ◌&&◌, List, [], ◌∷◌, ◌++◌, ℕ, leb, ℤ, length}
use Rattle.rules.specs.Lists.{all_pass}
use Rattle.dimacs.specs.Reading.{fault_numbers}
use Rattle.dimacs.specs.declared.TextFault.{TextFault}
use Rattle.line_hex.specs.Hex.{is_word, unsigned, hex}

-- "eight lowercase hexadecimal digits a word": the words, one after the other
unfoldable pub words_in_hex : List ℤ → List ℕ
words_in_hex [] = []
words_in_hex (x ∷ xs) = hex 8 (unsigned x) ++ words_in_hex xs

-- a frame that a line can hold: words of 32 bits, at most 4,096, since a line is of at most 32,768 digits
abbrev pub fits_line : List ℤ → Bool
fits_line ws = leb (length ws) 4096 && all_pass is_word ws

-- "each line closed by 0A"
abbrev pub frame_line : List ℤ → List ℕ
frame_line ws = words_in_hex ws ++ (10 ∷ [])

unfoldable pub frame_lines : List (List ℤ) → List ℕ
frame_lines [] = []
frame_lines (f ∷ fs) = frame_line f ++ frame_lines fs

-- number and position of the fault
abbrev pub fault_line : TextFault → List ℕ
fault_line f = hex 8 (fault_numbers f).0 ++ (hex 8 (fault_numbers f).1 ++ (10 ∷ []))
