-- Printed frames read back as those frames: a line holds the digits of the words and no 0A, eight digits are their word, and 0A closes the line.
use mathlib.Core.Path.{◌≡◌, refl, sym, ap, ap₂, ◌∙◌}
use mathlib.Core.Bool.{true, false}
use mathlib.Core.List.{List, [], ◌∷◌, ◌++◌, map, append_assoc, append-nil}
use mathlib.Core.Option.{some}
use Prim.Native.Nat.{ℕ, zero, suc, ◌*◌, ◌/◌, ◌%◌, ◌^◌, ◌≤◌, ◌<◌}
use native.Mathlib.Omega.{arith}
use lib.Dec.{eqb, leb}
use lib.IntN.{ℤ, pos}
use lib.ListN.{length, get_or, take, drop as drop-list, take-append-drop}
use lib.Seq.{take-suc, take-length, drop-cons, length-take-le}
use borrow.Author.Tests.{lt-ltb, le-leb, leb-true, eq-eqb}
use Rattle.rules.specs.Lists.{all_pass}
use Rattle.rules.specs.Terms.{State}
use Rattle.rules.proofs.Lists.{not-true, and_left, and_right, all_nil, all_cons, all_append, all_head, all_tail, all_index}
use Rattle.text.specs.Places.{goes_on}
use Rattle.line_hex.specs.Hex.{digit, is_digit, value_at, signed, is_word, unsigned, glyph, hex}
use Rattle.line_hex.proofs.Signed.{unsigned_few, signed_unsigned}
use Rattle.line_hex.proofs.Written.{glyph_digit, word_value}
use Rattle.line_read.specs.Lines.{closed_lines, unclosed, words_of, frame_of, line_outcome, reply, replies, program}
use Rattle.line_read.specs.Parts.{replied}
use Rattle.line_read.proofs.Parts.{digits_go_on}
use Rattle.dimacs_lines.specs.Lines.{words_in_hex, fits_line, frame_lines}
use Rattle.dimacs_lines.proofs.Framing.{words_length, words_append}

-- ---- a line

hex_digits : (k n : ℕ) → all_pass is_digit (hex k n) ≡ true
unfolding hex
hex_digits zero n = all_nil is_digit
hex_digits (suc k) n =
    let g = glyph (n / 16 ^ k % 16) in
    all_cons is_digit g (hex k n) (lt-ltb (digit g) 16 (omega (arith, glyph_digit (n / 16 ^ k % 16) (omega arith)))) (hex_digits k n)

words_digits : (ws : List ℤ) → all_pass is_digit (words_in_hex ws) ≡ true
unfolding words_in_hex
words_digits [] = all_nil is_digit
words_digits (w ∷ ws) = all_append is_digit (hex 8 (unsigned w)) (words_in_hex ws) (hex_digits 8 (unsigned w)) (words_digits ws)

-- the digits of word k stand behind those of the first k
words_around : (ws : List ℤ) (k : ℕ) → k < length ws →
    words_in_hex ws ≡ words_in_hex (take k ws) ++ (hex 8 (unsigned (get_or ws k (pos 0))) ++ words_in_hex (drop-list (suc k) ws))
unfolding words_in_hex
words_around ws k h =
    ap words_in_hex (sym (take-append-drop k ws))
    ∙ words_append (take k ws) (drop-list k ws)
    ∙ ap (λ l. words_in_hex (take k ws) ++ words_in_hex l) (drop-cons ws k (pos 0) h)

module _ (ws : List ℤ) (a : all_pass is_word ws ≡ true) where
  word_back : (k : ℕ) → k < length ws → signed (value_at (words_in_hex ws) (8 * k) 8) ≡ get_or ws k (pos 0)
  word_back k h =
      let w = get_or ws k (pos 0) in
      let i = all_index is_word ws k (pos 0) h a in
      let before = words_in_hex (take k ws) in
      let place : 8 * k ≡ length before = omega (arith, words_length (take k ws), length-take-le k ws (omega arith)) in
      ap₂ (λ l p. signed (value_at l p 8)) (words_around ws k h) place
      ∙ ap signed (word_value (unsigned w) before (words_in_hex (drop-list (suc k) ws)) (unsigned_few w i))
      ∙ signed_unsigned w i

  words_back : (k : ℕ) → k ≤ length ws → words_of (words_in_hex ws) k ≡ take k ws
  unfolding words_of
  words_back zero h = refl
  words_back (suc k) h =
      ap₂ (λ l w. l ++ (w ∷ [])) (words_back k (omega arith)) (word_back k (omega arith)) ∙ sym (take-suc ws k (pos 0) (omega arith))

-- a printed frame is that frame
pub frame_back : (ws : List ℤ) → fits_line ws ≡ true → frame_of (words_in_hex ws) ≡ some ws
unfolding frame_of
frame_back ws f =
    let few = leb-true (length ws) 4096 (and_left (leb (length ws) 4096) (all_pass is_word ws) f) in
    let n = words_length ws in
    let whole : length (words_in_hex ws) / 8 ≡ length ws = omega arith in
    rw (words_digits ws, le-leb (length (words_in_hex ws)) 32768 (omega arith), eq-eqb (length (words_in_hex ws) % 8) 0 (omega arith), whole)
    (ap some (words_back ws (and_right (leb (length ws) 4096) (all_pass is_word ws) f) (length ws) (omega arith) ∙ take-length ws))

-- ---- lines

-- a line that goes on up to 0A
module _ (ys : List ℕ) where
  closed_once : (xs begun : List ℕ) → all_pass goes_on xs ≡ true → closed_lines begun (xs ++ (10 ∷ ys)) ≡ (begun ++ xs) ∷ closed_lines [] ys
  unfolding closed_lines
  closed_once [] begun a = ap (λ l. l ∷ closed_lines [] ys) (sym (append-nil begun))
  closed_once (x ∷ xs) begun a =
      let e : eqb x 10 ≡ false = not-true (all_head goes_on x xs a) in
      rw e (closed_once xs (begun ++ (x ∷ [])) (all_tail goes_on x xs a) ∙ ap (λ l. l ∷ closed_lines [] ys) (append_assoc begun (x ∷ []) xs))

  unclosed_past : (xs begun : List ℕ) → all_pass goes_on xs ≡ true → unclosed begun (xs ++ (10 ∷ ys)) ≡ unclosed [] ys
  unfolding unclosed
  unclosed_past [] begun a = refl
  unclosed_past (x ∷ xs) begun a =
      let e : eqb x 10 ≡ false = not-true (all_head goes_on x xs a) in rw e (unclosed_past xs (begun ++ (x ∷ [])) (all_tail goes_on x xs a))

words_go_on : (ws : List ℤ) → all_pass goes_on (words_in_hex ws) ≡ true
words_go_on ws = digits_go_on (words_in_hex ws) (words_digits ws)

-- the lines are those of the frames
pub lines_back : (fs : List (List ℤ)) → closed_lines [] (frame_lines fs) ≡ map words_in_hex fs
unfolding frame_lines closed_lines
lines_back [] = refl
lines_back (f ∷ fs) =
    ap (closed_lines []) (append_assoc (words_in_hex f) (10 ∷ []) (frame_lines fs))
    ∙ closed_once (frame_lines fs) (words_in_hex f) [] (words_go_on f)
    ∙ ap (λ ls. words_in_hex f ∷ ls) (lines_back fs)

-- and each is closed
pub all_closed : (fs : List (List ℤ)) → unclosed [] (frame_lines fs) ≡ []
unfolding frame_lines unclosed
all_closed [] = refl
all_closed (f ∷ fs) =
    ap (unclosed []) (append_assoc (words_in_hex f) (10 ∷ []) (frame_lines fs))
    ∙ unclosed_past (frame_lines fs) (words_in_hex f) [] (words_go_on f)
    ∙ all_closed fs

each_back : (fs : List (List ℤ)) → all_pass fits_line fs ≡ true → map frame_of (map words_in_hex fs) ≡ map some fs
each_back [] a = refl
each_back (f ∷ fs) a = ap₂ (λ x xs. x ∷ xs) (frame_back f (all_head fits_line f fs a)) (each_back fs (all_tail fits_line f fs a))

-- printed frames are those frames
pub frames_back : (fs : List (List ℤ)) → all_pass fits_line fs ≡ true → map frame_of (closed_lines [] (frame_lines fs)) ≡ map some fs
frames_back fs a = ap (map frame_of) (lines_back fs) ∙ each_back fs a

-- ---- what the program answers to them

replies_by_frames : (ls : List (List ℕ)) (s : State) → replies s ls ≡ replied s (map frame_of ls)
unfolding replies replied
replies_by_frames [] s = refl
replies_by_frames (l ∷ ls) s = let o = line_outcome s (frame_of l) in ap (λ r. reply s.vars o ++ r) (replies_by_frames ls o.state)

pub program_of_frames : (s : State) (fs : List (List ℤ)) → all_pass fits_line fs ≡ true → program s (frame_lines fs) ≡ replied s (map some fs)
unfolding program
program_of_frames s fs a =
    rw (all_closed fs) (append-nil (replies s (closed_lines [] (frame_lines fs)))
    ∙ replies_by_frames (closed_lines [] (frame_lines fs)) s
    ∙ ap (replied s) (frames_back fs a))
