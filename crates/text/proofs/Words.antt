-- The words of a text from a place on: what each byte there does to them.
--
-- A text from a place on is its bytes up to the first LF, and the lines behind that.
use mathlib.Core.Path.{◌≡◌, refl, sym, ap, ap₂, ◌∙◌}
use mathlib.Core.Bool.{Bool, true, false, cond, ◌||◌}
use mathlib.Core.List.{List, [], ◌∷◌, ◌++◌, append-nil, append_assoc}
use Prim.Native.Nat.{ℕ, suc, ◌+◌, ◌≤◌, ◌<◌}
use native.Mathlib.Omega.{arith}
use native.Mathlib.Nat.{add-zero}
use lib.Dec.{eqb}
use native.Mathlib.Decide.{dec_lt}
use lib.ListN.{length, get_or, drop, length-append, length-drop, drop_of_length-le}
use lib.Seq.{slice, length-slice, drop-append_seam, drop-drop, get_or-drop}
use borrow.Author.Tests.{eq-eqb, ne_eqb, eqb-true}
use Rattle.rules.specs.Lists.{all_pass}
use Rattle.rules.proofs.Lists.{by_cases, not-true, or-false, from_index, all_head, all_tail}
use Rattle.text.specs.Words.{TextLine, text_lines, is_comment, is_blank, TextWord, line_words, words_of_lines, words_at_line}
use Rattle.text.specs.Words.{words_of_rest, words_from}
use Rattle.text.proofs.Slices.{slice_drop}
use Rattle.text.specs.Places.{goes_on, LineEnds, word_bytes, word_at, Behind}

-- ---- the line that is begun, and those behind it

-- the bytes of the line that is begun
line_rest : List ℕ → List ℕ
line_rest [] = []
line_rest (b ∷ bs) = cond (eqb b 10) [] (b ∷ line_rest bs)

-- the lines behind it
lines_behind : ℕ → List ℕ → List TextLine
lines_behind at [] = []
lines_behind at (b ∷ bs) = cond (eqb b 10) (text_lines (at + 1) [] bs) (lines_behind (at + 1) bs)

first_line : (bs begun : List ℕ) (start : ℕ) →
    text_lines start begun bs ≡ record { start = start; bytes = begun ++ line_rest bs } ∷ lines_behind (start + length begun) bs
unfolding text_lines line_rest lines_behind
first_line [] begun start = ap (λ (l : List ℕ). record { start = start; bytes = l } ∷ []) (sym (append-nil begun))
first_line (b ∷ bs) begun start = by_cases (eqb b 10)
    (λ e. rw e (ap (λ (l : List ℕ). record { start = start; bytes = l } ∷ text_lines (start + length begun + 1) [] bs) (sym (append-nil begun))))
    (λ e.
    let n : start + length (begun ++ (b ∷ [])) ≡ start + length begun + 1 = omega (arith, length-append begun (b ∷ [])) in
    rw e (first_line bs (begun ++ (b ∷ [])) start
    ∙ ap₂ (λ (l : List ℕ) (k : ℕ). record { start = start; bytes = l } ∷ lines_behind k bs) (append_assoc begun (b ∷ []) (line_rest bs)) n))

-- the words of what is left of a text, from place `at` on
pub words_on : Bool → ℕ → List ℕ → List TextWord
words_on first at bs = line_words first at [] (line_rest bs) ++ words_of_lines (lines_behind at bs)

on_is : (first : Bool) (at : ℕ) (bs : List ℕ) → words_of_rest first (text_lines at [] bs) ≡ words_on first at bs
unfolding words_on
on_is first at bs =
    ap (words_of_rest first) (first_line bs [] at) ∙ ap (λ (k : ℕ). line_words first at [] (line_rest bs) ++ words_of_lines (lines_behind k bs)) (add-zero at)

-- ---- byte by byte

-- a blank that is no LF
on_blank : (first : Bool) (at b : ℕ) (bs : List ℕ) → is_blank b ≡ true → eqb b 10 ≡ false → words_on first at (b ∷ bs) ≡ words_on first (at + 1) bs
unfolding words_on line_rest lines_behind line_words
on_blank first at b bs h e =
    let n : at + 0 + 1 ≡ at + 1 = omega arith in
    rw (e, h, n)

-- LF
on_line : (first : Bool) (at b : ℕ) (bs : List ℕ) → eqb b 10 ≡ true → words_on first at (b ∷ bs) ≡ words_of_lines (text_lines (at + 1) [] bs)
unfolding words_on line_rest lines_behind line_words
on_line first at b bs e = rw e

-- no blank is LF
unblank : (b : ℕ) → is_blank b ≡ false → eqb b 10 ≡ false
unblank b h = (or-false ((eqb b 32 || eqb b 9) || eqb b 13) (eqb b 10) h).1

-- a word that was begun, from place `at` on, is ended by the next blank or the text's end
line_word : (bs w : List ℕ) (first : Bool) (at x : ℕ) → line_words first at (x ∷ w) (line_rest bs)
    ≡ record { at = at; first = first; bytes = x ∷ w ++ word_bytes bs }
    ∷ line_words false (at + length (x ∷ w ++ word_bytes bs)) [] (line_rest (drop (length (word_bytes bs)) bs))
unfolding line_rest line_words word_bytes
line_word [] w first at x = rw (append-nil w)
line_word (b ∷ bs) w first at x = by_cases (is_blank b)
    (λ h. by_cases (eqb b 10)
    (λ e. rw (h, e, append-nil w))
    (λ e. let n : at + suc (length w) + 0 + 1 ≡ at + suc (length w) + 1 = omega arith in rw (h, e, append-nil w, h, n)))
    (λ h. rw (h, unblank b h, h) (line_word bs (w ++ (b ∷ [])) first at x
    ∙ ap (λ (l : List ℕ). record { at = at; first = first; bytes = x ∷ l }
    ∷ line_words false (at + length (x ∷ l)) [] (line_rest (drop (length (word_bytes bs)) bs))) (append_assoc w (b ∷ []) (word_bytes bs))))

-- the lines behind are the same from behind a word's bytes on
lines_behind_word : (bs : List ℕ) (at : ℕ) → lines_behind at bs ≡ lines_behind (at + length (word_bytes bs)) (drop (length (word_bytes bs)) bs)
unfolding lines_behind word_bytes
lines_behind_word [] at = refl
lines_behind_word (b ∷ bs) at = by_cases (is_blank b)
    (λ h. rw (h, add-zero))
    (λ h. let n : at + suc (length (word_bytes bs)) ≡ at + 1 + length (word_bytes bs) = omega arith in rw (h, unblank b h, n) (lines_behind_word bs (at + 1)))

-- a word
on_word : (first : Bool) (at b : ℕ) (bs : List ℕ) → is_blank b ≡ false → words_on first at (b ∷ bs)
    ≡ record { at = at; first = first; bytes = word_bytes (b ∷ bs) }
    ∷ words_on false (at + length (word_bytes (b ∷ bs))) (drop (length (word_bytes (b ∷ bs))) (b ∷ bs))
unfolding words_on line_rest line_words word_bytes lines_behind
on_word first at b bs h =
    let n : at + 1 + length (word_bytes bs) ≡ at + suc (length (word_bytes bs)) = omega arith in
    rw (h, unblank b h, h, lines_behind_word bs (at + 1), n)
    (ap (λ (l : List TextWord). l ++ words_of_lines (lines_behind (at + suc (length (word_bytes bs))) (drop (length (word_bytes bs)) bs)))
    (line_word bs [] first at b))

-- the lines behind bytes that close none
behind_passed : (xs ys : List ℕ) (at : ℕ) → all_pass goes_on xs ≡ true → lines_behind at (xs ++ ys) ≡ lines_behind (at + length xs) ys
unfolding lines_behind
behind_passed [] ys at a = rw add-zero
behind_passed (x ∷ xs) ys at a =
    let e : eqb x 10 ≡ false = not-true (all_head goes_on x xs a) in
    let n : at + suc (length xs) ≡ at + 1 + length xs = omega arith in
    rw (e, n) (behind_passed xs ys (at + 1) (all_tail goes_on x xs a))

-- no text, a comment line, and any other
pub line_none : (at : ℕ) → words_of_lines (text_lines at [] []) ≡ []
unfolding text_lines words_of_lines line_words
line_none at = refl

line_comment : (at b : ℕ) (bs : List ℕ) → eqb b 99 ≡ true → words_of_lines (text_lines at [] (b ∷ bs)) ≡ words_of_lines (lines_behind at (b ∷ bs))
unfolding words_of_lines line_rest
line_comment at b bs h =
    let e : eqb b 10 ≡ false = ne_eqb b 10 (λ q. let z = eqb-true b 99 h in omega arith) in
    rw (first_line (b ∷ bs) [] at, add-zero, e, h)

pub line_plain : (at : ℕ) (bs : List ℕ) → is_comment bs ≡ false → words_of_lines (text_lines at [] bs) ≡ words_on true at bs
unfolding words_of_lines line_rest words_on
line_plain at [] h = rw (first_line [] [] at, add-zero)
line_plain at (b ∷ bs) h = by_cases (eqb b 10)
    (λ e. rw (first_line (b ∷ bs) [] at, add-zero, e))
    (λ e. rw (first_line (b ∷ bs) [] at, add-zero, e, h))

-- behind the bytes of a word stands a blank, if anything
word_stops : (bs : List ℕ) → length (word_bytes bs) < length bs → is_blank (get_or bs (length (word_bytes bs)) 0) ≡ true
unfolding word_bytes
word_stops [] h = absurd (omega arith)
word_stops (b ∷ bs) h = by_cases (is_blank b) (λ t. rw t t) (λ f. let k = rw f at h in rw f (word_stops bs (omega arith)))

-- ---- a word whole, and the blank behind it

begins_word : (x : ℕ) (w ys : List ℕ) → word_bytes (x ∷ ys) ≡ x ∷ w → is_blank x ≡ false
unfolding word_bytes
begins_word x w ys e = by_cases (is_blank x) (λ t. let n = rw t at e in let z : ◌≡◌ {A = ℕ} 0 1 = cc in absurd (omega arith)) (λ f. f)

on_whole : (first : Bool) (at : ℕ) (w ys : List ℕ) → 0 < length w → word_bytes (w ++ ys) ≡ w
    → words_on first at (w ++ ys) ≡ record { at = at; first = first; bytes = w } ∷ words_on false (at + length w) ys
on_whole first at [] ys h e = absurd (omega arith)
on_whole first at (x ∷ w) ys h e = on_word first at x (w ++ ys) (begins_word x w (w ++ ys) e) ∙ rw (e, drop-append_seam (x ∷ w) ys)

module _ (first : Bool) (at b : ℕ) (w bs : List ℕ) (h : 0 < length w) (e : word_bytes (w ++ (b ∷ bs)) ≡ w) where
  pub whole_blank : is_blank b ≡ true → eqb b 10 ≡ false
      → words_on first at (w ++ (b ∷ bs)) ≡ record { at = at; first = first; bytes = w } ∷ words_on false (at + length w + 1) bs
  whole_blank k n = on_whole first at w (b ∷ bs) h e ∙ rw (on_blank false (at + length w) b bs k n)

  pub whole_line : eqb b 10 ≡ true
      → words_on first at (w ++ (b ∷ bs)) ≡ record { at = at; first = first; bytes = w } ∷ words_of_lines (text_lines (at + length w + 1) [] bs)
  whole_line n = on_whole first at w (b ∷ bs) h e ∙ rw (on_line false (at + length w) b bs n)

-- ---- at a place of a text

module _ (text : List ℕ) where
  pub words_end : (first : Bool) (at : ℕ) → length text ≤ at → words_from first at text ≡ []
  unfolding words_on line_rest line_words lines_behind words_of_lines
  words_end first at h = on_is first at (drop at text) ∙ rw (drop_of_length-le text h)

  pub behind_word : (at : ℕ) → Behind text (at + length (word_at at text))
  behind_word at h =
      let k = length (word_at at text) in
      ap is_blank (sym (get_or-drop at text k 0)) ∙ word_stops (drop at text) (omega (arith, length-drop at text))

  -- what stands at a place
  module _ (first : Bool) (at : ℕ) (h : at < length text) where
    on_here : words_from first at text ≡ words_on first at (get_or text at 0 ∷ drop (at + 1) text)
    on_here = on_is first at (drop at text) ∙ ap (words_on first at) (from_index text at 0 h)

    pub words_blank : is_blank (get_or text at 0) ≡ true → (get_or text at 0 ≡ 10 → ⊥) → words_from first at text ≡ words_from first (at + 1) text
    words_blank b e = on_here ∙ on_blank first at (get_or text at 0) _ b (ne_eqb (get_or text at 0) 10 e) ∙ sym (on_is first (at + 1) (drop (at + 1) text))

    pub words_line : get_or text at 0 ≡ 10 → words_from first at text ≡ words_at_line (at + 1) text
    words_line e = on_here ∙ on_line first at (get_or text at 0) _ (eq-eqb (get_or text at 0) 10 e)

    pub words_word : is_blank (get_or text at 0) ≡ false → words_from first at text
        ≡ record { at = at; first = first; bytes = word_at at text } ∷ words_from false (at + length (word_at at text)) text
    words_word b =
        let n = length (word_at at text) in
        on_here ∙ on_word first at (get_or text at 0) (drop (at + 1) text) b
        ∙ ap (λ (l : List ℕ). record { at = at; first = first; bytes = word_bytes l } ∷
        words_on false (at + length (word_bytes l)) (drop (length (word_bytes l)) l))
        (sym (from_index text at 0 h))
        ∙ ap (λ (l : List ℕ). record { at = at; first = first; bytes = word_at at text } ∷ words_on false (at + n) l) (drop-drop n at text)
        ∙ ap (λ (l : List TextWord). record { at = at; first = first; bytes = word_at at text } ∷ l) (sym (on_is false (at + n) (drop (at + n) text)))

  -- a line that is no comment
  pub words_opened : (at : ℕ) → (at < length text → get_or text at 0 ≡ 99 → ⊥) → words_at_line at text ≡ words_from true at text
  words_opened at h = line_plain at (drop at text) (plain (dec_lt at (length text))) ∙ sym (on_is true at (drop at text))
    where
      plain : Dec (at < length text) → is_comment (drop at text) ≡ false
      plain (yes k) = ap is_comment (from_index text at 0 k) ∙ ne_eqb (get_or text at 0) 99 (h k)
      plain (no k) = let past : length text ≤ at = omega arith in ap is_comment (drop_of_length-le text past)

  -- a comment line that ends at r
  module _ (at r : ℕ) (e : LineEnds text at r) (h : at < length text) (b : get_or text at 0 ≡ 99) where
    comment_passed : words_at_line at text ≡ words_of_lines (lines_behind r (drop r text))
    comment_passed =
        let u = e.unclosed in
        let n : at + length (slice at r text) ≡ r = omega (arith, length-slice at r text u.high, u.low) in
        ap (λ (l : List ℕ). words_of_lines (text_lines at [] l)) (from_index text at 0 h)
        ∙ line_comment at (get_or text at 0) (drop (at + 1) text) (eq-eqb (get_or text at 0) 99 b)
        ∙ ap (λ (l : List ℕ). words_of_lines (lines_behind at l)) (sym (from_index text at 0 h) ∙ slice_drop at r text u.low u.high)
        ∙ ap words_of_lines (behind_passed (slice at r text) (drop r text) at u.goes ∙ ap (λ (k : ℕ). lines_behind k (drop r text)) n)

    pub comment_closed : r < length text → words_at_line at text ≡ words_at_line (r + 1) text
    unfolding lines_behind
    comment_closed k =
        let c = eq-eqb (get_or text r 0) 10 (e.closed k) in
        comment_passed ∙ ap (λ (l : List ℕ). words_of_lines (lines_behind r l)) (from_index text r 0 k) ∙ rw c

    pub comment_last : length text ≤ r → words_at_line at text ≡ words_at_line r text
    unfolding lines_behind words_of_lines
    comment_last k =
        comment_passed ∙ ap (λ (l : List ℕ). words_of_lines (lines_behind r l)) (drop_of_length-le text k)
        ∙ sym (words_end true r k) ∙ sym (words_opened r (λ m. absurd (omega arith)))
