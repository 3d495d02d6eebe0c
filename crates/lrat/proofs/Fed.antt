-- The bytes of a line, fed to the machine, are its words taken one after the other.
use mathlib.Core.Path.{◌≡◌, refl, sym, ap, ◌∙◌}
use mathlib.Core.Bool.{Bool, true, false}
use mathlib.Core.List.{List, [], ◌∷◌, ◌++◌, map, map-append}
use Prim.Native.Nat.{ℕ, ◌+◌}
use lib.Dec.{eqb, ltb}
use lib.ListN.{length}
use Rattle.rules.specs.Lists.{all_pass}
use Rattle.rules.proofs.Lists.{by_cases, not-true, all_head, all_tail}
use Rattle.text.specs.Words.{is_blank, TextWord, ended_word, still_first, line_words}
use Rattle.text.specs.Places.{goes_on}
use Rattle.text_numbers.specs.Numbers.{is_decimal}
use Rattle.lrat.specs.Machine.{between, is_word, push, pushes, Step, step, take_word, Session, word_taken, end_word, pushed, move, run}
use Rattle.lrat.specs.declared.LineWord.{LineWord}
use Rattle.lrat.specs.declared.ProofWord.{ProofWord}
use Rattle.lrat.proofs.Heard.{heard, pushes_last, spoken}

-- ---- words taken

unfoldable pub takes : Step → List LineWord → Step
takes t [] = t
takes t (w ∷ ws) = takes (take_word t.state w t.reading) ws

pub takes_append : (xs ys : List LineWord) (t : Step) → takes t (xs ++ ys) ≡ takes (takes t xs) ys
unfolding takes
takes_append [] ys t = refl
takes_append (x ∷ xs) ys t = takes_append xs ys (take_word t.state x t.reading)

abbrev pub heard_words : List TextWord → List LineWord
heard_words ws = map (λ (w : TextWord). heard w.bytes) ws

-- ---- one byte after the other

pub run_on : (m : Session) (xs ys : List ℕ) → run m (xs ++ ys) ≡ run (run m xs) ys
unfolding run
run_on m [] ys = refl
run_on m (x ∷ xs) ys = run_on (move m x) xs ys

-- where a word ends it is taken, if one was begun
word_ends : (m : Session) (k : ProofWord) (first : Bool) (at : ℕ) (w : List ℕ) → is_word k ≡ false → m.word ≡ pushes k w →
    end_word m ≡ word_taken m (takes (step m.state m.reading) (heard_words (ended_word first at w)))
unfolding end_word takes pushes
word_ends m k first at [] n e = rw (e, n)
word_ends m k first at (b ∷ w) n e = let s = spoken k b w n in rw (e, s.going, s.heard_so)

-- a byte of a line: a blank ends a word, another is one of its bytes
module _ (m : Session) (b : ℕ) (o : m.over ≡ false) (goes : eqb b 10 ≡ false) where
  pub blank_moved : is_blank b ≡ true → move m b ≡ end_word m
  unfolding move
  blank_moved t = rw (t, o, goes)

  pub byte_moved : is_blank b ≡ false → move m b ≡ pushed b m
  unfolding move
  byte_moved f = rw (f, o, goes)

-- a line, whose first bytes w are those of a word that was begun
pub line_fed : (l : List ℕ) (m : Session) (k : ProofWord) (first : Bool) (at : ℕ) (w : List ℕ) → m.over ≡ false → all_pass goes_on l ≡ true →
    is_word k ≡ false → m.word ≡ pushes k w → end_word (run m l) ≡ word_taken m (takes (step m.state m.reading) (heard_words (line_words first at w l)))
unfolding run line_words pushes
line_fed [] m k first at w o a n e = word_ends m k first at w n e
line_fed (b ∷ l) m k first at w o a n e =
    let goes : eqb b 10 ≡ false = not-true (all_head goes_on b l a) in
    let rest = all_tail goes_on b l a in
    by_cases (is_blank b)
    (λ t.
    let ws = ended_word first at w in
    let more = line_words (still_first first w) (at + length w + 1) [] l in
    let m' = word_taken m (takes (step m.state m.reading) (heard_words ws)) in
    let moved : move m b ≡ m' = blank_moved m b o goes t ∙ word_ends m k first at w n e in
    let t₀ = step m.state m.reading in
    let joined : takes t₀ (heard_words (ws ++ more)) ≡ takes (takes t₀ (heard_words ws)) (heard_words more) =
    ap (takes t₀) (map-append (λ (x : TextWord). heard x.bytes) ws more) ∙ takes_append (heard_words ws) (heard_words more) t₀ in
    rw t (ap (λ x. end_word (run x l)) moved ∙ line_fed l m' between (still_first first w) (at + length w + 1) [] o rest refl refl
    ∙ ap (word_taken m) (sym joined)))
    (λ f. rw f (ap (λ x. end_word (run x l)) (byte_moved m b o goes f)
    ∙ line_fed l (pushed b m) k first at (w ++ (b ∷ [])) o rest n (ap (λ x. push x b) e ∙ sym (pushes_last w k b))))

-- ---- a line that has bytes

-- a byte is read: the line has begun
abbrev Begun : ProofWord → Type 0
Begun w = eqb w.kind 0 ≡ false

push_begins : (w : ProofWord) (b : ℕ) → Begun (push w b)
unfolding push
push_begins w b = by_cases (is_word w)
    (λ t. by_cases (ltb w.kind 3) (λ u. by_cases (is_decimal b) (λ d. rw (t, u, d)) (λ d. rw (t, u, d))) (λ u. rw (t, u)))
    (λ f. by_cases (is_decimal b) (λ d. rw (f, d)) λ d. by_cases (eqb b 45) (λ e. rw (f, d, e)) λ e.
    by_cases (eqb b 100) (λ g. rw (f, d, e, g)) (λ g. rw (f, d, e, g)))

-- a byte of a line leaves the answer open
stays_open : (m : Session) (b : ℕ) → m.over ≡ false → eqb b 10 ≡ false → (move m b).over ≡ false
unfolding end_word
stays_open m b o g = by_cases (is_blank b) (λ t. ap (λ x. x.over) (blank_moved m b o g t) ∙ o) (λ f. ap (λ x. x.over) (byte_moved m b o g f) ∙ o)

-- and the line has begun up to its end
pub begun_on : (l : List ℕ) (b : ℕ) (m : Session) → m.over ≡ false → all_pass goes_on (b ∷ l) ≡ true → Begun (run m (b ∷ l)).word
unfolding run end_word
begun_on [] b m o a =
    let g : eqb b 10 ≡ false = not-true (all_head goes_on b [] a) in
    by_cases (is_blank b) (λ t. let e = blank_moved m b o g t in rw e) (λ f. let e = byte_moved m b o g f in rw e (push_begins m.word b))
begun_on (c ∷ l) b m o a = begun_on l c (move m b) (stays_open m b o (not-true (all_head goes_on b (c ∷ l) a))) (all_tail goes_on b (c ∷ l) a)
