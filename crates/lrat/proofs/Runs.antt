-- The machine's run over a proof is the definition's answer, wherever the proof is cut, and leaves the tables empty.
use mathlib.Core.Path.{◌≡◌, refl, sym, ap, ◌∙◌}
use mathlib.Core.Bool.{Bool, true, false, not, cond}
use mathlib.Core.List.{List, [], ◌∷◌, ◌++◌, flatten}
use Prim.Native.Nat.{ℕ, ◌≤◌}
use native.Mathlib.Omega.{arith}
use lib.Dec.{eqb}
use borrow.Author.Tests.{eqb-true}
use Rattle.rules.specs.Lists.{all_pass}
use Rattle.rules.specs.Terms.{Literals, State}
use Rattle.rules.proofs.Lists.{by_cases, true-false, all_nil, all_cons, all_append}
use Rattle.text.specs.Words.{is_blank}
use Rattle.text.specs.Places.{goes_on}
use Rattle.lrat.specs.Lines.{Line, malformed, addition, deletion, proof_lines, words_in, read_line}
use Rattle.lrat.specs.Checking.{gone, all_gone, check_line, next_line, is_empty_clause, answer, one_more, by_line, check_lines, check_proof}
use Rattle.lrat.specs.Machine.{at_start, is_word, said, step, Step, Session, emptied, started, word_taken, end_word, close_line, move, run}
use Rattle.lrat.specs.Machine.{pushes, line_closed, unproved, decided, finish, told}
use Rattle.lrat.specs.declared.LratAnswer.{LratAnswer}
use Rattle.lrat.proofs.Fed.{takes, heard_words, run_on, blank_moved, byte_moved, line_fed, begun_on}
use Rattle.lrat.proofs.Onward.{Counted, gone_size, word_on, words_on}
use Rattle.lrat.proofs.Lines.{LineRead, unread, words_line}

-- ---- in parts

pub run_last : (m : Session) (xs : List ℕ) (b : ℕ) → run m (xs ++ (b ∷ [])) ≡ move (run m xs) b
unfolding run
run_last m xs b = run_on m xs (b ∷ [])

unfoldable pub run_parts : Session → List (List ℕ) → Session
run_parts m [] = m
run_parts m (p ∷ ps) = run_parts (run m p) ps

-- parts of any lengths, some empty
pub in_parts : (ps : List (List ℕ)) (m : Session) → run_parts m ps ≡ run m (flatten ps)
unfolding run run_parts flatten
in_parts [] m = refl
in_parts (p ∷ ps) m = in_parts ps (run m p) ∙ sym (run_on m p (flatten ps))

taken_first : {A : Type 0} (b : Bool) (x y : A) → b ≡ true → cond b x y ≡ x
taken_first true x y e = refl
taken_first false x y e = true-false e refl

taken_second : {A : Type 0} (b : Bool) (x y : A) → b ≡ false → cond b x y ≡ y
taken_second true x y e = true-false refl e
taken_second false x y e = refl

-- nothing is read once it is over
over_move : (m : Session) (b : ℕ) → m.over ≡ true → move m b ≡ m
unfolding move
over_move m b e = taken_first m.over m _ e

pub over_stays : (bs : List ℕ) (m : Session) → m.over ≡ true → run m bs ≡ m
unfolding run
over_stays [] m e = refl
over_stays (b ∷ bs) m e = ap (λ x. run x bs) (over_move m b e) ∙ over_stays bs m e

over_finish : (m : Session) → m.over ≡ true → finish m ≡ m
unfolding finish
over_finish m e = taken_first m.over m _ e

-- ---- a line closed

-- between two lines, n of them read
abbrev at_line : State → ℕ → Literals → Session
at_line s n F = record { word = at_start; reading = unread F; lines = n; over = false; code = 0; state = s }

-- behind the last one
abbrev at_last : State → ℕ → Literals → ℕ → Session
at_last s n F code = record { word = at_start; reading = unread F; lines = n; over = true; code = code; state = emptied s }

-- the line l was read, and comes to this
module _ (s : State) (n : ℕ) (F : Literals) (small : s.vars ≤ 2048) (l : List ℕ) (goes : all_pass goes_on l ≡ true) where
  abbrev line_step : Step
  line_step = takes (step s (unread F)) (heard_words (words_in l))

  line_read : LineRead s (read_line l) line_step
  line_read = words_line s F small (words_in l)

  line_ended : end_word (run (at_line s n F) l) ≡ word_taken (at_line s n F) line_step
  unfolding pushes
  line_ended = line_fed l (at_line s n F) at_start true 0 [] refl goes refl refl

  still_open : (run (at_line s n F) l).over ≡ false
  unfolding end_word
  still_open = ap (λ m. m.over) line_ended

  abbrev next_falses : Literals
  next_falses = line_step.reading.falses

  closed_as : close_line (end_word (run (at_line s n F) l))
      ≡ cond (eqb (check_line s (read_line l)) 0)
      (cond (is_empty_clause (read_line l)) (at_last s (one_more n) next_falses 0) (at_line (next_line s (read_line l)) (one_more n) next_falses))
      (at_last s (one_more n) next_falses (check_line s (read_line l)))
  closed_as =
      let R = line_read in
      let c = check_line s (read_line l) in
      let size = (words_on (heard_words (words_in l)) (step s (unread F))).size in
      ap close_line line_ended ∙ ap (line_closed (word_taken (at_line s n F) line_step)) R.code
      ∙ by_cases (eqb c 0)
      (λ e. let q = eqb-true c 0 e in let E = R.empty q in let next = R.state q in by_cases (is_empty_clause (read_line l))
      (λ f. rw (q, E, f, size))
      (λ f. rw (q, E, f, next)))
      (λ e. rw (e, size))

-- ---- the tables stay as large

all_gone_size : (is : List ℕ) (s : State) → emptied (all_gone s is) ≡ emptied s
unfolding all_gone
all_gone_size [] s = refl
all_gone_size (i ∷ is) s = all_gone_size is (gone s i) ∙ gone_size s i

line_size : (l : Line) (s : State) → emptied (next_line s l) ≡ emptied s
line_size malformed s = refl
line_size (addition i c hints) s = refl
line_size (deletion is) s = all_gone_size is s

-- ---- all lines

-- the run is over with this answer, and what it leaves is empty
pub record Ends (s : State) (a : LratAnswer) (m : Session) : Type 0 where
  pub says : told m ≡ a
  pub over : m.over ≡ true
  pub state : m.state ≡ emptied s

-- nothing behind the last line is read
ends_last : (bs : List ℕ) (s : State) (n : ℕ) (F : Literals) (code : ℕ) →
    Ends s (answer code (cond (eqb code 0) 0 n)) (finish (run (at_last s n F code) bs))
ends_last bs s n F code =
    let e = ap finish (over_stays bs (at_last s n F code) refl) ∙ over_finish (at_last s n F code) refl in
    rw e (record { says = refl; over = refl; state = refl })

-- no line is left
ends_without : (s : State) (n : ℕ) (F : Literals) → Ends s (answer 38 n) (finish (at_line s n F))
unfolding finish
ends_without s n F = record { says = refl; over = refl; state = refl }

-- what a line comes to, before what the lines behind it come to
ends_line : (bs : List ℕ) (s : State) (n : ℕ) (F : Literals) (l : Line) (code : ℕ) (a : LratAnswer) →
    Ends (next_line s l) a (finish (run (at_line (next_line s l) n F) bs)) →
    Ends s (by_line code (is_empty_clause l) n a)
    (finish (run (cond (eqb code 0) (cond (is_empty_clause l) (at_last s n F 0) (at_line (next_line s l) n F)) (at_last s n F code)) bs))
ends_line bs s n F l code a more = by_cases (eqb code 0)
    (λ e. by_cases (is_empty_clause l)
    (λ f. rw (e, f) (ends_last bs s n F 0))
    (λ f. rw (e, f) (record { says = more.says; over = more.over; state = more.state ∙ line_size l s })))
    (λ e. let r = ends_last bs s n F code in rw e (rw e at r))

-- a last line without LF is closed by the end
finish_between : (m : Session) → eqb m.word.kind 0 ≡ true → finish m ≡ decided m
unfolding finish
finish_between m k = by_cases m.over
    (λ t. taken_first m.over m _ t ∙ sym (taken_first m.over m (unproved m) t))
    (λ f. taken_second m.over m _ f ∙ ap decided (taken_first (eqb m.word.kind 0) m _ k))

finish_closes : (m : Session) → m.over ≡ false → eqb m.word.kind 0 ≡ false → finish m ≡ finish (close_line (end_word m))
unfolding finish
finish_closes m o k =
    taken_second m.over m _ o ∙ ap decided (taken_second (eqb m.word.kind 0) m (close_line (end_word m)) k)
    ∙ sym (finish_between (close_line (end_word m)) refl)

move_closes : (m : Session) (b : ℕ) → m.over ≡ false → eqb b 10 ≡ true → move m b ≡ close_line (end_word m)
unfolding move
move_closes m b o e = taken_second m.over m _ o ∙ taken_first (eqb b 10) (close_line (end_word m)) _ e

-- a line whole, read before these bytes
whole_line : (bs l : List ℕ) (s : State) (n : ℕ) (F : Literals) → s.vars ≤ 2048 → all_pass goes_on l ≡ true →
    ((G : Literals) → let s' = next_line s (read_line l) in
    Ends s' (check_lines s' (one_more n) (proof_lines [] bs)) (finish (run (at_line s' (one_more n) G) bs))) →
    Ends s (check_lines s n (l ∷ proof_lines [] bs)) (finish (run (close_line (end_word (run (at_line s n F) l))) bs))
unfolding check_lines
whole_line bs l s n F small g more =
    let e = closed_as s n F small l g in
    let G = next_falses s n F small l g in
    rw e (ends_line bs s (one_more n) G (read_line l) (check_line s (read_line l)) _ (more G))

next_small : (s : State) (l : Line) → s.vars ≤ 2048 → (next_line s l).vars ≤ 2048
next_small s l h = let e = ap (λ x. x.vars) (line_size l s) in omega (arith, e, h)

all_lines : (bs begun : List ℕ) (s : State) (n : ℕ) (F : Literals) → s.vars ≤ 2048 → all_pass goes_on begun ≡ true →
    Ends s (check_lines s n (proof_lines begun bs)) (finish (run (run (at_line s n F) begun) bs))
unfolding proof_lines check_lines run
all_lines [] [] s n F small g = ends_without s n F
all_lines [] (b ∷ l) s n F small g =
    let m = run (at_line s n F) (b ∷ l) in
    let e = finish_closes m (still_open s n F small (b ∷ l) g) (begun_on l b (at_line s n F) refl g) in
    let s' = next_line s (read_line (b ∷ l)) in
    rw e (whole_line [] (b ∷ l) s n F small g (ends_without s' (one_more n)))
all_lines (b ∷ bs) begun s n F small g = by_cases (eqb b 10)
    (λ t.
    let m = run (at_line s n F) begun in
    let e = move_closes m b (still_open s n F small begun g) t in
    let s' = next_line s (read_line begun) in
    let small' = next_small s (read_line begun) small in
    rw (t, e) (whole_line bs begun s n F small g (λ G. all_lines bs [] s' (one_more n) G small' (all_nil goes_on))))
    (λ f.
    let e = sym (run_last (at_line s n F) begun b) in
    let g' = all_append goes_on begun (b ∷ []) g (all_cons goes_on b [] (ap not f) (all_nil goes_on)) in
    rw (f, e) (all_lines bs (begun ++ (b ∷ [])) s n F small g'))

-- ---- the run

pub run_ends : (s : State) → s.vars ≤ 2048 → (proof : List ℕ) → Ends s (check_proof s proof) (finish (run (started s) proof))
unfolding run
run_ends s small proof = all_lines proof [] s 0 _ small (all_nil goes_on)

-- its answer is the definition's; and then it is over, and the tables are empty
pub run_is_the_proof : (s : State) → s.vars ≤ 2048 → (proof : List ℕ) → told (finish (run (started s) proof)) ≡ check_proof s proof
run_is_the_proof s small proof = (run_ends s small proof).says

pub finish_over : (s : State) → s.vars ≤ 2048 → (proof : List ℕ) → (finish (run (started s) proof)).over ≡ true
finish_over s small proof = (run_ends s small proof).over

pub finish_empties : (s : State) → s.vars ≤ 2048 → (proof : List ℕ) → (finish (run (started s) proof)).state ≡ emptied s
finish_empties s small proof = (run_ends s small proof).state

-- ---- as many literals are kept as are counted

word_counted : (m : Session) → Counted m.reading → Counted (end_word m).reading
unfolding end_word
word_counted m c = by_cases (is_word m.word) (λ t. rw t ((word_on m.state m.reading (said m.word)).counted c)) (λ f. rw f c)

move_counted : (m : Session) (b : ℕ) → Counted m.reading → Counted (move m b).reading
move_counted m b c = by_cases m.over (λ o. rw (over_move m b o) c) λ o. by_cases (eqb b 10) (λ e. rw (move_closes m b o e) refl) λ e.
    by_cases (is_blank b) (λ t. rw (blank_moved m b o e t) (word_counted m c)) (λ f. rw (byte_moved m b o e f) c)

pub counted_on : (bs : List ℕ) (m : Session) → Counted m.reading → Counted (run m bs).reading
unfolding run
counted_on [] m c = c
counted_on (b ∷ bs) m c = counted_on bs (move m b) (move_counted m b c)

pub counted : (s : State) (bs : List ℕ) → Counted (run (started s) bs).reading
counted s bs = counted_on bs (started s) refl
