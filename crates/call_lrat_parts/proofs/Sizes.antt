-- The tables stay as large over any run of the machine, and V with them.
use mathlib.Core.Path.{◌≡◌, refl, ◌∙◌}
use mathlib.Core.Bool.{Bool, true, false, cond}
use mathlib.Core.List.{List, [], ◌∷◌}
use Prim.Native.Nat.{ℕ}
use lib.Dec.{eqb}
use Rattle.rules.specs.Terms.{State}
use Rattle.rules.proofs.Lists.{by_cases}
use Rattle.text.specs.Words.{is_blank}
use Rattle.lrat.specs.Machine.{Session, emptied, is_word, said, is_addition, is_last, line_code, end_word, close_line, move, run, decided, end_line, finish}
use Rattle.lrat.proofs.Onward.{word_on}
use Rattle.call_lrat_parts.specs.Parts.{ended}

abbrev AsLarge : State → Session → Type 0
AsLarge s m = emptied m.state ≡ emptied s

either : (b : Bool) (x y : Session) {e : State} → emptied x.state ≡ e → emptied y.state ≡ e → emptied (cond b x y).state ≡ e
either true x y h k = h
either false x y h k = k

word_size : (m : Session) → AsLarge m.state (end_word m)
unfolding end_word
word_size m = by_cases (is_word m.word) (λ t. rw t (word_on m.state m.reading (said m.word)).size) (λ f. rw f refl)

close_size : (m : Session) → AsLarge m.state (close_line m)
close_size m = by_cases (is_last (line_code m.state m.reading) m.reading) (λ t. rw t refl) λ f.
    by_cases (is_addition m.reading) (λ a. rw (f, a) refl) (λ a. rw (f, a) refl)

line_size : (m : Session) → AsLarge m.state (close_line (end_word m))
line_size m = close_size (end_word m) ∙ word_size m

move_size : (m : Session) (b : ℕ) → AsLarge m.state (move m b)
unfolding move
move_size m b = either m.over _ _ refl (either (eqb b 10) _ _ (line_size m) (either (is_blank b) _ _ (word_size m) refl))

run_size : (bs : List ℕ) (m : Session) → AsLarge m.state (run m bs)
unfolding run
run_size [] m = refl
run_size (b ∷ bs) m = run_size bs (move m b) ∙ move_size m b

decided_size : (m : Session) → AsLarge m.state (decided m)
decided_size m = either m.over _ _ refl refl

finish_size : (m : Session) → AsLarge m.state (finish m)
unfolding finish
finish_size m = either m.over _ _ refl (decided_size (end_line m) ∙ either (eqb m.word.kind 0) _ _ refl (line_size m))

pub ended_size : (last : Bool) (m : Session) (bs : List ℕ) → emptied (ended last (run m bs)).state ≡ emptied m.state
ended_size last m bs = either last _ _ (finish_size (run m bs) ∙ run_size bs m) (run_size bs m)
