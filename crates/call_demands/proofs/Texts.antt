-- Document 02, request 1, over the calls: whatever outcomes the promises of `open` and `step` allow, the frames of a text are accepted unless the tables are
-- full.
use mathlib.Core.Path.{◌≡◌, refl, ap, ◌∙◌}
use mathlib.Core.Bool.{true}
use mathlib.Core.List.{List}
use mathlib.Core.Option.{some}
use Prim.Native.Nat.{ℕ, ◌≤◌}
use lib.IntN.{ℤ}
use lib.ListN.{length}
use borrow.Author.Tests.{eq-eqb}
use Rattle.rules.specs.Lists.{all_pass}
use Rattle.rules.specs.Terms.{State}
use Rattle.rules.specs.Answers.{outcome, opened}
use Rattle.rules.specs.Results.{Answer}
use Rattle.std.specs.Prelude.{Ok, Err}
use Rattle.dimacs.specs.Reading.{sound, Cnf, read_text}
use Rattle.dimacs.specs.Frames.{frames_of}
use Rattle.dimacs.specs.Adding.{unless_full, answers_from}
use Rattle.dimacs.proofs.Adding.{text_answered}
use Rattle.lent_entries.specs.Lent.{state_lent}
use Rattle.lent_entries.specs.declared.Entry.{Entry}
use Rattle.lent.specs.declared.Carried.{Carried}
use Rattle.lent.specs.declared.Called.{Called}
use Rattle.call_step.specs.Calls.{outcome_of, answer_to, Opening}
use Rattle.call_demands.specs.Texts.{StepCalls, no_call, then_call}
use Rattle.call_demands.proofs.Reaching.{opened_lent}

-- from tables that spell a state the answers are the paper's
calls_answer : {entries : List Entry} {pool : List ℤ} {c : Carried} {frames : List (List ℤ)} {answers : List Answer} →
    StepCalls entries pool c frames answers → (s : State) → state_lent entries pool c ≡ some s → answers ≡ answers_from s frames
unfolding answers_from
calls_answer no_call s spells = refl
calls_answer {entries} {pool} {c} (then_call frame model r entries' pool' model' n t more) s spells =
    let b = eq-eqb (length model) 32 n in
    let paper : outcome_of entries pool c frame model ≡ some (outcome s frame) = rw (b, spells) in
    let first = t.answered ∙ ap answer_to paper in
    let rest = calls_answer more (outcome s frame).state (t.state (outcome s frame) paper) in
    rw (first, rest)

-- opened with at least the V that the text declares
pub text_calls_answered : (text : List ℕ) {x : Cnf} → read_text text ≡ sound x → (vars : ℕ) → x.vars ≤ vars →
    (entries : List Entry) (pool : List ℤ) (r : Called) → Opening vars entries pool r → r.answer ≡ Ok 0 →
    {answers : List Answer} → StepCalls entries pool r.carried (frames_of (read_text text)) answers → all_pass unless_full answers ≡ true
text_calls_answered text e vars h entries pool r o a calls =
    let same = calls_answer calls (opened vars (length entries) (length pool)) (opened_lent vars entries pool r o a) in
    rw same (text_answered text e vars (length entries) (length pool) h)
