-- Document 01's sixteen marked outcomes, over the calls: whatever outcomes the promises of `open` and `step` allow, they say the list's codes, details and
-- models.
use mathlib.Core.Path.{◌≡◌, refl, ap, subst, ◌∙◌}
use mathlib.Core.List.Memᴰ
use mathlib.Core.List.{List, [], ◌∷◌, ◌++◌, map, Memᴰ}
use mathlib.Core.Logic.{⊎_elim}
use mathlib.Core.Option.{some}
use Prim.Native.Nat.{ℕ}
use lib.IntN.{ℤ}
use lib.ListN.{length}
use borrow.Author.Tests.{eq-eqb}
use Rattle.rules.specs.Terms.{State}
use Rattle.rules.specs.Frames.{Frame, ADD, LEARN, FORGET, PROMOTE, DROP, WEAKEN, RESTORE, SAT, UNSAT, Parsed, malformed, framed, parse}
use Rattle.rules.specs.Answers.{numbers, check, settled, outcome_parsed, outcome, opened, check_open, need, ◌then◌}
use Rattle.rules.specs.Outcomes.{trues, model_of, Said, said, Marked, answers, expected_of, sixteen}
use Rattle.rules.specs.Results.{Check}
use Rattle.std.specs.Prelude.{Ok, Err}
use Rattle.rules.proofs.Lasting.{outcome_lasts}
use Rattle.rules.proofs.Outcomes.{sixteen_marked_outcomes}
use Rattle.step_answers.specs.Answered.{ModelWritten}
use Rattle.lent_entries.specs.Lent.{state_lent}
use Rattle.lent_entries.specs.declared.Entry.{Entry}
use Rattle.lent.specs.declared.Carried.{Carried}
use Rattle.lent.specs.declared.Called.{Called}
use Rattle.lent_open.specs.Opened.{opened_with}
use Rattle.call_step.specs.Calls as calls
use Rattle.call_step.specs.Calls.{answer_to, handed_by, Opening, Stepping}
use Rattle.call_demands.specs.Marked.{shown, said_by, Replies, no_more, then_next}

-- ---- the model that the buffer shows is the one handed out

module _ (s : State) (wide : s.vars ≡ 2048) (model model' : List ℕ) where
  shown_settled : (f : Frame) (k : Check) → ModelWritten (settled s f k).handed model model' →
      shown (framed f) (settled s f k).answer model' ≡ model_of s.vars (settled s f k).handed
  shown_settled (ADD i c) (Ok tt) w = refl
  shown_settled (LEARN i c hints) (Ok tt) w = refl
  shown_settled (FORGET i) (Ok tt) w = refl
  shown_settled (PROMOTE i) (Ok tt) w = refl
  shown_settled (DROP i hints) (Ok tt) w = refl
  shown_settled (WEAKEN i v ws) (Ok tt) w = refl
  shown_settled (RESTORE i) (Ok tt) w = refl
  shown_settled (SAT assumed vs) (Ok tt) w = rw wide (ap (λ α. some (trues α 2048 [])) w)
  shown_settled (UNSAT assumed hints) (Ok tt) w = refl
  shown_settled (ADD i c) (Err e) w = refl
  shown_settled (LEARN i c hints) (Err e) w = refl
  shown_settled (FORGET i) (Err e) w = refl
  shown_settled (PROMOTE i) (Err e) w = refl
  shown_settled (DROP i hints) (Err e) w = refl
  shown_settled (WEAKEN i v ws) (Err e) w = refl
  shown_settled (RESTORE i) (Err e) w = refl
  shown_settled (SAT assumed vs) (Err e) w = refl
  shown_settled (UNSAT assumed hints) (Err e) w = refl

  shown_parsed : (p : Parsed) → ModelWritten (outcome_parsed s p).handed model model' →
      shown p (outcome_parsed s p).answer model' ≡ model_of s.vars (outcome_parsed s p).handed
  shown_parsed malformed w = refl
  shown_parsed (framed f) w = shown_settled f (check s f) w

-- ---- one frame, and all of them

module _ {entries : List Entry} {pool : List ℤ} {c : Carried} {frame : List ℤ} {model : List ℕ} {r : Called} {entries' : List Entry} {pool' : List ℤ}
    {model' : List ℕ}
    (t : Stepping entries pool c frame model r entries' pool' model') (s : State) (wide : s.vars ≡ 2048) (many : length model ≡ 32)
    (spells : state_lent entries pool c ≡ some s) where
  paper : calls.outcome_of entries pool c frame model ≡ some (outcome s frame)
  paper = let b = eq-eqb (length model) 32 many in rw (b, spells)

  said_as_paper : said_by frame r.answer model' ≡
      record {
        code = (numbers (outcome s frame).answer).0;
        detail = (numbers (outcome s frame).answer).1;
        model = model_of s.vars (outcome s frame).handed;
      }
  unfolding outcome
  said_as_paper =
      let a : r.answer ≡ (outcome s frame).answer = t.answered ∙ ap answer_to paper in
      let w : ModelWritten (outcome s frame).handed model model' = subst (λ h. ModelWritten h model model') (ap handed_by paper) t.handed in
      let m = shown_parsed s wide model model' (parse frame) w in
      rw (a, m)

replied : {entries : List Entry} {pool : List ℤ} {c : Carried} {model : List ℕ} {frames : List (List ℤ)} {heard : List Said} →
    Replies entries pool c model frames heard → (s : State) → s.vars ≡ 2048 → length model ≡ 32 → state_lent entries pool c ≡ some s → heard ≡ said s frames
unfolding said
replied (no_more entries pool c model) s wide many spells = refl
replied (then_next {frame = frame} t more) s wide many spells =
    let first = said_as_paper t s wide many spells in
    let rest = replied more (outcome s frame).state ((outcome_lasts s frame).0 ∙ wide) (t.sized ∙ many)
    (t.state (outcome s frame) (paper t s wide many spells)) in
    rw (first, rest)

-- ---- the list

-- what is said of all is said of each
each_of : {A B : Type 0} (f g : A → B) (xs : List A) → map f xs ≡ map g xs → (x : A) → Memᴰ x xs → f x ≡ g x
each_of f g [] e x m = absurd (Memᴰ.not-nil m)
each_of f g (y ∷ xs) e x m = ⊎_elim (λ q. let h : f y ≡ g y = cc in rw q h) (λ k. each_of f g xs (cc) x k) (Memᴰ.cases_cons m)

opening_passes : check_open 2048 1024 8192 ≡ Ok tt
unfolding check_open need ◌then◌
opening_passes = refl

-- opened with V = 2,048, 1,024 entries and 8,192 words, which is accepted; then every frame of an outcome of the list is answered as the list says
pub sixteen_marked_calls : (m : Marked) → Memᴰ m sixteen → (entries : List Entry) (pool : List ℤ) → length entries ≡ 1024 → length pool ≡ 8192 →
    (r : Called) → Opening 2048 entries pool r → (model : List ℕ) → length model ≡ 32 → (heard : List Said) →
    Replies entries pool r.carried model (m.before ++ m.frames) heard → (numbers r.answer ≡ (0, 0)) × (heard ≡ expected_of m)
sixteen_marked_calls m k entries pool n w r o model many heard t =
    let accepted : check_open 2048 (length entries) (length pool) ≡ Ok tt = rw (n, w) opening_passes in
    let s = opened 2048 (length entries) (length pool) in
    let as_said : heard ≡ answers m = replied t s refl many (o.state accepted) ∙ rw (n, w) refl in
    let opens : numbers r.answer ≡ (0, 0) = ap (λ (x : Called). numbers x.answer) (o.called ∙ ap (opened_with 2048) accepted) in
    (opens, as_said ∙ each_of answers expected_of sixteen sixteen_marked_outcomes m k)
