-- The run of the machine is the program of the whole input, and where the input is cut does not matter.
use mathlib.Core.Path.{◌≡◌, refl, sym, ap, ◌∙◌}
use mathlib.Core.Bool.{true, false}
use mathlib.Core.List.{List, [], ◌∷◌, ◌++◌, flatten, append_assoc, append-nil}
use Prim.Native.Nat.{ℕ}
use lib.Dec.{eqb}
use Rattle.rules.specs.Terms.{State}
use Rattle.rules.proofs.Lists.{by_cases}
use Rattle.line_read.specs.Lines.{closed_lines, unclosed, frame_of, line_outcome, reply, replies, program}
use Rattle.line_read.specs.Machine.{fresh, reads, frame, Session, started, close, move, session_after, session_after_parts, end_reply}
use Rattle.line_read.proofs.Reading.{reads_snoc, frame_read, ended_read}

-- ---- in parts

pub run_append : (r : Session) (xs ys : List ℕ) → session_after r (xs ++ ys) ≡ session_after (session_after r xs) ys
unfolding session_after
run_append r [] ys = refl
run_append r (x ∷ xs) ys = run_append (move r x) xs ys

pub run_snoc : (r : Session) (xs : List ℕ) (b : ℕ) → session_after r (xs ++ (b ∷ [])) ≡ move (session_after r xs) b
unfolding session_after
run_snoc r xs b = run_append r xs (b ∷ [])

-- parts of any lengths, some empty
pub in_parts : (ps : List (List ℕ)) (r : Session) → session_after_parts r ps ≡ session_after r (flatten ps)
unfolding session_after session_after_parts flatten
in_parts [] r = refl
in_parts (p ∷ ps) r = in_parts ps (session_after r p) ∙ sym (run_append r p (flatten ps))

-- ---- the run

-- what was read of a line, and the replies to those before
abbrev at : List ℕ → State → List ℕ → Session
at h s o = record { line = reads fresh h; state = s; out = o }

move_close : (h : List ℕ) (s : State) (o : List ℕ) (b : ℕ) → eqb b 10 ≡ true →
    move (at h s o) b ≡ at [] (line_outcome s (frame_of h)).state (o ++ reply s.vars (line_outcome s (frame_of h)))
unfolding move reads
move_close h s o b e = rw (e, frame_read h)

move_push : (h : List ℕ) (s : State) (o : List ℕ) (b : ℕ) → eqb b 10 ≡ false → move (at h s o) b ≡ at (h ++ (b ∷ [])) s o
unfolding move
move_push h s o b e = rw (e, reads_snoc fresh h b)

record Agrees (h : List ℕ) (s : State) (o bs : List ℕ) : Type 0 where
  out : (session_after (at h s o) bs).out ≡ o ++ replies s (closed_lines h bs)
  rest : (session_after (at h s o) bs).line ≡ reads fresh (unclosed h bs)

agrees : (bs h : List ℕ) (s : State) (o : List ℕ) → Agrees h s o bs
unfolding session_after closed_lines unclosed replies
agrees [] h s o = record { out = sym (append-nil o); rest = refl }
agrees (b ∷ bs) h s o = by_cases (eqb b 10)
    (λ e.
    let w = reply s.vars (line_outcome s (frame_of h)) in
    let n = (line_outcome s (frame_of h)).state in
    let i = agrees bs [] n (o ++ w) in
    let m = move_close h s o b e in
    record {
      out = rw e (ap (λ r. (session_after r bs).out) m ∙ i.out ∙ append_assoc o w (replies n (closed_lines [] bs)));
      rest = rw e (ap (λ r. (session_after r bs).line) m ∙ i.rest);
    })
    (λ e.
    let i = agrees bs (h ++ (b ∷ [])) s o in
    let m = move_push h s o b e in
    record { out = rw e (ap (λ r. (session_after r bs).out) m ∙ i.out); rest = rw e (ap (λ r. (session_after r bs).line) m ∙ i.rest) })

-- what the run writes, with what the end of input adds, is document 01's output
pub run_program : (s : State) (bs : List ℕ) → let r = session_after (started s) bs in r.out ++ end_reply r.line.digits r.line.spoilt ≡ program s bs
unfolding program reads
run_program s bs =
    let a = agrees bs [] s [] in
    let r = a.rest in
    rw (a.out, r, ended_read (unclosed [] bs))

-- ---- what was written is not looked at

-- the run with o written before
abbrev pub behind : List ℕ → Session → Session
behind o r = record { line = r.line; state = r.state; out = o ++ r.out }

move_behind : (o : List ℕ) (r : Session) (b : ℕ) → move (behind o r) b ≡ behind o (move r b)
unfolding move
move_behind o r b = by_cases (eqb b 10)
    (λ e. rw e (ap (λ x. record { line = fresh; state = (close r).state; out = x })
    (append_assoc o r.out (reply r.state.vars (line_outcome r.state (frame r.line))))))
    (λ e. rw e)

pub run_behind : (bs : List ℕ) (o : List ℕ) (r : Session) → session_after (behind o r) bs ≡ behind o (session_after r bs)
unfolding session_after
run_behind [] o r = refl
run_behind (b ∷ bs) o r = ap (λ x. session_after x bs) (move_behind o r b) ∙ run_behind bs o (move r b)
