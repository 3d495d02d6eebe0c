-- A run by its lines: what bytes close, how much of them is taken, and what bytes that close no line do.
use mathlib.Core.Path.{◌≡◌, refl, sym, ap, ◌∙◌}
use mathlib.Core.Bool.{true, false, not, ◌||◌, or_assoc}
use mathlib.Core.List.{List, [], ◌∷◌, ◌++◌, append_assoc, append-nil}
use mathlib.Core.Option.{Option, none, some}
use Prim.Native.Nat.{ℕ, suc, ◌+◌, ◌≤◌, ◌<◌}
use native.Mathlib.Omega.{arith}
use lib.Dec.{eqb, leb}
use lib.IntN.{ℤ}
use lib.ListN.{length}
use borrow.Author.Tests.{le-leb, lt-leb, ne_eqb, ltb-true}
use Rattle.rules.specs.Lists.{all_pass}
use Rattle.rules.specs.Terms.{State}
use Rattle.rules.proofs.Lists.{by_cases, not-true, all_head, all_tail, all_nil, all_cons}
use Rattle.rules.proofs.Lasting.{Lasts, outcome_lasts}
use Rattle.line_hex.specs.Hex.{digit, is_digit}
use Rattle.line_hex.proofs.Digits.{end_beyond}
use Rattle.line_read.specs.Lines.{line_outcome, reply}
use Rattle.line_read.specs.Machine.{Line, fresh, push, reads, frame, Session, move, session_after}
use Rattle.line_read.specs.Parts.{closes, line_after, state_after, replied, line_alters, some_alters, largest_reply, taken_of}
use Rattle.text.specs.Places.{goes_on}

abbrev Lines : Type 0
Lines = List (Option (List ℤ))

-- ---- a run is what its lines come to

-- what the lines of bytes come to, from a run on
abbrev pub by_lines : Session → List ℕ → Session
by_lines r bs =
    record { line = line_after r.line bs; state = state_after r.state (closes r.line bs); out = r.out ++ replied r.state (closes r.line bs) }

pub run_by_lines : (bs : List ℕ) (r : Session) → session_after r bs ≡ by_lines r bs
unfolding session_after move closes line_after state_after replied
run_by_lines [] r = ap (λ o. record { line = r.line; state = r.state; out = o }) (sym (append-nil r.out))
run_by_lines (b ∷ bs) r = by_cases (eqb b 10)
    (λ e.
    let o = line_outcome r.state (frame r.line) in
    let more = replied o.state (closes fresh bs) in
    rw e (run_by_lines bs (record { line = fresh; state = o.state; out = r.out ++ reply r.state.vars o })
    ∙ ap (λ x. record { line = line_after fresh bs; state = state_after o.state (closes fresh bs); out = x })
    (append_assoc r.out (reply r.state.vars o) more)))
    (λ e. rw e (run_by_lines bs (record { line = push r.line b; state = r.state; out = r.out })))

-- ---- lines after lines

pub closes_append : (xs ys : List ℕ) (l : Line) → closes l (xs ++ ys) ≡ closes l xs ++ closes (line_after l xs) ys
unfolding closes line_after
closes_append [] ys l = refl
closes_append (x ∷ xs) ys l = by_cases (eqb x 10) (λ e. rw e (ap (λ fs. frame l ∷ fs) (closes_append xs ys fresh))) (λ e. rw e (closes_append xs ys (push l x)))

pub state_append : (fs gs : Lines) (s : State) → state_after s (fs ++ gs) ≡ state_after (state_after s fs) gs
unfolding state_after
state_append [] gs s = refl
state_append (f ∷ fs) gs s = state_append fs gs (line_outcome s f).state

pub replied_append : (fs gs : Lines) (s : State) → replied s (fs ++ gs) ≡ replied s fs ++ replied (state_after s fs) gs
unfolding replied state_after
replied_append [] gs s = refl
replied_append (f ∷ fs) gs s =
    let o = line_outcome s f in
    ap (λ x. reply s.vars o ++ x) (replied_append fs gs o.state)
    ∙ sym (append_assoc (reply s.vars o) (replied o.state fs) (replied (state_after o.state fs) gs))

pub alters_append : (fs gs : Lines) (s : State) → some_alters s (fs ++ gs) ≡ (some_alters s fs || some_alters (state_after s fs) gs)
unfolding some_alters state_after
alters_append [] gs s = refl
alters_append (f ∷ fs) gs s =
    ap (λ x. line_alters s f || x) (alters_append fs gs (line_outcome s f).state)
    ∙ sym (or_assoc (line_alters s f) (some_alters (line_outcome s f).state fs) (some_alters (state_after (line_outcome s f).state fs) gs))

-- ---- bytes that close no line

pub closes_none : (bs : List ℕ) (l : Line) → all_pass goes_on bs ≡ true → closes l bs ≡ []
unfolding closes
closes_none [] l a = refl
closes_none (b ∷ bs) l a = let e : eqb b 10 ≡ false = not-true (all_head goes_on b bs a) in rw e (closes_none bs (push l b) (all_tail goes_on b bs a))

line_unclosed : (bs : List ℕ) (l : Line) → all_pass goes_on bs ≡ true → line_after l bs ≡ reads l bs
unfolding line_after reads
line_unclosed [] l a = refl
line_unclosed (b ∷ bs) l a = let e : eqb b 10 ≡ false = not-true (all_head goes_on b bs a) in rw e (line_unclosed bs (push l b) (all_tail goes_on b bs a))

pub run_unclosed : (bs : List ℕ) (r : Session) → all_pass goes_on bs ≡ true →
    session_after r bs ≡ record { line = reads r.line bs; state = r.state; out = r.out }
unfolding state_after replied
run_unclosed bs r a =
    let c = closes_none bs r.line a in
    run_by_lines bs r ∙ rw (c, line_unclosed bs r.line a) (ap (λ o. record { line = reads r.line bs; state = r.state; out = o }) (append-nil r.out))

-- digits close none
pub digits_go_on : (bs : List ℕ) → all_pass is_digit bs ≡ true → all_pass goes_on bs ≡ true
digits_go_on [] a = all_nil goes_on
digits_go_on (b ∷ bs) a =
    all_cons goes_on b bs (ap not (ne_eqb b 10 (λ e. let k = ltb-true (digit b) 16 (all_head is_digit b bs a) in omega (arith, ap digit e, end_beyond))))
    (digits_go_on bs (all_tail is_digit b bs a))

-- ---- how much is taken

taken_some : (size : ℕ) (r : Session) (b : ℕ) (bs : List ℕ) → length r.out + largest_reply ≤ size →
    taken_of size r (b ∷ bs) ≡ suc (taken_of size (move r b) bs)
unfolding taken_of
taken_some size r b bs h = rw (le-leb (length r.out + largest_reply) size h)

pub taken_none : (size : ℕ) (r : Session) (bs : List ℕ) → size < length r.out + largest_reply → taken_of size r bs ≡ 0
unfolding taken_of
taken_none size r [] h = refl
taken_none size r (b ∷ bs) h = rw (lt-leb (length r.out + largest_reply) size h)

-- while no line is closed the room stays
pub taken_unclosed : (xs ys : List ℕ) (size : ℕ) (r : Session) → all_pass goes_on xs ≡ true → length r.out + largest_reply ≤ size →
    taken_of size r (xs ++ ys) ≡ length xs + taken_of size (session_after r xs) ys
unfolding session_after move
taken_unclosed [] ys size r a h = omega arith
taken_unclosed (x ∷ xs) ys size r a h =
    let e : eqb x 10 ≡ false = not-true (all_head goes_on x xs a) in
    taken_some size r x (xs ++ ys) h
    ∙ rw e (omega (arith, taken_unclosed xs ys size (record { line = push r.line x; state = r.state; out = r.out }) (all_tail goes_on x xs a) h))

pub taken_one : (size : ℕ) (r : Session) (b : ℕ) (bs : List ℕ) → length r.out + largest_reply ≤ size →
    taken_of size r (b ∷ bs) ≡ 1 + taken_of size (move r b) bs
taken_one size r b bs h = omega (arith, taken_some size r b bs h)

pub taken_le : (bs : List ℕ) (size : ℕ) (r : Session) → taken_of size r bs ≤ length bs
unfolding taken_of
taken_le [] size r = omega arith
taken_le (b ∷ bs) size r =
    by_cases (leb (length r.out + largest_reply) size) (λ e. rw e (omega (arith, taken_le bs size (move r b)))) (λ e. rw e (omega arith))

pub line_append : (xs ys : List ℕ) (l : Line) → line_after l (xs ++ ys) ≡ line_after (line_after l xs) ys
unfolding line_after
line_append [] ys l = refl
line_append (x ∷ xs) ys l = by_cases (eqb x 10) (λ e. rw e (line_append xs ys fresh)) (λ e. rw e (line_append xs ys (push l x)))

-- with room for one answer a byte is taken
pub taken_least : (size : ℕ) (r : Session) (bs : List ℕ) → length r.out + largest_reply ≤ size → 0 < length bs → 0 < taken_of size r bs
taken_least size r [] h l = absurd (omega arith)
taken_least size r (b ∷ bs) h l = omega (arith, taken_some size r b bs h)

-- no line changes V, nor how many clauses may be held
pub line_lasts : (s : State) (f : Option (List ℤ)) → Lasts s (line_outcome s f).state
line_lasts s none = (refl, refl)
line_lasts s (some ws) = outcome_lasts s ws

pub after_entries : (fs : Lines) (s : State) → (state_after s fs).entries ≡ s.entries
unfolding state_after
after_entries [] s = refl
after_entries (f ∷ fs) s = after_entries fs (line_outcome s f).state ∙ (line_lasts s f).1
