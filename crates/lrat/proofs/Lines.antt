-- A line: its words, taken by the machine one after the other, come to what the definition asks of the line.
use mathlib.Core.Path.{◌≡◌, refl, ap, ◌∙◌}
use mathlib.Core.Bool.{Bool, true, false, cond, ◌&&◌}
use mathlib.Core.List.{List, [], ◌∷◌, ◌++◌, map}
use mathlib.Core.Option.{Option, none, some}
use Prim.Native.Nat.{ℕ, ◌≤◌, ◌<◌, min}
use native.Mathlib.Omega.{arith}
use native.Mathlib.Decide.{dec_lt}
use lib.Dec.{eqb, ltb, leb}
use lib.IntN.{ℤ, pos, negsuc, nat_abs}
use borrow.Author.Tests.{eqb-true, lt-leb, le-leb, leb-true}
use Rattle.rules.specs.Lists.{all_pass}
use Rattle.rules.specs.Terms.{Literals, State, holds, null, everything}
use Rattle.rules.specs.Propagation.{among, run}
use Rattle.rules.specs.Frames.{positive}
use Rattle.rules.proofs.Lists.{by_cases, true-false, and_right}
use Rattle.text.specs.Words.{TextWord}
use Rattle.text_numbers.specs.Numbers.{natural_of, integer_of}
use Rattle.lrat.specs.Lines.{Closed, up_to_zero, Line, malformed, addition, deletion, at_end, is_id, with_hints, with_literals, with_ids, is_d, behind_id}
use Rattle.lrat.specs.Lines.{read_words}
use Rattle.lrat.specs.Checking.{ask, named_by, not_negative, is_proved, check_line, next_line, is_empty_clause}
use Rattle.lrat.specs.Machine.{Reading, line_start, note, enter, id_said, end_literals, Step, step, take_number, take_word, line_code, is_addition}
use Rattle.lrat.specs.Machine.{addition_fault, state_behind}
use Rattle.lrat.specs.declared.LineWord.{LineWord}
use Rattle.lrat.specs.declared.LineWord.TheVariants.{Number, Deletion, Other}
use Rattle.lrat.proofs.Heard.{capped, number_heard, heard_as, heard}
use Rattle.lrat.proofs.Fed.{takes, takes_append, heard_words}
use Rattle.lrat.proofs.Closing.{nonzero, numbers_heard, zero_heard, ClosedBy, Stops, Unclosed, Upto, upto}
use Rattle.lrat.proofs.Onward.{words_on, code_noted, code_unclosed}
use Rattle.lrat.proofs.Literals.{AmongLiterals, literals_taken, literals_run, phase_literals, among_yet, literals_noted, noted_most}
use Rattle.lrat.proofs.Literals.{noted_least, all_literals}
use Rattle.lrat.proofs.Hints.{number_in_hints, hints_taken, SameLine, hints_same, hints_run, hints_noted, hints_read}
use Rattle.lrat.proofs.Deleted.{number_in_ids, ids_taken, ids_phase, ids_run, negative_noted, all_ids}
use Rattle.lrat.proofs.Additions.{AdditionRead, addition_judged, passed_kept}

-- what a line's words came to, against the line that they are
pub record LineRead (s : State) (l : Line) (t : Step) : Type 0 where
  pub code : line_code t.state t.reading ≡ check_line s l
  pub state : check_line s l ≡ 0 → state_behind t.state t.reading ≡ next_line s l
  pub empty : check_line s l ≡ 0 → (is_addition t.reading && null t.reading.lits) ≡ is_empty_clause l

-- the same line, the same words
line_as : {s : State} {l l' : Line} {t : Step} → l ≡ l' → LineRead s l' t → LineRead s l t
line_as e r = rw e r

read_as : {s : State} {l : Line} {t t' : Step} → t ≡ t' → LineRead s l t' → LineRead s l t
read_as e r = rw e r

-- ---- malformed

-- the words come to 31
abbrev Wrong : Step → Type 0
Wrong t = line_code t.state t.reading ≡ 31

wrong_read : (s : State) (t : Step) → Wrong t → LineRead s malformed t
unfolding check_line
wrong_read s t e = record { code = e; state = λ q. absurd (omega (arith, q)); empty = λ q. absurd (omega (arith, q)) }

-- a word that notes 31, whatever comes behind it
wrong_word : (w : LineWord) (ws : List LineWord) (t : Step) → 31 ≤ t.reading.line.noted →
    take_word t.state w t.reading ≡ step t.state (note 31 t.reading) → Wrong (takes t (w ∷ ws))
unfolding takes
wrong_word w ws t k e =
    let noted : (take_word t.state w t.reading).reading.line.noted ≡ 31 = ap (λ x. x.reading.line.noted) e ∙ omega (arith, k) in
    code_noted _ _ ((words_on ws (take_word t.state w t.reading)).noted noted)

-- a line closed already
pub record Shut (r : Reading) : Type 0 where
  none_before : eqb r.line.phase 0 ≡ false
  no_id : eqb r.line.phase 1 ≡ false
  no_literals : eqb r.line.phase 2 ≡ false
  no_hints : eqb r.line.phase 3 ≡ false
  no_deletion : eqb r.line.phase 5 ≡ false

shut_word : (w : LineWord) (s : State) (r : Reading) → Shut r → take_word s w r ≡ step s (note 31 r)
unfolding take_word take_number
shut_word (Number minus v) s r h = rw (h.none_before, h.no_id, h.no_literals, h.no_hints, h.no_deletion)
shut_word Deletion s r h = rw h.no_id
shut_word Other s r h = refl

-- words behind the last 0 of a line
behind_shut : (ws : List TextWord) (l : Line) (s : State) (t : Step) → Shut t.reading → 31 ≤ t.reading.line.noted → LineRead s l t →
    LineRead s (at_end ws l) (takes t (heard_words ws))
unfolding takes
behind_shut [] l s t h k r = r
behind_shut (w ∷ ws) l s t h k r =
    wrong_read s _ (wrong_word (heard w.bytes) (heard_words ws) t k (shut_word (heard w.bytes) t.state t.reading h))

-- words that stop short of a 0, where no d may stand
stops_short : (ws : List LineWord) (t : Step) → Stops ws → 31 ≤ t.reading.line.noted → eqb t.reading.line.phase 1 ≡ false →
    eqb t.reading.line.phase 4 ≡ false → eqb t.reading.line.phase 6 ≡ false → Wrong (takes t ws)
unfolding takes take_word
stops_short [] t h k a b c = code_unclosed t.state t.reading b c
stops_short (Number minus v ∷ ws) t h k a b c = absurd h
stops_short (Deletion ∷ ws) t h k a b c = wrong_word Deletion ws t k (rw a)
stops_short (Other ∷ ws) t h k a b c = wrong_word Other ws t k refl

-- ---- words behind numbers

-- up to the 0 and behind it, and up to where they stop
closed_takes : (ws : List TextWord) (x : Closed) (t t₂ : Step) → ClosedBy ws x → takes t (numbers_heard x.numbers) ≡ t₂ →
    takes t (heard_words ws) ≡ takes (take_word t₂.state zero_heard t₂.reading) (heard_words x.behind)
unfolding takes
closed_takes ws x t t₂ c e =
    ap (takes t) c.same ∙ takes_append (numbers_heard x.numbers) (zero_heard ∷ heard_words x.behind) t
    ∙ ap (λ y. takes y (zero_heard ∷ heard_words x.behind)) e

unclosed_takes : (ws : List TextWord) (t t₂ : Step) (u : Unclosed ws) → takes t (numbers_heard u.numbers) ≡ t₂ →
    takes t (heard_words ws) ≡ takes t₂ u.rest
unclosed_takes ws t t₂ u e = ap (takes t) u.same ∙ takes_append (numbers_heard u.numbers) u.rest t ∙ ap (λ y. takes y u.rest) e

least_on : (ws : List LineWord) (t t₂ : Step) → t.reading.line.noted ≡ 37 → takes t ws ≡ t₂ → 31 ≤ t₂.reading.line.noted
least_on ws t t₂ n e = rw (← e) ((words_on ws t).least (omega (arith, n)))

-- ---- a deletion

-- its ids are closed
module _ (is : List ℤ) (s : State) (r : Reading) (at : r.line.phase ≡ 5) (n : r.line.noted ≡ 37) (others : all_pass nonzero is ≡ true) where
  abbrev ids_behind : Step
  ids_behind = ids_taken (step s r) is

  abbrev ids_closed : Step
  ids_closed = step ids_behind.state (enter 6 ids_behind.reading)

  ids_shut : Shut ids_closed.reading
  ids_shut = record { none_before = refl; no_id = refl; no_literals = refl; no_hints = refl; no_deletion = refl }

  zero_closes : take_word ids_behind.state zero_heard ids_behind.reading ≡ ids_closed
  zero_closes = number_in_ids ids_behind.state ids_behind.reading (ids_phase is (step s r) ∙ at) false 0

  ids_read : LineRead s (cond (all_pass positive is) (deletion (map nat_abs is)) malformed) ids_closed
  unfolding check_line line_code
  ids_read = by_cases (all_pass positive is)
      (λ p. let d = all_ids is (step s r) n p in rw p (record { code = d.code; state = d.state; empty = λ q. refl }))
      (λ p. rw p (wrong_read s ids_closed (code_noted ids_closed.state ids_closed.reading (negative_noted is (step s r) (omega (arith, n)) others p))))

deletion_read : (ws : List TextWord) (u : Option Closed) (s : State) (r : Reading) → Upto ws u → r.line.phase ≡ 5 → r.line.noted ≡ 37 →
    LineRead s (with_ids u) (takes (step s r) (heard_words ws))
deletion_read ws none s r u at n =
    let ran = ids_run u.numbers (step s r) at u.others in
    let t = ids_taken (step s r) u.numbers in
    let p = ids_phase u.numbers (step s r) ∙ at in
    let e = unclosed_takes ws (step s r) t u ran in
    rw e (wrong_read s _ (stops_short u.rest t u.stops (least_on _ _ _ n ran) (rw p) (rw p) (rw p)))
deletion_read ws (some x) s r c at n =
    let ran = ids_run x.numbers (step s r) at c.others in
    let t = ids_closed x.numbers s r at n c.others in
    let e = closed_takes ws x (step s r) (ids_taken (step s r) x.numbers) c ran
    ∙ ap (λ y. takes y (heard_words x.behind)) (zero_closes x.numbers s r at n c.others) in
    rw e (behind_shut x.behind _ s t (ids_shut x.numbers s r at n c.others) (least_on _ _ _ n ran)
    (ids_read x.numbers s r at n c.others))

-- ---- the id of an addition

-- as the machine has it
abbrev id_heard : ℤ → ℕ
id_heard (pos n) = id_said false (capped n)
id_heard (negsuc n) = 0

abbrev in_order : ℕ → Bool
in_order i = ltb 0 i && leb i 2147483647

id_kept : (i : ℤ) → is_id i ≡ true → (id_heard i ≡ nat_abs i) × (in_order (nat_abs i) ≡ true)
id_kept (pos n) e =
    let k = leb-true n 2147483647 (and_right (ltb 0 n) (leb n 2147483647) e) in
    let c : capped n ≡ n = omega (arith, k) in
    let l = and_right (ltb 0 n) (leb n 2147483647) e in
    (rw (c, l), e)
id_kept (negsuc n) e = true-false e refl

id_lost : (i : ℤ) → is_id i ≡ false → in_order (id_heard i) ≡ false
id_lost (pos n) e = of (dec_lt 2147483647 n)
  where
    of : Dec (2147483647 < n) → in_order (id_heard (pos n)) ≡ false
    of (yes k) = let l = lt-leb (capped n) 2147483647 (omega arith) in rw l
    of (no k) = let c : capped n ≡ n = omega arith in let l = le-leb n 2147483647 (omega arith) in rw (c, l) e
id_lost (negsuc n) e = refl

-- ---- the hints of an addition, from behind its literals

record LiteralsRead (s : State) (i : ℤ) (c : List ℤ) (r : Reading) : Type 0 where
  phase : r.line.phase ≡ 3
  noted : r.line.noted ≡ literals_noted s.vars c
  id : r.line.id ≡ id_heard i
  proof : r.line.proof ≡ 0
  lits : literals_noted s.vars c ≡ 37 → r.lits ≡ c
  falses : r.falses ≡ holds r.lits

module _ (hints : List ℤ) (s : State) (i : ℤ) (c : List ℤ) (r : Reading) (L : LiteralsRead s i c r) where
  abbrev hints_behind : Reading
  hints_behind = hints_taken (among (everything s)) r hints

  abbrev hints_closed : Step
  hints_closed = step s (enter 4 hints_behind)

  hints_shut : Shut hints_closed.reading
  hints_shut = record { none_before = refl; no_id = refl; no_literals = refl; no_hints = refl; no_deletion = refl }

  same_line : SameLine r hints_behind
  same_line = hints_same hints (among (everything s)) r

  zero_ends : take_word s zero_heard hints_behind ≡ hints_closed
  zero_ends = number_in_hints s hints_behind (same_line.phase ∙ L.phase) false 0

  addition_parts : is_id i ≡ true → AdditionRead s (nat_abs i) c hints (enter 4 hints_behind)
  addition_parts e =
      let k = id_kept i e in
      record {
        noted = hints_noted hints (among (everything s)) r (omega (arith, L.noted, noted_most s.vars c))
            ∙ ap (λ x. min x (ask (all_pass not_negative hints) 36 37)) L.noted;
        id = same_line.id ∙ L.id ∙ k.0;
        is_id = k.1;
        lits = λ q. same_line.lits ∙ L.lits q;
        proof = λ q d. hints_read hints 0 (among (everything s)) r d L.proof
            ∙ ap (λ x. is_proved (run (among (everything s)) x 0 (map named_by hints)).verdict) (L.falses ∙ ap holds (L.lits q));
      }

  addition_read : is_id i ≡ true → LineRead s (addition (nat_abs i) c hints) hints_closed
  unfolding check_line line_code
  addition_read e =
      let a = addition_parts e in
      record {
        code = addition_judged s (nat_abs i) c hints (enter 4 hints_behind) a;
        state = λ q. let l = a.lits (passed_kept s (nat_abs i) c hints q) in let n = a.id in rw (l, n);
        empty = λ q. ap null (a.lits (passed_kept s (nat_abs i) c hints q));
      }

  -- an id that is none
  addition_wrong : is_id i ≡ false → 31 ≤ hints_behind.line.noted → Wrong hints_closed
  unfolding line_code
  addition_wrong e k =
      let o : in_order hints_behind.line.id ≡ false = ap in_order (same_line.id ∙ L.id) ∙ id_lost i e in
      let f : addition_fault s (enter 4 hints_behind) ≡ 31 = rw o (omega (arith, k)) in
      rw f

-- malformed, whether the id is one or not
both_wrong : (b : Bool) (s : State) (t : Step) → Wrong t → LineRead s (cond b malformed malformed) t
both_wrong true s t e = wrong_read s t e
both_wrong false s t e = wrong_read s t e

at_end_wrong : (ws : List TextWord) (s : State) (t : Step) → LineRead s (at_end ws malformed) t → LineRead s malformed t
at_end_wrong [] s t r = r
at_end_wrong (w ∷ ws) s t r = r

hints_line : (ws : List TextWord) (u : Option Closed) (s : State) (i : ℤ) (c : List ℤ) (r : Reading) → Upto ws u → LiteralsRead s i c r →
    LineRead s (cond (is_id i) (with_hints i c u) malformed) (takes (step s r) (heard_words ws))
hints_line ws none s i c r u L =
    let ran = hints_run u.numbers s r L.phase u.others in
    let t = step s (hints_taken (among (everything s)) r u.numbers) in
    let p = (hints_same u.numbers (among (everything s)) r).phase ∙ L.phase in
    let e = unclosed_takes ws (step s r) t u ran in
    let k = (words_on (numbers_heard u.numbers) (step s r)).least (omega (arith, L.noted, noted_least s.vars c)) in
    rw e (both_wrong (is_id i) s _ (stops_short u.rest t u.stops (rw ran at k) (rw p) (rw p) (rw p)))
hints_line ws (some x) s i c r u L =
    let ran = hints_run x.numbers s r L.phase u.others in
    let t = hints_closed x.numbers s i c r L in
    let e = closed_takes ws x (step s r) (step s (hints_behind x.numbers s i c r L)) u ran
    ∙ ap (λ y. takes y (heard_words x.behind)) (zero_ends x.numbers s i c r L) in
    let before = (words_on (numbers_heard x.numbers) (step s r)).least (omega (arith, L.noted, noted_least s.vars c)) in
    let k : 31 ≤ t.reading.line.noted = rw ran at before in
    let shut = hints_shut x.numbers s i c r L in
    rw e (by_cases (is_id i)
    (λ y. rw y (behind_shut x.behind _ s t shut k (addition_read x.numbers s i c r L y)))
    (λ n. rw n (at_end_wrong x.behind s _ (behind_shut x.behind malformed s t shut k (wrong_read s t (addition_wrong x.numbers s i c r L n k))))))

-- ---- the literals of an addition, from behind its id

record IdRead (i : ℤ) (r : Reading) : Type 0 where
  phase : r.line.phase ≡ 1
  noted : r.line.noted ≡ 37
  count : r.line.count ≡ 0
  id : r.line.id ≡ id_heard i
  proof : r.line.proof ≡ 0
  lits : r.lits ≡ []

behind_id_read : {i : ℤ} {r : Reading} → IdRead i r → AmongLiterals r
behind_id_read I = let p = I.phase in record { behind_id = rw p; before_hints = rw p }

-- the first word is no d
abbrev NoD : List LineWord → Type 0
NoD [] = Unit {0}
NoD (Number minus v ∷ ws) = Unit {0}
NoD (Deletion ∷ ws) = ⊥
NoD (Other ∷ ws) = Unit {0}

stops_at_once : (ws : List LineWord) (t : Step) → Stops ws → NoD ws → 31 ≤ t.reading.line.noted →
    eqb t.reading.line.phase 4 ≡ false → eqb t.reading.line.phase 6 ≡ false → Wrong (takes t ws)
unfolding takes take_word
stops_at_once [] t h d k b c = code_unclosed t.state t.reading b c
stops_at_once (Number minus v ∷ ws) t h d k b c = absurd h
stops_at_once (Deletion ∷ ws) t h d k b c = absurd d
stops_at_once (Other ∷ ws) t h d k b c = wrong_word Other ws t k refl

module _ (s : State) (i : ℤ) (r : Reading) (small : s.vars ≤ 2048) (I : IdRead i r) where
  -- unclosed literals
  literals_short : (c : List ℤ) (rest : List LineWord) → all_pass nonzero c ≡ true → Stops rest → NoD (numbers_heard c ++ rest) →
      Wrong (takes (step s r) (numbers_heard c ++ rest))
  literals_short [] rest n h d = let p = I.phase in stops_at_once rest (step s r) h d (omega (arith, I.noted)) (rw p) (rw p)
  literals_short (l ∷ c) rest n h d =
      let ran = literals_run (l ∷ c) s r small (behind_id_read I) n in
      let t = step s (literals_taken s.vars r (l ∷ c)) in
      let p = phase_literals c l s.vars r in
      let e : takes (step s r) (numbers_heard (l ∷ c) ++ rest) ≡ takes t rest =
      takes_append (numbers_heard (l ∷ c)) rest (step s r) ∙ ap (λ y. takes y rest) ran in
      rw e (stops_short rest t h (least_on _ _ _ I.noted ran) (rw p) (rw p) (rw p))

  -- closed literals
  module _ (c : List ℤ) (n : all_pass nonzero c ≡ true) where
    abbrev literals_behind : Reading
    literals_behind = literals_taken s.vars r c

    zero_turns : take_word s zero_heard literals_behind ≡ step s (end_literals literals_behind)
    unfolding take_word take_number
    zero_turns = let a = among_yet c s.vars r (behind_id_read I) in rw (a.behind_id, a.before_hints)

    literals_read : LiteralsRead s i c (end_literals literals_behind)
    literals_read =
        let t = all_literals c s.vars r I.noted I.count I.lits in
        record { phase = refl; noted = t.noted; id = t.id ∙ I.id; proof = t.proof ∙ I.proof; lits = t.lits; falses = refl }

  literals_line : (ws : List TextWord) (u : Option Closed) → Upto ws u → NoD (heard_words ws) →
      LineRead s (with_literals i u) (takes (step s r) (heard_words ws))
  literals_line ws none u d =
      let same = u.same in
      rw same (wrong_read s _ (literals_short u.numbers u.rest u.others u.stops (rw same at d)))
  literals_line ws (some x) u d =
      let ran = literals_run x.numbers s r small (behind_id_read I) u.others in
      let e = closed_takes ws x (step s r) (step s (literals_behind x.numbers u.others)) u ran
      ∙ ap (λ y. takes y (heard_words x.behind)) (zero_turns x.numbers u.others) in
      rw e (hints_line x.behind (up_to_zero x.behind) s i x.numbers _ (upto x.behind) (literals_read x.numbers u.others))

-- ---- a whole line

heard_d : (w : List ℕ) → is_d w ≡ true → heard w ≡ Deletion
unfolding integer_of natural_of all_pass
heard_d [] e = true-false e refl
heard_d (b ∷ []) e = let q = eqb-true b 100 e in rw q
heard_d (b ∷ c ∷ w) e = true-false e refl

-- any other word is heard as a number or as something else
no_d : (n : Option ℤ) (ws : List LineWord) → NoD (heard_as n false ∷ ws)
no_d none ws = tt
no_d (some (pos n)) ws = tt
no_d (some (negsuc n)) ws = tt

abbrev pub unread : Literals → Reading
unread F = record { line = line_start; lits = []; falses = F }

-- behind the id
abbrev id_behind : Literals → ℤ → Reading
id_behind F i = record { line = record { phase = 1; noted = 37; id = id_heard i; count = 0; proof = 0 }; lits = []; falses = F }

id_first : (i : ℤ) (s : State) (F : Literals) → take_word s (number_heard i) (unread F) ≡ step s (id_behind F i)
unfolding take_word take_number
id_first (pos n) s F = refl
id_first (negsuc n) s F = refl

module _ (s : State) (F : Literals) (small : s.vars ≤ 2048) where
  after_id : (ws : List TextWord) (i : ℤ) → LineRead s (behind_id (some i) ws) (takes (step s (id_behind F i)) (heard_words ws))
  unfolding takes take_word
  after_id [] i = wrong_read s _ (code_unclosed s (id_behind F i) refl refl)
  after_id (w ∷ ws) i = by_cases (is_d w.bytes)
      (λ d.
      let h = heard_d w.bytes d in
      let e : takes (step s (id_behind F i)) (heard_words (w ∷ ws)) ≡ takes (step s (enter 5 (id_behind F i))) (heard_words ws) =
      ap (λ x. takes (step s (id_behind F i)) (x ∷ heard_words ws)) h in
      read_as e (rw d (deletion_read ws (up_to_zero ws) s (enter 5 (id_behind F i)) (upto ws) refl refl)))
      (λ d.
      let I : IdRead i (id_behind F i) = record { phase = refl; noted = refl; count = refl; id = refl; proof = refl; lits = refl } in
      let k : NoD (heard_words (w ∷ ws)) = rw d (no_d (integer_of w.bytes) (heard_words ws)) in
      let q : behind_id (some i) (w ∷ ws) ≡ with_literals i (up_to_zero (w ∷ ws)) = rw d in
      line_as q (literals_line s i (id_behind F i) small I (w ∷ ws) (up_to_zero (w ∷ ws)) (upto (w ∷ ws)) k))

  by_first : (w : TextWord) (ws : List TextWord) (n : Option ℤ) → integer_of w.bytes ≡ n →
      LineRead s (behind_id n ws) (takes (step s (unread F)) (heard_words (w ∷ ws)))
  unfolding takes take_word
  by_first w ws none e =
      wrong_read s _ (wrong_word (heard w.bytes) (heard_words ws) (step s (unread F)) (omega arith)
      (ap (λ n. take_word s (heard_as n (is_d w.bytes)) (unread F)) e ∙ no_number (is_d w.bytes)))
    where
      no_number : (d : Bool) → take_word s (heard_as none d) (unread F) ≡ step s (note 31 (unread F))
      no_number true = refl
      no_number false = refl
  by_first w ws (some i) e =
      read_as (ap (λ n. takes (take_word s (heard_as n (is_d w.bytes)) (unread F)) (heard_words ws)) e
      ∙ ap (λ t. takes t (heard_words ws)) (id_first i s F)) (after_id ws i)

  pub words_line : (ws : List TextWord) → LineRead s (read_words ws) (takes (step s (unread F)) (heard_words ws))
  unfolding takes
  words_line [] = wrong_read s _ (code_unclosed s (unread F) refl refl)
  words_line (w ∷ ws) = by_first w ws (integer_of w.bytes) refl
