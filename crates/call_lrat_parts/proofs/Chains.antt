-- The answer is the same wherever the proof is cut, and by whichever call: it is the definition's for the two texts. And the tables are then empty.
use mathlib.Core.Path.{◌≡◌, refl, sym, ap, subst, ◌∙◌}
use mathlib.Core.Bool.{Bool, true, false, cond}
use mathlib.Core.List.{List, [], ◌++◌, flatten}
use mathlib.Core.Option.{Option, none, some}
use Prim.Native.Nat.{ℕ}
use native.Mathlib.Omega.{arith}
use lib.IntN.{ℤ}
use lib.ListN.{length}
use Rattle.rules.specs.Terms.{State}
use Rattle.rules.specs.Answers.{lent, opened}
use Rattle.rules.proofs.Lists.{by_cases}
use Rattle.dimacs.specs.Reading.{Read, faulty, sound, Cnf, fault_numbers, read_text}
use Rattle.lent.specs.declared.Carried.{Carried}
use Rattle.lent_entries.specs.Lent.{state_lent}
use Rattle.lent_entries.specs.declared.Entry.{Entry}
use Rattle.lrat.specs.Checking.{answer, Filled, full, filled, fill, opened_for, against, against_text, lrat}
use Rattle.lrat.specs.Machine.{Session, started, run, finish, told}
use Rattle.lrat.specs.declared.LratAnswer.{LratAnswer}
use Rattle.lrat.proofs.Fed.{run_on}
use Rattle.lrat.proofs.Runs.{finish_over}
use Rattle.lrat.proofs.Sound.{NoModel, no_model}
use Rattle.lrat.proofs.Whole.{small, run_is_lrat, left_empty}
use Rattle.call_lrat.specs.Checks.{Checks}
use Rattle.call_lrat.specs.declared.LratCalled.{LratCalled}
use Rattle.call_lrat_parts.specs.Parts.{is_reading, met, session, unopened, no_room, holding, by_room, by_text, rules_of, LratOpens}
use Rattle.call_lrat_parts.specs.Parts.{ended, answer_so_far}
use Rattle.call_lrat_parts.specs.Chains.{Gives, one_part, then_parts, ChecksInParts}
use Rattle.call_lrat_parts.specs.declared.ProofReading.{ProofReading}
use Rattle.call_lrat_parts.specs.declared.LratGiven.{LratGiven}
use Rattle.call_lrat_parts.proofs.Running.{over_ended}

-- ---- the parts

-- what the last call hands out, where the first part met s
record Ran (last : Bool) (s : State) (r : ProofReading) (proof : List ℕ) (q : LratGiven) (entries' : List Entry) (pool' : List ℤ) : Type 0 where
  after : Session
  fed : after ≡ ended last (run (session r s) proof)
  answered : q.answer ≡ answer_so_far after
  spells : met entries' pool' q.carried q.reading ≡ some after.state
  reads : session q.reading after.state ≡ after

parts_run : {entries : List Entry} {pool : List ℤ} {c : Carried} {r : ProofReading} {parts : List (List ℕ)} {last : Bool} {q : LratGiven}
    {entries' : List Entry} {pool' : List ℤ} → Gives entries pool c r parts last q entries' pool' → (s : State) → met entries pool c r ≡ some s →
    Ran last s r (flatten parts) q entries' pool'
unfolding run flatten
parts_run {r = r} (one_part part last q entries' pool' g) s e =
    let f = g.given s e in
    record {
      after = f.after;
      fed = f.fed ∙ ap (ended last) (sym (run_on (session r s) part []));
      answered = f.answered;
      spells = f.spells;
      reads = f.reads;
    }
parts_run {r = r} (then_parts part h entries₁ pool₁ g {parts} {last} more) s e =
    let f = g.given s e in
    let rest = parts_run more f.after.state f.spells in
    record {
      after = rest.after;
      fed = rest.fed
          ∙ ap (λ m. ended last (run m (flatten parts))) (f.reads ∙ f.fed) ∙ ap (ended last) (sym (run_on (session r s) part (flatten parts)));
      answered = rest.answered;
      spells = rest.spells;
      reads = rest.reads;
    }

-- ---- the rules

-- the text has no fault, and there is room for its clauses
record Held (entries words : ℕ) (cnf : List ℕ) (s : State) : Type 0 where
  fits : lent entries words ≡ true
  text : Cnf
  read : read_text cnf ≡ sound text
  fills : fill (opened_for entries words text) 1 text.clauses ≡ filled s

rules_held : (entries words : ℕ) (cnf : List ℕ) {s : State} → rules_of entries words cnf ≡ holding s → Held entries words cnf s
rules_held entries words cnf {s} e = by_cases (lent entries words)
    (λ t. by_read t (read_text cnf) refl (rw t at e))
    (λ f. let d = rw f at e in let z : ◌≡◌ {A = ℕ} 0 1 = cc in absurd (omega arith))
  where
    by_fill : (vars : ℕ) (x : Filled) → by_room vars x ≡ holding s → x ≡ filled s
    by_fill vars (full code) d = let z : ◌≡◌ {A = ℕ} 0 1 = cc in absurd (omega arith)
    by_fill vars (filled u) d = let q : u ≡ s = cc in ap filled q

    by_read : lent entries words ≡ true → (x : Read Cnf) → read_text cnf ≡ x → by_text entries words x ≡ holding s → Held entries words cnf s
    by_read t (faulty f) q d = let z : ◌≡◌ {A = ℕ} 0 1 = cc in absurd (omega arith)
    by_read t (sound x) q d = record { fits = t; text = x; read = q; fills = by_fill x.vars (fill (opened_for entries words x) 1 x.clauses) d }

-- nothing is opened, or there is no room: the answer of `open` is the definition's, whatever the proof
pub unopened_is_the_answer : (entries words : ℕ) (cnf proof : List ℕ) {a : LratAnswer} → rules_of entries words cnf ≡ unopened a →
    lrat entries words cnf proof ≡ a
unopened_is_the_answer entries words cnf proof {a} e = by_cases (lent entries words)
    (λ t. rw t (by_read (read_text cnf) (rw t at e)))
    (λ f. let d = rw f at e in let q : answer 1 0 ≡ a = cc in rw f q)
  where
    by_fill : (vars : ℕ) (x : Filled) → by_room vars x ≡ unopened a → against proof x ≡ a
    by_fill vars (full code) d = let z : ◌≡◌ {A = ℕ} 0 1 = cc in absurd (omega arith)
    by_fill vars (filled u) d = let z : ◌≡◌ {A = ℕ} 0 1 = cc in absurd (omega arith)

    by_read : (x : Read Cnf) → by_text entries words x ≡ unopened a → against_text entries words x proof ≡ a
    by_read (faulty f) d = let q : answer (fault_numbers f).0 (fault_numbers f).1 ≡ a = cc in q
    by_read (sound x) d = by_fill x.vars (fill (opened_for entries words x) 1 x.clauses) d

pub no_room_is_the_answer : (entries words : ℕ) (cnf proof : List ℕ) {code vars : ℕ} → rules_of entries words cnf ≡ no_room code vars →
    lrat entries words cnf proof ≡ answer code 0
no_room_is_the_answer entries words cnf proof {code} {vars} e = by_cases (lent entries words)
    (λ t. rw t (by_read (read_text cnf) (rw t at e)))
    (λ f. let d = rw f at e in let z : ◌≡◌ {A = ℕ} 0 1 = cc in absurd (omega arith))
  where
    by_fill : (v : ℕ) (x : Filled) → by_room v x ≡ no_room code vars → against proof x ≡ answer code 0
    by_fill v (full k) d = let q : k ≡ code = cc in ap (λ n. answer n 0) q
    by_fill v (filled u) d = let z : ◌≡◌ {A = ℕ} 0 1 = cc in absurd (omega arith)

    by_read : (x : Read Cnf) → by_text entries words x ≡ no_room code vars → against_text entries words x proof ≡ answer code 0
    by_read (faulty f) d = let z : ◌≡◌ {A = ℕ} 0 1 = cc in absurd (omega arith)
    by_read (sound x) d = by_fill x.vars (fill (opened_for entries words x) 1 x.clauses) d

-- ---- both

met_lent : (reading : Bool) {lent-state : Option State} {s : State} → cond reading lent-state none ≡ some s → lent-state ≡ some s
met_lent true e = e
met_lent false e = let z : ◌≡◌ {A = ℕ} 0 1 = cc in absurd (omega arith)

module _ {entries : List Entry} {pool : List ℤ} {c : Carried} {r : ProofReading} {cnf : List ℕ} {parts : List (List ℕ)} {last : Bool} {q : LratGiven}
    {entries' : List Entry} {pool' : List ℤ} (k : ChecksInParts entries pool c r cnf parts last q entries' pool') {s : State}
    (e : rules_of (length entries) (length pool) cnf ≡ holding s) where
  h : Held (length entries) (length pool) cnf s
  h = rules_held (length entries) (length pool) cnf e

  opened_so : LratOpens (holding s) entries pool c r k.first k.entries₁ k.pool₁
  opened_so = subst (λ x. LratOpens x entries pool c r k.first k.entries₁ k.pool₁) e k.opens.opens

  ran : Ran last s k.first.reading (flatten parts) q entries' pool'
  ran = parts_run k.gives s opened_so.1

  fed_all : ran.after ≡ ended last (run (started s) (flatten parts))
  fed_all = ran.fed ∙ ap (λ m. ended last (run m (flatten parts))) opened_so.2

  -- the run over a proof that begins with the parts is over where they are: then the answer is the proof's, and the tables are empty
  module _ (proof : List ℕ) (whole : ran.after ≡ finish (run (started s) proof)) where
    known : ran.after.over ≡ true
    known = ap (λ (m : Session). m.over) whole ∙ finish_over s (small (length entries) (length pool) cnf proof h.read h.fills) proof

    answers : q.answer ≡ lrat (length entries) (length pool) cnf proof
    answers =
        let o = known in
        ran.answered ∙ rw o (ap told whole ∙ run_is_lrat (length entries) (length pool) cnf proof h.read h.fills h.fits)

    empties : {x : Cnf} → read_text cnf ≡ sound x → state_lent entries' pool' q.carried ≡ some (opened x.vars (length entries) (length pool))
    empties {x} d =
        let both : sound h.text ≡ sound x = sym h.read ∙ d in
        let same : h.text ≡ x = cc in
        met_lent (is_reading q.reading) ran.spells ∙ ap some (ap (λ (m : Session). m.state) whole
        ∙ left_empty (length entries) (length pool) cnf proof h.read h.fills
        ∙ ap (λ (y : Cnf). opened y.vars (length entries) (length pool)) same)

  -- the last part is told as the last: the answer is the definition's for the whole proof
  module _ (l : last ≡ true) where
    ended_all : ran.after ≡ finish (run (started s) (flatten parts))
    ended_all = fed_all ∙ ap (λ b. ended b (run (started s) (flatten parts))) l

    pub parts_are_the_whole : q.answer ≡ lrat (length entries) (length pool) cnf (flatten parts)
    parts_are_the_whole = answers (flatten parts) ended_all

    -- so it is what the call that checks a proof whole answers, over any tables as large
    pub same_by_either_call : {tables : List Entry} {words : List ℤ} {d : Carried} {p : LratCalled} {words' : List ℤ} →
        Checks tables words d cnf (flatten parts) p words' → length tables ≡ length entries → length words ≡ length pool → p.answer ≡ q.answer
    same_by_either_call w a b = w.answered ∙ rw (a, b) (sym parts_are_the_whole)

    -- "An accepted file means that the CNF has no model."
    pub accepted_has_no_model : q.answer.code ≡ 0 → NoModel (read_text cnf)
    accepted_has_no_model z =
        no_model (length entries) (length pool) cnf (flatten parts) (ap (λ (a : LratAnswer). a.code) (sym parts_are_the_whole) ∙ z)

    -- "opened empty and left so whatever the outcome"
    pub parts_left_empty : {x : Cnf} → read_text cnf ≡ sound x →
        state_lent entries' pool' q.carried ≡ some (opened x.vars (length entries) (length pool))
    parts_left_empty = empties (flatten parts) ended_all

  -- the answer is known before the last part: it is that of every proof that begins with the parts, and the tables are empty already
  module _ (l : last ≡ false) (o : q.reading.reader.over ≡ true) (rest : List ℕ) where
    over_early : ran.after ≡ finish (run (started s) (flatten parts ++ rest))
    over_early =
        let here = fed_all ∙ ap (λ b. ended b (run (started s) (flatten parts))) l in
        let over = sym (ap (λ (m : Session). m.over) ran.reads) ∙ o in
        over_ended true ran.after rest over ∙ ap (λ m. finish (run m rest)) here ∙ ap finish (sym (run_on (started s) (flatten parts) rest))

    pub known_early : q.answer ≡ lrat (length entries) (length pool) cnf (flatten parts ++ rest)
    known_early = answers (flatten parts ++ rest) over_early

    pub left_empty_early : {x : Cnf} → read_text cnf ≡ sound x →
        state_lent entries' pool' q.carried ≡ some (opened x.vars (length entries) (length pool))
    left_empty_early = empties (flatten parts ++ rest) over_early
