-- What a word and a line do to the session that a reader, the tables and what goes with them hold.
use mathlib.Core.Path.{◌≡◌, refl, sym, ap, subst, ◌∙◌}
use mathlib.Core.Bool.{Bool, true, false, cond}
use mathlib.Core.List.{List}
use Prim.Native.Nat.{ℕ, ◌+◌, ◌≤◌, ◌<◌}
use native.Mathlib.Omega.{arith}
use lib.Dec.{eqb}
use lib.IntN.{ℤ}
use lib.ListN.{length, get_or, drop}
use borrow.Author.Tests.{ne_eqb}
use Rattle.rules.specs.Terms.{State, in_range}
use Rattle.rules.proofs.Lists.{all_nil}
use Rattle.lit_sets.specs.Words.{set_of}
use Rattle.table.specs.Spelled.{Row, spelled}
use Rattle.table.specs.declared.Table.{Table}
use Rattle.lrat.specs.Checking.{one_more}
use Rattle.lrat.specs.Kept.{Keeps}
use Rattle.lrat.specs.Machine.{Session, Step, at_start, between, is_word, said, line_start, take_word, end_word, word_taken, line_code, is_last, emptied}
use Rattle.lrat.specs.Machine.{state_behind, fresh, close_line, move, run, unproved, decided, end_line, finish}
use Rattle.lrat.specs.declared.ProofReader.{ProofReader}
use Rattle.lrat.proofs.Onward.{word_on}
use Rattle.lrat.proofs.Runs.{over_stays}
use Rattle.lrat_words.specs.Taken.{TookWord}
use Rattle.lrat_words.specs.declared.WordTaken.{WordTaken}
use Rattle.lrat_words.proofs.Moving.{run_pushed, run_next, run_end}
use Rattle.lrat_line.specs.Lines.{reading, Takes}
use Rattle.lrat_line.specs.declared.Taken.{Taken}
use Rattle.lrat_close.specs.Closes.{Closes, empty_table}
use Rattle.lrat_close.specs.declared.LineClosed.{LineClosed}
use Rattle.lrat_close.proofs.Emptying.{emptied_fit, emptied_spelled}
use Rattle.lrat_feed.specs.Feeding.{worded, refused_at_end, session_of, Feedable, Feeds}
use Rattle.lrat_feed.specs.declared.Fed.{Fed}

abbrev pub fed : Table → ProofReader → Fed
fed t r = record { table = t; reader = r }

-- ---- a word ends

module _ {t : Table} {rows : List Row} {pool : List ℤ} {stack : List ℕ} (r : ProofReader) {lits : List ℤ} (plus minus : List ℕ)
    (f : Feedable t rows pool stack r lits) where
  abbrev before : Session
  before = session_of r lits plus minus (spelled t rows pool stack)

  -- none is on its way
  pub no_word : is_word r.word ≡ false → Feeds (end_word before) (fed t (worded between r)) rows pool stack lits plus minus
  unfolding end_word
  no_word e = record { feedable = record { fit = f.fit; keeps = f.keeps; noted = f.noted }; moved = rw e refl }

  pub word_ended : is_word r.word ≡ true → {q : Taken} {rows' : List Row} {lits' : List ℤ} {plus' minus' : List ℕ} →
      Takes (take_word (spelled t rows pool stack) (said r.word) (reading r.line lits plus minus)) q rows' pool stack lits' plus' minus' →
      Feeds (end_word before) (fed q.table (record { word = between; line = q.line; lines = r.lines; over = r.over; code = r.code })) rows' pool stack
      lits' plus' minus'
  unfolding end_word
  word_ended e k =
      let on = word_on (spelled t rows pool stack) (reading r.line lits plus minus) (said r.word) in
      let least = subst (λ (x : Step). 31 ≤ x.reading.line.noted) (sym k.taken) (on.least f.noted) in
      record {
        feedable = record { fit = k.fit; keeps = k.keeps; noted = least };
        moved = rw e (ap (word_taken before) k.taken);
      }

-- ---- a line ends

-- a session by its parts
closed_session : (m : Session) {code : ℕ} {over : Bool} {s : State} {lines : ℕ} → code ≡ line_code m.state m.reading → over ≡ is_last code m.reading →
    s ≡ cond over (emptied m.state) (state_behind m.state m.reading) → lines ≡ one_more m.lines →
    ◌≡◌ {A = Session} (record { word = at_start; reading = fresh m.reading; lines = lines; over = over; code = code; state = s }) (close_line m)
closed_session m c o s l = rw (s, o, c, l) refl

nothing_kept : {lits : List ℤ} → length lits ≡ 256 → Keeps line_start lits
nothing_kept e = record { long = e; few = omega arith; ranged = all_nil (in_range 2048) }

pub line_ended : {t : Table} {rows : List Row} {pool : List ℤ} {stack : List ℕ} (r : ProofReader) {lits : List ℤ} (plus minus : List ℕ) →
    Feedable t rows pool stack r lits → {q : LineClosed} {rows' : List Row} {pool' : List ℤ} → Closes t rows pool stack r.line lits q rows' pool' →
    {lines : ℕ} → lines ≡ one_more r.lines →
    Feeds (close_line (session_of r lits plus minus (spelled t rows pool stack)))
    (fed q.table (record { word = at_start; line = line_start; lines = lines; over = q.over; code = q.code })) rows' pool' stack lits plus minus
line_ended {t} {rows} {pool} {stack} r {lits} plus minus f k l =
    let F = set_of plus minus in
    record {
      feedable = record { fit = k.fit; keeps = nothing_kept f.keeps.long; noted = omega arith };
      moved = closed_session (session_of r lits plus minus (spelled t rows pool stack)) (k.coded F) (k.known F) (k.state F) l;
    }

-- ---- the end of the proof

module _ {t : Table} {rows : List Row} {pool : List ℤ} {stack : List ℕ} (r : ProofReader) {lits : List ℤ} (plus minus : List ℕ)
    (f : Feedable t rows pool stack r lits) where
  abbrev here : Session
  here = session_of r lits plus minus (spelled t rows pool stack)

  -- no byte of a line was read
  pub no_line : r.word.kind ≡ 0 → Feeds (end_line here) (fed t r) rows pool stack lits plus minus
  no_line e = let k : eqb r.word.kind 0 ≡ true = rw e refl in record { feedable = f; moved = sym (rw k refl) }

  -- the answer is known already
  pub over_already : r.over ≡ true → Feeds (finish here) (fed t r) rows pool stack lits plus minus
  unfolding finish
  over_already e = record { feedable = f; moved = sym (at_once here e) }
    where
      at_once : (m : Session) → m.over ≡ true → cond m.over m (decided (end_line m)) ≡ m
      at_once m o = ap (λ b. cond b m (decided (end_line m))) o

-- a line ends with its last word
module _ (m : Session) {n : Session} (e : n ≡ end_word m) {q : Fed} {rows : List Row} {pool : List ℤ} {stack : List ℕ} {lits : List ℤ} {plus minus : List ℕ}
    (f : Feeds (close_line n) q rows pool stack lits plus minus) where
  pub then_closed : Feeds (close_line (end_word m)) q rows pool stack lits plus minus
  then_closed = record { feedable = f.feedable; moved = f.moved ∙ ap close_line e }

  -- at the end of the proof, where one was begun
  pub line_follows : (m.word.kind ≡ 0 → ⊥) → Feeds (end_line m) q rows pool stack lits plus minus
  line_follows b =
      let k = ne_eqb m.word.kind 0 b in
      record { feedable = f.feedable; moved = then_closed.moved ∙ sym (ap (λ t. cond t m (close_line (end_word m))) k) }

-- a line ends the proof, or nothing does
last_decides : (m : Session) → m.over ≡ false → (end_line m).over ≡ true → end_line m ≡ finish m
unfolding finish
last_decides m e o = sym (ap (λ b. cond b m (decided (end_line m))) e ∙ ap (λ b. cond b (end_line m) (unproved (end_line m))) o)

nothing_decides : (m : Session) → m.over ≡ false → (end_line m).over ≡ false → unproved (end_line m) ≡ finish m
unfolding finish
nothing_decides m e o = sym (ap (λ b. cond b m (decided (end_line m))) e ∙ ap (λ b. cond b (end_line m) (unproved (end_line m))) o)

module _ (m : Session) (e : m.over ≡ false) {q : Fed} {rows : List Row} {pool : List ℤ} {stack : List ℕ} {lits : List ℤ} {plus minus : List ℕ}
    (f : Feeds (end_line m) q rows pool stack lits plus minus) where
  over_so : {b : Bool} → q.reader.over ≡ b → (end_line m).over ≡ b
  over_so o = ap (λ (x : Session). x.over) (sym f.moved) ∙ o

  pub ends_so : q.reader.over ≡ true → Feeds (finish m) q rows pool stack lits plus minus
  ends_so o = record { feedable = f.feedable; moved = f.moved ∙ last_decides m e (over_so o) }

  pub ends_unproved : q.reader.over ≡ false →
      Feeds (finish m) (fed (empty_table q.table.vars q.table.entries) (refused_at_end q.reader)) rows pool stack lits plus minus
  ends_unproved o = record {
    feedable = record { fit = emptied_fit f.feedable.fit rows pool refl refl; keeps = f.feedable.keeps; noted = f.feedable.noted };
    moved = moved_so ∙ nothing_decides m e (over_so o);
  }
    where
      moved_so : session_of (refused_at_end q.reader) lits plus minus (spelled (empty_table q.table.vars q.table.entries) rows pool stack)
          ≡ unproved (end_line m)
      moved_so =
          ap (session_of (refused_at_end q.reader) lits plus minus) (emptied_spelled f.feedable.fit rows pool refl) ∙ ap unproved f.moved

-- ---- a part

-- before the byte at i: what is left of the run comes to the whole
pub record Feeding (whole : Session) (part : List ℕ) (i : ℕ) (t : Table) (rows : List Row) (pool : List ℤ) (stack : List ℕ) (r : ProofReader) (lits : List ℤ)
    (plus minus : List ℕ) : Type 0 where
  pub within : i ≤ length part
  pub feedable : Feedable t rows pool stack r lits
  pub left : run (session_of r lits plus minus (spelled t rows pool stack)) (drop i part) ≡ whole

module _ {whole : Session} {part : List ℕ} {i : ℕ} {t : Table} {rows : List Row} {pool : List ℤ} {stack : List ℕ} {r : ProofReader} {lits : List ℤ}
    {plus minus : List ℕ} (f : Feeding whole part i t rows pool stack r lits plus minus) where
  abbrev now_is : Session
  now_is = session_of r lits plus minus (spelled t rows pool stack)

  -- no byte is left
  pub fed_all : length part ≤ i → Feeds whole (fed t r) rows pool stack lits plus minus
  fed_all h = record { feedable = f.feedable; moved = sym (run_end part i now_is h) ∙ f.left }

  -- the answer is known
  pub fed_enough : r.over ≡ true → Feeds whole (fed t r) rows pool stack lits plus minus
  fed_enough e = record { feedable = f.feedable; moved = sym (over_stays (drop i part) now_is e) ∙ f.left }

  module _ (go : r.over ≡ false) {q : WordTaken} (k : TookWord part i r.word q) where
    -- past the bytes of a word
    pub past_word : Feeding whole part q.from t rows pool stack (worded q.word r) lits plus minus
    past_word = record {
      within = k.pushed.high;
      feedable = record { fit = f.feedable.fit; keeps = f.feedable.keeps; noted = f.feedable.noted };
      left = sym (run_pushed now_is go k.pushed) ∙ f.left;
    }

-- past the blank behind a word, where the machine does what it does there
pub past_byte : {whole : Session} {part : List ℕ} {i : ℕ} {t : Table} {rows : List Row} {pool : List ℤ} {stack : List ℕ} {r : ProofReader} {lits : List ℤ}
    {plus minus : List ℕ} → Feeding whole part i t rows pool stack r lits plus minus → i < length part →
    {n : Session} → move (session_of r lits plus minus (spelled t rows pool stack)) (get_or part i 0) ≡ n →
    {q : Fed} {rows' : List Row} {pool' : List ℤ} {lits' : List ℤ} {plus' minus' : List ℕ} → Feeds n q rows' pool' stack lits' plus' minus' →
    Feeding whole part (i + 1) q.table rows' pool' stack q.reader lits' plus' minus'
past_byte {whole} {part} {i} f h e g = record {
  within = omega arith;
  feedable = g.feedable;
  left = ap (λ x. run x (drop (i + 1) part)) (g.moved ∙ sym e) ∙ sym (run_next part i _ h) ∙ f.left;
}
