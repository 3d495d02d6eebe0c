-- From what loading, feeding and squeezing the working table promise to what a part does to the rows taken in.
use mathlib.Core.Path.{◌≡◌, refl, sym, ap, subst, ◌∙◌}
use mathlib.Core.Bool.{Bool, true, false, not, cond}
use mathlib.Core.List.{List}
use mathlib.Core.Option.{some-injective, none-ne-some, some-ne-none}
use Prim.Native.Nat.{ℕ}
use native.Mathlib.Omega.{arith}
use lib.Dec.{leb}
use lib.IntN.{ℤ}
use lib.ListN.{length, take}
use borrow.Author.Tests.{leb-true, le-leb}
use Rattle.rules.specs.Lists.{all_pass}
use Rattle.rules.specs.Terms.{State, in_range}
use Rattle.rules.proofs.Lists.{and_left, and_right, and_both, true-false}
use Rattle.table.specs.Spelled as working
use Rattle.table.specs.Spelled.{Row}
use Rattle.table.specs.declared.Table.{Table}
use Rattle.table_room.specs.Room.{Squeezed}
use Rattle.lent.specs.State.{is_state, state_of}
use Rattle.lent.specs.Stored.{carried_of, PutsBack}
use Rattle.lent.specs.declared.Carried.{Carried}
use Rattle.lent.proofs.Stored.{stored_back, nothing_back}
use Rattle.lent_load.specs.Loads.{Loads}
use Rattle.std.specs.Prelude.{Some}
use Rattle.lrat.specs.Checking.{answer}
use Rattle.lrat.specs.Machine.{Session, run, decided, end_line, finish}
use Rattle.lrat.specs.declared.ProofReader.{ProofReader}
use Rattle.lrat.proofs.Runs.{over_stays}
use Rattle.lrat_feed.specs.Feeding.{session_of, Feedable, Feeds}
use Rattle.lrat_feed.specs.declared.Fed.{Fed}
use Rattle.call_lrat_parts.specs.Parts.{is_reading, session, ended}
use Rattle.call_lrat_parts.specs.Running.{proof_left, proof_stored, reader_told, reader_answer, ReadOn, RanFrom, RanOn, give_sized, GiveRun}
use Rattle.call_lrat_parts.specs.declared.ProofReading.{ProofReading}
use Rattle.lent_entries.specs.declared.Ran.{Ran}
use Rattle.call_lrat_parts.specs.declared.LratGiven.{LratGiven}
use Rattle.call_lrat_parts.proofs.Sizes.{ended_size}

-- ---- the working table

abbrev pub reading_of : ProofReader → List ℤ → List ℕ → List ℕ → ProofReading
reading_of r lits plus minus = record { reader = r; lits = lits; falses = record { plus = plus; minus = minus } }

-- what feeds the working table is a proof being read
reading_so : {t : Table} {rows : List Row} {pool : List ℤ} {stack : List ℕ} (r : ProofReader) {lits : List ℤ} (plus minus : List ℕ) →
    Feedable t rows pool stack r lits → is_reading (reading_of r lits plus minus) ≡ true
reading_so r plus minus f = and_both (le-leb r.line.count 256 f.keeps.few) (and_both f.keeps.ranged (le-leb 31 r.line.noted f.noted))

-- and such a reading feeds it
pub read_asks : {t : Table} {rows : List Row} {pool : List ℤ} {stack : List ℕ} (r : ProofReading) → working.Fit t rows pool stack → is_reading r ≡ true →
    length r.lits ≡ 256 → Feedable t rows pool stack r.reader r.lits
read_asks r f e long =
    let l = r.reader.line in
    let few = and_left (leb l.count 256) _ e in
    let rest = and_right (leb l.count 256) _ e in
    let kept = all_pass (in_range 2048) (take l.count r.lits) in
    record {
      fit = f;
      keeps = record { long = long; few = leb-true l.count 256 few; ranged = and_left kept _ rest };
      noted = leb-true 31 l.noted (and_right kept _ rest);
    }

-- what goes back of it, whatever was lent before
pub goes_back : {t : Table} {rows : List Row} {pool : List ℤ} {stack : List ℕ} → working.Fit t rows pool stack → t.gone ≡ 0 →
    {n : ℕ} {s : State} → t.entries ≡ n → working.spelled t rows pool stack ≡ s →
    PutsBack true n (carried_of t stack) pool s t.count (carried_of t stack) rows pool s
goes_back f stay sized spells = stored_back f stay refl sized spells

-- a part, and the end of the proof behind it where it is the last
module _ (m : Session) (part : List ℕ) (last : Bool) where
  pub part_fed : last ≡ false → {f : Fed} {rows : List Row} {pool : List ℤ} {stack : List ℕ} {lits : List ℤ} {plus minus : List ℕ} →
      Feeds (run m part) f rows pool stack lits plus minus → Feeds (ended last (run m part)) f rows pool stack lits plus minus
  part_fed e {f} {rows} {pool} {stack} {lits} {plus} {minus} d =
      subst (λ b. Feeds (ended b (run m part)) f rows pool stack lits plus minus) (sym e) d

  pub part_ends : last ≡ true → {n : Session} → n ≡ run m part → {f : Fed} {rows : List Row} {pool : List ℤ} {stack : List ℕ} {lits : List ℤ}
      {plus minus : List ℕ} → Feeds (finish n) f rows pool stack lits plus minus → Feeds (ended last (run m part)) f rows pool stack lits plus minus
  part_ends e n {f} {rows} {pool} {stack} {lits} {plus} {minus} d =
      subst (λ b. Feeds (ended b (run m part)) f rows pool stack lits plus minus) (sym e)
      (record { feedable = d.feedable; moved = d.moved ∙ ap finish n })

pub read_further : (t : Table) (rows : List Row) (pool : List ℤ) (stack : List ℕ) (r : ProofReading) (part : List ℕ) (last : Bool) (f : Fed)
    {rows₁ : List Row} {pool₁ : List ℤ} (lits₁ : List ℤ) (plus₁ minus₁ : List ℕ) →
    Feeds (ended last (run (session r (working.spelled t rows pool stack)) part)) f rows₁ pool₁ stack lits₁ plus₁ minus₁ →
    {u : Table} {rows₂ : List Row} → Squeezed f.table rows₁ pool₁ stack u rows₂ →
    ReadOn t.entries (working.spelled t rows pool stack) r part last
    (proof_stored (reader_answer f.reader) u stack (reading_of f.reader lits₁ plus₁ minus₁)) rows₂ pool₁
read_further t rows pool stack r part last f {rows₁} {pool₁} lits₁ plus₁ minus₁ fed {u} {rows₂} q =
    let before = working.spelled t rows pool stack in
    let sized : u.entries ≡ t.entries = ap (λ (x : State). x.entries) q.same
    ∙ ap (λ (x : Session). x.state.entries) fed.moved
    ∙ ap (λ (x : State). x.entries) (ended_size last (session r before) part) in
    let back = goes_back q.fit q.none_gone sized q.same in
    record {
      after = session_of f.reader lits₁ plus₁ minus₁ (working.spelled f.table rows₁ pool₁ stack);
      fed = fed.moved;
      answered = refl;
      reading_is = reading_so f.reader plus₁ minus₁ fed.feedable;
      reads = refl;
      bounded = back.bounded;
      stores = back.stores refl;
    }

-- ---- the rows taken in

-- nothing is read once the answer is known
pub over_ended : (last : Bool) (m : Session) (part : List ℕ) → m.over ≡ true → m ≡ ended last (run m part)
unfolding finish
over_ended true m part o = sym (ap finish (over_stays part m o) ∙ ap (λ b. cond b m (decided (end_line m))) o)
over_ended false m part o = sym (over_stays part m o)

module _ (n : ℕ) (rows : List Row) (pool : List ℤ) (c : Carried) (r : ProofReading) (part : List ℕ) (last : Bool) where
  abbrev own : List Row
  own = take n rows

  pub unloaded : is_state c own pool ≡ false → {rows' : List Row} → RanOn n rows pool c r part last (proof_left (answer 1 0) c r) rows' pool
  unloaded f = record {
    bounded = (omega arith, omega arith);
    ran = λ s d. absurd (none-ne-some s (rw f at d));
    left = λ d. (refl, refl);
  }

  -- a state, loaded
  module _ {t : Table} {rows₁ : List Row} (loaded : Loads c own pool (Some t) rows₁) where
    abbrev before : State
    before = working.spelled t rows₁ pool c.stack

    ran_from : (q : Ran LratGiven) {rows' : List Row} {pool' : List ℤ} → RanFrom before n pool c r part last q rows' pool' →
        RanOn n rows pool c r part last q rows' pool'
    ran_from q {rows'} {pool'} f = let is = loaded.0 in record {
      bounded = f.back.bounded;
      ran = λ s d. subst (λ x. RanFrom x n pool c r part last q rows' pool') (loaded.2 ∙ some-injective _ s (rw is at d)) f;
      left = λ d. absurd (some-ne-none _ (rw is at d));
    }

    -- the answer is known, and told again
    pub ran_again : r.reader.over ≡ true → is_reading r ≡ true → {rows' : List Row} →
        RanOn n rows pool c r part last (proof_left (reader_told r.reader) c r) rows' pool
    ran_again o i = ran_from _ record {
      after = session r before;
      fed = over_ended last (session r before) part o;
      answered = rw o refl;
      reading_is = i;
      reads = refl;
      back = nothing_back (ap not o) refl refl;
      again = λ _. refl;
    }

    pub ran_further : r.reader.over ≡ false → length own ≡ n → (q : Ran LratGiven) {rows' : List Row} {pool' : List ℤ} →
        ReadOn t.entries before r part last q rows' pool' → RanOn n rows pool c r part last q rows' pool'
    unfolding state_of
    ran_further o l q {rows'} {pool'} d =
        let sized : t.entries ≡ n = ap (λ (x : State). x.entries) loaded.2 ∙ l in
        let e : ReadOn n before r part last q rows' pool' = subst (λ k. ReadOn k before r part last q rows' pool') sized d in
        ran_from q record {
          after = e.after;
          fed = e.fed;
          answered = e.answered;
          reading_is = e.reading_is;
          reads = e.reads;
          back = record { bounded = e.bounded; stores = λ _. e.stores; leaves = λ u. true-false (ap not o) u };
          again = λ t. true-false t o;
        }

-- ---- the sizes, and what is read

module _ (n : ℕ) (rows : List Row) (pool : List ℤ) (c : Carried) (r : ProofReading) (part : List ℕ) (last : Bool) where
  pub give_refused : give_sized n pool r ≡ false → {rows' : List Row} → GiveRun n rows pool c r part last (proof_left (answer 1 0) c r) rows' pool
  give_refused f = record { bounded = (omega arith, omega arith); judged_so = λ t. true-false t f; refused = λ g. (refl, refl) }

  pub give_judged : give_sized n pool r ≡ true → {q : Ran LratGiven} {rows' : List Row} {pool' : List ℤ} → length rows' ≡ 1280 →
      RanOn n rows pool c r part last q rows' pool' → GiveRun n rows pool c r part last q rows' pool'
  give_judged t l s = record { bounded = (s.bounded.0, omega (arith, s.bounded.1)); judged_so = λ g. s; refused = λ f. true-false t f }
