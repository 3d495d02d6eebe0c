-- From what the machine holds of the bytes that were read to what is told of them.
use mathlib.Core.Path.{◌≡◌, refl, sym, ap, subst₂, ◌∙◌}
use mathlib.Core.Bool.{Bool, true, false, cond}
use mathlib.Core.List.{List, [], ◌++◌}
use Prim.Native.Nat.{ℕ, ◌≤◌}
use native.Mathlib.Omega.{arith}
use lib.Dec.{eqb}
use lib.IntN.{ℤ}
use lib.ListN.{length, replicate, length-replicate}
use borrow.Author.Tests.{ne_eqb}
use Rattle.std.specs.declared.io.Error.{Error}
use Rattle.rules.specs.Terms.{State, in_range}
use Rattle.rules.proofs.Lists.{by_cases, true-false, all_nil}
use Rattle.lit_sets.proofs.Sets.{zeros_empty}
use Rattle.table.specs.Spelled.{Row, Fit, spelled}
use Rattle.table.specs.declared.Table.{Table}
use Rattle.lrat.specs.Checking.{check_proof}
use Rattle.lrat.specs.Machine.{Session, started, run, finish, told}
use Rattle.lrat.specs.declared.ProofReader.{ProofReader}
use Rattle.lrat.proofs.Fed.{run_on}
use Rattle.lrat.proofs.Runs.{over_stays, run_is_the_proof, finish_over}
use Rattle.lrat_feed.specs.Feeding.{start_reader, session_of, Feedable, Feeds}
use Rattle.lrat_feed.specs.declared.Fed.{Fed}
use Rattle.lrat_feed.proofs.Sessions.{over_already}
use Rattle.lrat_serve.specs.Serving.{Tells, onward, concluded}

-- ---- a part

module _ (m : Session) (part : List ℕ) {q : Fed} {rows : List Row} {pool : List ℤ} {stack : List ℕ} {lits : List ℤ} {plus minus : List ℕ} where
  pub feeds_end : length part ≡ 0 → Feeds (finish m) q rows pool stack lits plus minus → Feeds (onward m part) q rows pool stack lits plus minus
  feeds_end e f = let t : eqb (length part) 0 ≡ true = rw e refl in rw t f

  pub feeds_part : (length part ≡ 0 → ⊥) → Feeds (run m part) q rows pool stack lits plus minus → Feeds (onward m part) q rows pool stack lits plus minus
  feeds_part b f = rw (ne_eqb (length part) 0 b) f

-- ---- a turn of the loop

-- of the proof against s these bytes were fed, and the end was met or not
pub record Read (s : State) (ended : Bool) (t : Table) (rows : List Row) (pool : List ℤ) (stack : List ℕ) (r : ProofReader) (lits : List ℤ)
    (plus minus : List ℕ) : Type 0 where
  pub bytes : List ℕ
  pub feedable : Feedable t rows pool stack r lits
  pub ran : session_of r lits plus minus (spelled t rows pool stack) ≡ cond ended (finish (run (started s) bytes)) (run (started s) bytes)

pub none_read : {t : Table} {rows : List Row} {pool : List ℤ} {stack : List ℕ} {r : ProofReader} {plus minus : List ℕ} → Fit t rows pool stack →
    r ≡ start_reader → (plus ≡ replicate 32 0) × (minus ≡ replicate 32 0) →
    Read (spelled t rows pool stack) false t rows pool stack r (replicate 256 (ℤ.pos 0)) plus minus
unfolding run
none_read fit e z = rw (e, z.0, z.1) (record {
  bytes = [];
  feedable = record {
    fit = fit;
    keeps = record { long = length-replicate {A = ℤ} 256 (ℤ.pos 0); few = omega arith; ranged = all_nil (in_range 2048) };
    noted = omega arith;
  };
  ran = rw zeros_empty refl;
})

module _ {s : State} (small : s.vars ≤ 2048) {t : Table} {rows : List Row} {pool : List ℤ} {stack : List ℕ} {r : ProofReader} {lits : List ℤ}
    {plus minus : List ℕ} (before : Read s false t rows pool stack r lits plus minus)
    (part : List ℕ) {q : Fed} {rows' : List Row} {pool' : List ℤ} {lits' : List ℤ} {plus' minus' : List ℕ}
    (fed : Feeds (onward (session_of r lits plus minus (spelled t rows pool stack)) part) q rows' pool' stack lits' plus' minus') where
  -- a part more, or the end
  pub read_on : Read s (eqb (length part) 0) q.table rows' pool' stack q.reader lits' plus' minus'
  read_on = by_cases (eqb (length part) 0)
      (λ e. rw e (record { bytes = before.bytes; feedable = fed.feedable; ran = rw e at fed.moved ∙ ap finish before.ran }))
      (λ e. rw e (record {
        bytes = before.bytes ++ part;
        feedable = fed.feedable;
        ran = rw e at fed.moved ∙ ap (λ m. run m part) before.ran ∙ sym (run_on (started s) before.bytes part);
      }))

  -- behind the end the answer is known
  pub goes_on : q.reader.over ≡ false → eqb (length part) 0 ≡ false
  goes_on o = by_cases (eqb (length part) 0)
      (λ e. let ran = rw e at fed.moved ∙ ap finish before.ran in
      true-false (finish_over s small before.bytes) (sym (ap (λ (m : Session). m.over) ran) ∙ o))
      (λ e. e)

  pub read_more : q.reader.over ≡ false → Read s false q.table rows' pool' stack q.reader lits' plus' minus'
  read_more o = rw (goes_on o) at read_on

-- ---- what is told

module _ {s : State} (small : s.vars ≤ 2048) {ended : Bool} {t : Table} {rows : List Row} {pool : List ℤ} {stack : List ℕ} {r : ProofReader} {lits : List ℤ}
    {plus minus : List ℕ} (read : Read s ended t rows pool stack r lits plus minus) where
  abbrev here : Session
  here = session_of r lits plus minus (spelled t rows pool stack)

  told_ended : ended ≡ true → told here ≡ check_proof s read.bytes
  told_ended e = ap told (rw e at read.ran) ∙ run_is_the_proof s small read.bytes

  -- bytes behind a known answer change nothing
  told_known : ended ≡ false → r.over ≡ true → (more : List ℕ) → told here ≡ check_proof s (read.bytes ++ more)
  told_known e o more =
      let over = (over_already r plus minus read.feedable o).moved in
      let ran = rw e at read.ran in
      ap told (over ∙ ap finish (sym (over_stays more here o) ∙ ap (λ m. run m more) ran ∙ sym (run_on (started s) read.bytes more)))
      ∙ run_is_the_proof s small (read.bytes ++ more)

  pub tells : (reason : Error) → Tells s read.bytes (concluded ended r reason)
  tells reason = by_cases r.over
      (λ o. by_cases ended (λ e. rw (o, e) (told_ended e)) (λ e. rw (o, e) (told_known e o)))
      (λ o. rw o tt)

-- as it is told in the end: there are such bytes
pub told_so : {s : State} → s.vars ≤ 2048 → {ended : Bool} {t : Table} {rows : List Row} {pool : List ℤ} {stack : List ℕ} {r : ProofReader} {lits : List ℤ}
    {plus minus : List ℕ} → Read s ended t rows pool stack r lits plus minus → {b : Bool} {q : ProofReader} (reason : Error) → q ≡ r →
    b ≡ ended → (bs : List ℕ) × Tells s bs (concluded b q reason)
told_so {s} small read reason e f = (read.bytes, subst₂ (λ x y. Tells s read.bytes (concluded x y reason)) (sym f) (sym e) (tells small read reason))
