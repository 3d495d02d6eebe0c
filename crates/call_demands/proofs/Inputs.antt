-- An input given in parts, whatever the parts, and ended: what is written for it is the program of that input.
use mathlib.Core.Path.{◌≡◌, refl, sym, ap, ◌∙◌}
use mathlib.Core.Bool.{true}
use mathlib.Core.List.{List, [], ◌++◌, append-nil}
use mathlib.Core.Option.{Option, none, some, some-injective}
use Prim.Native.Nat.{ℕ}
use native.Mathlib.Omega.{arith}
use lib.IntN.{ℤ}
use lib.ListN.{take}
use Rattle.rules.specs.Terms.{State}
use Rattle.rules.specs.Answers.{opened}
use Rattle.rules.specs.Results.{Answer}
use Rattle.std.specs.Prelude.{Ok, Err}
use Rattle.rules.proofs.Lists.{by_cases}
use Rattle.lent_entries.specs.Lent.{state_lent}
use Rattle.lent_entries.specs.declared.Entry.{Entry}
use Rattle.lent.specs.declared.Carried.{Carried}
use Rattle.line_read.specs.Lines.{program}
use Rattle.line_read.specs.Machine.{line_of, Session, session_of, started, session_after, end_reply}
use Rattle.line_read.specs.declared.Reader.{Reader}
use Rattle.line_read.proofs.Program.{run_append, run_program, behind, run_behind}
use Rattle.line_read.proofs.Reading.{fresh_read}
use Rattle.call_give.specs.Giving.{met, Giving, may_end, ended_to, Ending}
use Rattle.call_give.specs.declared.Given.{Given}
use Rattle.call_give.specs.declared.Ended.{Ended}
use Rattle.call_demands.specs.Inputs.{Parts, no_part, then_part}
use Rattle.call_demands.proofs.Reaching.{met_lent, opened_lent}

-- the machine's run over the bytes taken: its line is being read, its state is spelled, its replies were written
record At (vars n w : ℕ) (taken written : List ℕ) (entries : List Entry) (pool : List ℤ) (c : Carried) (r : Reader) (frame : List ℤ) : Type 0 where
  state : State
  spells : state_lent entries pool c ≡ some state
  ran : record { line = line_of r frame; state = state; out = written } ≡ session_after (started (opened vars n w)) taken

module _ {vars n w : ℕ} where
  -- one part more
  module _ {taken written : List ℕ} {entries : List Entry} {pool : List ℤ} {c : Carried} {r : Reader} {frame : List ℤ}
      (a : At vars n w taken written entries pool c r frame)
      (part out : List ℕ) (q : Given) (entries' : List Entry) (pool' : List ℤ) (frame' : List ℤ) (out' : List ℕ)
      (g : Giving entries pool c r frame part out q entries' pool' frame' out') where
    given : (s : State) → met entries pool c r frame out ≡ some s →
        At vars n w (taken ++ take q.taken part) (written ++ take q.written out') entries' pool' q.carried q.reader frame'
    given s e =
        let f = g.given s e in
        let bytes = take q.taken part in
        let same : s ≡ a.state = some-injective s _ (sym (met_lent entries pool c r frame out s e) ∙ a.spells) in
        let here : session_of r frame s out 0 ≡ record { line = line_of r frame; state = a.state; out = [] } = ap
        (λ x. record { line = line_of r frame; state = x; out = [] }) same in
        record {
          state = f.after;
          spells = met_lent entries' pool' q.carried q.reader frame' out' f.after f.spells;
          ran =
              ap (behind written) (f.fed.moved ∙ ap (λ x. session_after x bytes) here)
              ∙ sym (run_behind bytes written (record { line = line_of r frame; state = a.state; out = [] }))
              ∙ ap (λ x. session_after x bytes) (ap (λ o. record { line = line_of r frame; state = a.state; out = o }) (append-nil written) ∙ a.ran)
              ∙ sym (run_append (started (opened vars n w)) taken bytes);
        }

    refused : met entries pool c r frame out ≡ none →
        At vars n w (taken ++ take q.taken part) (written ++ take q.written out') entries' pool' q.carried q.reader frame'
    refused e =
        let l = g.left e in
        let x = l.0 in let y = l.1 in let z = l.2 in let f = l.3 in
        rw (x, y, z, f, append-nil taken, append-nil written) a

    part_more : At vars n w (taken ++ take q.taken part) (written ++ take q.written out') entries' pool' q.carried q.reader frame'
    part_more = by_met (met entries pool c r frame out) refl
      where
        by_met : (m : Option State) → met entries pool c r frame out ≡ m →
            At vars n w (taken ++ take q.taken part) (written ++ take q.written out') entries' pool' q.carried q.reader frame'
        by_met (some s) e = given s e
        by_met none e = refused e

  at_parts : {taken written : List ℕ} {entries : List Entry} {pool : List ℤ} {c : Carried} {r : Reader} {frame : List ℤ} →
      Parts vars n w taken written entries pool c r frame →
      At vars n w taken written entries pool c r frame
  unfolding session_after
  at_parts (no_part entries pool o l m opens e r z frame) =
      record {
        state = opened vars n w;
        spells = rw (← l, ← m) (opened_lent vars entries pool o opens e);
        ran = ap (λ x. record { line = x; state = opened vars n w; out = [] }) (fresh_read r frame z);
      }
  at_parts (then_part k part out q entries' pool' frame' out' g) = part_more (at_parts k) part out q entries' pool' frame' out' g

  -- the bytes taken in all parts, whatever they are, and the end of input: what is written for them is the program's output for the whole input
  pub parts_are_the_program : {taken written : List ℕ} {entries : List Entry} {pool : List ℤ} {c : Carried} {r : Reader} {frame : List ℤ} →
      Parts vars n w taken written entries pool c r frame →
      (out : List ℕ) (q : Ended) (out' : List ℕ) → Ending r out q out' → q.answer ≡ Ok 0 →
      written ++ take q.written out' ≡ program (opened vars n w) taken
  parts_are_the_program {taken} {written} {r = r} {frame = frame} k out q out' e accepted =
      let a = at_parts k in
      let line = ap (λ (x : Session). x.line) a.ran in
      let last : take q.written out' ≡ end_reply r.digits r.spoilt = (e.wrote may).bytes in
      ap (λ o. written ++ o) last ∙ ap (λ (x : Session). x.out ++ end_reply x.line.digits x.line.spoilt) a.ran ∙ run_program (opened vars n w) taken
    where
      may : may_end r out ≡ true
      may =
          by_cases (may_end r out) (λ t. t) (λ f. let d : ◌≡◌ {A = Answer} (ended_to (may_end r out)) (Ok 0) = sym e.answered ∙ accepted in
          let g = rw f at d in let z : ◌≡◌ {A = ℕ} 0 1 = cc in absurd (omega arith))
