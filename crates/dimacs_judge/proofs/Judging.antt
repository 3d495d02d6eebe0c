-- The whole text: its problem line, and the clauses behind it.
use mathlib.Core.Path.{◌≡◌, sym, ap, ◌∙◌}
use mathlib.Core.Bool.{true, false}
use mathlib.Core.List.{List}
use Prim.Native.Nat.{ℕ, ◌<◌}
use native.Mathlib.Omega.{arith}
use Rattle.std.specs.Prelude.{Ok, Err}
use lib.Dec.{eqb}
use lib.ListN.{length}
use borrow.Author.Tests.{eq-eqb, ne_eqb}
use Rattle.text.specs.Words.{TextWord}
use Rattle.dimacs.specs.Reading.{Read, faulty, sound, expect, Cnf, counted, judged_text}
use Rattle.dimacs.specs.declared.TextFault.TheVariants.{WrongClauseCount}
use Rattle.dimacs.specs.declared.TextCounts.{TextCounts}
use Rattle.dimacs_problem.specs.Told.{LineRead}
use Rattle.dimacs_judge.specs.Told.{AllTold}
use Rattle.dimacs_judge.specs.declared.Scanned.TheVariants.{Ended}

abbrev counts : ℕ → ℕ → TextCounts
counts vars n = record { vars = vars; clauses = n }

module _ (text : List ℕ) (rest : List TextWord) (read : Read Cnf) (vars count end : ℕ) (p : LineRead text rest read vars count end) where
  -- so many clauses; no text is longer than memory, so the count is told whole
  module _ (n : ℕ) (b : AllTold text end vars (Ok (Ended n))) (short : length text < 9223372036854775808) where
    read_counted : read ≡ expect (eqb (length b.0) p.number) (WrongClauseCount (length text)) (sound (record { vars = vars; clauses = b.0 }))
    read_counted = p.read_on ∙ ap (counted vars p.number (length text)) b.1

    pub judged_sound : n ≡ count → Ok (counts vars n) ≡ judged_text read
    unfolding expect
    judged_sound e =
        let same : eqb (length b.0) p.number ≡ true = eq-eqb (length b.0) p.number (omega (arith, b.2, b.3, p.told)) in
        let whole : read ≡ sound (record { vars = vars; clauses = b.0 }) = read_counted ∙ rw same in
        ap (λ (k : ℕ). Ok (counts vars k)) b.2 ∙ sym (ap judged_text whole)

    pub judged_miscounted : (n ≡ count → ⊥) → Err (WrongClauseCount (length text)) ≡ judged_text read
    unfolding expect
    judged_miscounted e =
        let other : eqb (length b.0) p.number ≡ false = ne_eqb (length b.0) p.number (λ q. e (omega (arith, b.2, b.3, p.told))) in
        let wrong : read ≡ faulty (WrongClauseCount (length text)) = read_counted ∙ rw other in
        sym (ap judged_text wrong)
