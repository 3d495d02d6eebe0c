-- Both texts: from the state that holds the text's clauses on, the machine's run over the proof is the definition's answer for the two.
use mathlib.Core.Path.{◌≡◌, sym, ap, ◌∙◌}
use mathlib.Core.Bool.{true}
use mathlib.Core.List.{List, [], ◌∷◌}
use Prim.Native.Nat.{ℕ, ◌+◌, ◌≤◌}
use native.Mathlib.Omega.{arith}
use lib.Dec.{eqb}
use lib.IntN.{ℤ}
use Rattle.rules.specs.Terms.{State}
use Rattle.rules.specs.Frames.{ADD, next}
use Rattle.rules.specs.Answers.{lent, opened}
use Rattle.rules.proofs.Lists.{by_cases}
use Rattle.dimacs.specs.Reading.{sound, Cnf, read_text}
use Rattle.dimacs.proofs.Bodies.{text_body}
use Rattle.lrat.specs.Checking.{ask_room, filled, fill, opened_for, lrat}
use Rattle.lrat.specs.Machine.{emptied, started, run, finish, told}
use Rattle.lrat.proofs.Runs.{run_is_the_proof, finish_empties}

-- a text's clauses leave the tables as large, and V
pub filled_size : (cs : List (List ℤ)) (s : State) (i : ℕ) {s' : State} → fill s i cs ≡ filled s' → emptied s' ≡ emptied s
unfolding fill
filled_size [] s i {s'} e = let q : s ≡ s' = cc in ap emptied (sym q)
filled_size (c ∷ cs) s i e = by_cases (eqb (ask_room s c 0) 0)
    (λ t. filled_size cs (next s (ADD i c)) (i + 1) (rw t at e))
    (λ f. let q = rw f at e in let z : ◌≡◌ {A = ℕ} 0 1 = cc in absurd (omega (arith, z)))

module _ (entries words : ℕ) (cnf proof : List ℕ) {x : Cnf} {s : State} (read : read_text cnf ≡ sound x)
    (held : fill (opened_for entries words x) 1 x.clauses ≡ filled s) where
  size : emptied s ≡ opened x.vars entries words
  size = filled_size x.clauses (opened_for entries words x) 1 held

  pub small : s.vars ≤ 2048
  small = let e = ap (λ y. y.vars) size in omega (arith, e, (text_body cnf read).high)

  pub run_is_lrat : lent entries words ≡ true → told (finish (run (started s) proof)) ≡ lrat entries words cnf proof
  run_is_lrat t = run_is_the_proof s small proof ∙ rw (t, read, held)

  -- "opened empty and left so whatever the outcome"
  pub left_empty : (finish (run (started s) proof)).state ≡ opened x.vars entries words
  left_empty = finish_empties s small proof ∙ size
