-- A text that was judged, and the empty table that is opened for it.
use mathlib.Core.Path.{◌≡◌, refl, ap, ◌∙◌}
use mathlib.Core.List.{List}
use Prim.Native.Nat.{ℕ}
use native.Mathlib.Omega.{arith}
use lib.IntN.{ℤ}
use lib.ListN.{length}
use Rattle.rules.specs.Answers.{opened}
use Rattle.table.specs.Spelled.{Row}
use Rattle.table.proofs.Empty.{empty, empty_fit, empty_spelled}
use Rattle.dimacs.specs.Reading.{Read, faulty, sound, Cnf, read_text, judged_text}
use Rattle.dimacs.specs.declared.TextFault.{TextFault}
use Rattle.dimacs.specs.declared.TextCounts.{TextCounts}
use Rattle.std.specs.Prelude.{Ok, Err}
use Rattle.dimacs.proofs.Bodies.{text_body}
use Rattle.lrat_fill.specs.Filling.{Lends, FillAsked, Fills}
use Rattle.lrat_fill.specs.declared.Unfilled.TheVariants.{Faulty}

pub faulty_fills : (entries : ℕ) (rows : List Row) (pool : List ℤ) (stack : List ℕ) {f : TextFault} (r : Read Cnf) → Err f ≡ judged_text r
    → Fills entries r (Err (Faulty f)) rows pool pool stack
faulty_fills entries rows pool stack {f} (faulty g) e = let same : f ≡ g = cc in (ap (λ x. Err (Faulty x)) same, refl)
faulty_fills entries rows pool stack (sound x) e = let z : ◌≡◌ {A = ℕ} 0 1 = cc in absurd (omega arith)

sound_told : {n : TextCounts} (r : Read Cnf) → Ok n ≡ judged_text r → (x : Cnf) × (r ≡ sound x) × (n.vars ≡ x.vars)
sound_told (faulty f) e = let z : ◌≡◌ {A = ℕ} 0 1 = cc in absurd (omega arith)
sound_told {n} (sound x) e = let same : n.vars ≡ x.vars = cc in (x, refl, same)

pub sound_asked : (text : List ℕ) {entries : ℕ} {n : TextCounts} {rows : List Row} {pool : List ℤ} {stack : List ℕ} → Lends entries rows pool stack
    → Ok n ≡ judged_text (read_text text) → FillAsked text (empty n.vars entries) rows pool stack
sound_asked text {entries} {n} {rows} {pool} {stack} h e =
    let (x, reads, same) = sound_told (read_text text) e in
    let b = text_body text reads in
    record {
      cnf = x;
      reads = reads;
      fit = empty_fit n.vars entries rows pool stack (omega (arith, same, b.low)) (omega (arith, same, b.high)) h.entries_most h.rows_least h.rows_most
          h.pool_most h.stack_least;
      opens = empty_spelled n.vars entries rows pool stack ∙ ap (λ (v : ℕ). opened v entries (length pool)) same;
    }
