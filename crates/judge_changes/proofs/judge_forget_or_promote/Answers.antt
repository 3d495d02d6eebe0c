-- What both ask is one check, so one judgment serves both.
use mathlib.Core.Path.{sym, ◌∙◌, ap}
use mathlib.Core.List.{List}
use Prim.Native.Nat.{ℕ}
use lib.IntN.{ℤ}
use Rattle.std.specs.Prelude.{Result, Ok, Err}
use Rattle.rules.specs.Frames.{FORGET, PROMOTE}
use Rattle.rules.specs.Answers.{check}
use Rattle.rules.specs.declared.Fault.{Fault}
use Rattle.table.specs.Spelled.{Row, Fit}
use Rattle.table.specs.declared.Table.{Table}
use Rattle.judge_checks.specs.Judged.{Judges}
use Rattle.judge_checks.specs.Located.{NamedIn}
use Rattle.judge_checks.proofs.Located.{has_it}
use Rattle.judge_checks.proofs.Order.{met, unmet}
use Rattle.judge_changes.proofs.judge_forget_or_promote.Goals as goal

both : {t : Table} {rows : List Row} {pool : List ℤ} {stack : List ℕ} → Fit t rows pool stack → (i : ℕ) (r : Result ℕ Fault) → NamedIn t rows 1 i r →
    Judges t rows pool stack (FORGET i) r × Judges t rows pool stack (PROMOTE i) r
unfolding check
both fit i (Ok k) row = let q = met (has_it fit row) _ in ((q, row), (q, row))
both fit i (Err e) h = let q = unmet (h.1 _) _ ∙ ap Err (sym h.0) in (q, q)

pub returns : goal.returns
returns c = both c.requires _ c.named.result c.named.ensures
