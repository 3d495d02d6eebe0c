-- An accepted SAT hands out no true variable past V: so the true variables of all 32 words are those up to V.
use mathlib.Core.Path.{◌≡◌, sym, ap, ◌∙◌}
use mathlib.Core.List.{List, []}
use Prim.Native.Nat.{ℕ, ◌+◌, ◌-◌}
use native.Mathlib.Omega.{arith}
use lib.IntN.{ℤ}
use Rattle.rules.specs.Terms.{Assignment}
use Rattle.rules.specs.Frames.{SAT, offered, mend}
use Rattle.rules.specs.Answers.{check}
use Rattle.rules.specs.Outcomes.{trues}
use Rattle.std.specs.Prelude.{Ok, Err}
use Rattle.rules.proofs.Past.{past_none, handed_none}
use Rattle.table.specs.Spelled.{Row, spelled, Fit}
use Rattle.table.specs.declared.Table.{Table}
use Rattle.table.proofs.Obeys.{spelled_terms}
use Rattle.line_reply.proofs.Model.{trues_past}

-- the true variables of an accepted model, of all 2,048 and of the first V
pub trues_within : {t : Table} {rows : List Row} {pool : List ℤ} {stack : List ℕ} → Fit t rows pool stack → (assumed vs : List ℤ) →
    check (spelled t rows pool stack) (SAT assumed vs) ≡ Ok tt →
    let β = mend (offered vs) (spelled t rows pool stack).stack in trues β 2048 [] ≡ trues β t.vars []
trues_within {t} {rows} {pool} {stack} fit assumed vs e =
    let s = spelled t rows pool stack in
    let β : Assignment = mend (offered vs) s.stack in
    let all_words : t.vars + (2048 - t.vars) ≡ 2048 = omega (arith, fit.vars_fit.1) in
    ap (λ n. trues β n []) (sym all_words) ∙ trues_past β t.vars (2048 - t.vars)
    (λ v h m. handed_none s (spelled_terms fit).stack assumed vs e v (past_none t.vars v h))
