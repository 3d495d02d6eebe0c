use mathlib.Core.Path.{◌∙◌, subst}
use Prim.Native.Nat.{ℕ}
use Rattle.std.specs.Prelude.{Some}
use Rattle.table.specs.Spelled.{Located, held_rows}
use Rattle.table.proofs.Finding.{nowhere}
use Rattle.judge_checks.proofs.Located.{elsewhere}
use Rattle.judge_checks.proofs.locate.Goals as goal

pub returns-in_err-k : goal.returns-in_err-k
returns-in_err-k c =
    rw c.from_residual.ensures
    (λ pool. nowhere pool _ _ (subst (λ r. Located (held_rows c.args.t c.args.rows.now) c.args.id r) c.in_err-k.was c.find.ensures) _)

pub returns : goal.returns
returns c =
    let k : ℕ = c.in_ok-k.k in
    let located : Located (held_rows c.args.t c.args.rows.now) c.args.id (Some k) = subst (λ r. Located (held_rows c.args.t c.args.rows.now) c.args.id r) c.in_ok-k.was c.find.ensures in
    elsewhere c.args.t _ c.requires.0 _ _ located c.requires.1 _ (λ q. c.if-place_at-place.false (c.place_at.ensures ∙ q))
