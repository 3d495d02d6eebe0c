-- Each return cites the tests before it.
use mathlib.Core.Path.{sym, ◌∙◌, ap}
use mathlib.Core.Bool.{not}
use Rattle.weaken_groups.proofs.Due.{not_irredundant, itself, unopposed, by_shared}
use Rattle.weaken_groups.proofs.needs_group.Goals as goal

pub returns-then-place_at-ne0 : goal.returns-then-place_at-ne0
returns-then-place_at-ne0 c = not_irredundant _ _ _ _ (λ q. c.if-place_at-ne0.true (c.place_at.ensures ∙ q))

pub returns-then-id_at-id : goal.returns-then-id_at-id
returns-then-id_at-id c = itself _ _ _ _ (sym c.place_at.ensures ∙ c.if-place_at-ne0.false) (sym c.id_at.ensures ∙ c.if-id_at-id.true)

pub returns-then-not-opposed : goal.returns-then-not-opposed
returns-then-not-opposed c =
    unopposed _ _ _ _ (sym c.place_at.ensures ∙ c.if-place_at-ne0.false) (λ q. c.if-id_at-id.false (c.id_at.ensures ∙ q)) _ c.clause_of-lits.ensures
    (sym c.opposed.ensures ∙ c.if-not-opposed.true)

pub returns : goal.returns
returns c =
    ap not c.shares.ensures
    ∙ by_shared _ _ _ _ (sym c.place_at.ensures ∙ c.if-place_at-ne0.false) (λ q. c.if-id_at-id.false (c.id_at.ensures ∙ q)) _ c.clause_of-lits.ensures
    (sym c.opposed.ensures ∙ c.if-not-opposed.false)
