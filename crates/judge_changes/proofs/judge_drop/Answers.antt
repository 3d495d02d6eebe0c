-- Each return cites the checks before it.
use mathlib.Core.Path.{sym, ◌∙◌, ap, ap₂}
use borrow.Author.Rules.{rules}
use Rattle.std.specs.Prelude.{Err}
use Rattle.rules.specs.Propagation.{proves}
use Rattle.rules.specs.Answers.{decided, check}
use Rattle.table.proofs.Readers.{readable}
use Rattle.judge_propagate.proofs.Scopes.{allows_others}
use Rattle.judge_checks.specs.Located.{RowOf}
use Rattle.judge_checks.proofs.Located.{reads_it, has_it, ranged, lits_are}
use Rattle.judge_checks.proofs.Order.{goes_on, stops, met, unmet, handed_on}
use Rattle.judge_checks.proofs.Verdicts.{stopped_within}
use Rattle.judge_changes.proofs.judge_drop.Goals as goal

pub returns-in_err-k : goal.returns-in_err-k
unfolding check
returns-in_err-k c =
    rw (handed_on _ _ c.from_residual.ensures.1)
    (stops (unmet (c.in_err-k.ensures.1 _) _ ∙ ap Err (sym c.in_err-k.ensures.0)) _)

pub clause_of-c-requires : goal.clause_of-c-requires
clause_of-c-requires c = reads_it c.requires.0 c.in_ok-k.ensures

pub proves-verdict-requires : goal.proves-verdict-requires
proves-verdict-requires c = (readable c.requires.0, ranged c.requires.0 c.in_ok-k.ensures c.clause_of-c.ensures)

pub decided-requires : goal.decided-requires
decided-requires c = (search rules, stopped_within _ _ _ _ c.requires.1 c.proves-verdict.ensures)

pub returns-in_err-decided : goal.returns-in_err-decided
unfolding check
returns-in_err-decided c =
    let row : RowOf c.args.t c.args.rows.now 0 c.args.id c.in_ok-k.k = c.in_ok-k.ensures in
    let f = c.requires.0 in
    rw (handed_on _ _ c.from_residual-in_err-decided.ensures.1)
    (goes_on (met (has_it f row) _) _
    ∙ sym (c.decided.ensures ∙ ap (decided 2 0) (c.proves-verdict.ensures
    ∙ ap₂ (λ A d. proves A d c.args.hints.now) (allows_others _ (search rules) (readable f))
    (lits_are f row c.clause_of-c.ensures)))
    ∙ c.in_err-decided.was)

pub returns : goal.returns
unfolding check
returns c =
    let row : RowOf c.args.t c.args.rows.now 0 c.args.id c.in_ok-k.k = c.in_ok-k.ensures in
    let f = c.requires.0 in (
      goes_on (met (has_it f row) _) _
          ∙ sym (c.decided.ensures ∙ ap (decided 2 0) (c.proves-verdict.ensures
          ∙ ap₂ (λ A d. proves A d c.args.hints.now) (allows_others _ (search rules) (readable f))
          (lits_are f row c.clause_of-c.ensures)))
          ∙ c.in_ok-decided.was,
      row,
    )
