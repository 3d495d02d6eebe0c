-- Each return cites the checks before it.
use mathlib.Core.Path.{sym, ◌∙◌, ap, ap₂, subst}
use Rattle.std.specs.Prelude.{Err}
use Rattle.rules.specs.Frames.{above}
use Rattle.rules.specs.Answers.{cleanly, check}
use Rattle.table_slices.specs.Writes.{Among}
use Rattle.table.specs.Spelled.{spelled}
use Rattle.table.proofs.Readers.{readable, row_stacked}
use Rattle.table.proofs.Stacked.{listed_has, listed_fetch}
use Rattle.judge_checks.specs.Located.{RowOf}
use Rattle.judge_checks.proofs.Located.{reads_it, has_it, ranged, lits_are}
use Rattle.judge_checks.proofs.Order.{goes_on, stops, met, unmet, handed_on}
use Rattle.judge_checks.proofs.Stack.{stacked_behind, above_is}
use Rattle.judge_changes.proofs.judge_restore.Goals as goal

pub returns-in_err-k : goal.returns-in_err-k
unfolding check
returns-in_err-k c =
    let absent = listed_has c.requires.core.listed _ ∙ c.in_err-k.ensures.1 _ in
    rw (handed_on _ _ c.from_residual.ensures.1)
    (stops (unmet absent _ ∙ ap Err (sym c.in_err-k.ensures.0)) _)

pub position-above-requires : goal.position-above-requires
position-above-requires c =
    let row : RowOf c.args.t c.args.rows.now 2 c.args.id c.in_ok-k.k = c.in_ok-k.ensures in
    let on_stack : Among c.args.stack.now c.args.t.depth c.args.id = subst (Among c.args.stack.now c.args.t.depth) row.named (row_stacked c.requires _ row.below row.placed) in
    (c.requires.stack_fit, on_stack)

pub clause_of-c-requires : goal.clause_of-c-requires
clause_of-c-requires c = reads_it c.requires c.in_ok-k.ensures

pub cleanly-requires : goal.cleanly-requires
cleanly-requires c =
    let p = c.position-above in
    let f = c.requires in
    (readable f, stacked_behind f p.result p.ensures.0, ranged f c.in_ok-k.ensures c.clause_of-c.ensures)

pub returns-in_err-cleanly : goal.returns-in_err-cleanly
unfolding check
returns-in_err-cleanly c =
    let row : RowOf c.args.t c.args.rows.now 2 c.args.id c.in_ok-k.k = c.in_ok-k.ensures in
    let p = c.position-above in
    let f = c.requires in
    let i = c.args in
    let there = has_it f row in
    rw (handed_on _ _ c.from_residual-in_err-cleanly.ensures.1)
    (goes_on (met (listed_has f.core.listed _ ∙ there) _) _
    ∙ ap₂ cleanly
    (ap (λ h. h.lits) (listed_fetch f.core.listed _ there) ∙ sym (lits_are f row c.clause_of-c.ensures))
    (ap (above (spelled i.t i.rows.now i.pool.now i.stack.now).stack) (sym p.ensures.1) ∙ above_is f p.result p.ensures.0)
    ∙ sym c.cleanly.ensures ∙ c.in_err-cleanly.was)

pub returns : goal.returns
unfolding check
returns c =
    let row : RowOf c.args.t c.args.rows.now 2 c.args.id c.in_ok-k.k = c.in_ok-k.ensures in
    let p = c.position-above in
    let f = c.requires in
    let i = c.args in
    let there = has_it f row in (
      goes_on (met (listed_has f.core.listed _ ∙ there) _) _
          ∙ ap₂ cleanly
          (ap (λ h. h.lits) (listed_fetch f.core.listed _ there) ∙ sym (lits_are f row c.clause_of-c.ensures))
          (ap (above (spelled i.t i.rows.now i.pool.now i.stack.now).stack) (sym p.ensures.1) ∙ above_is f p.result p.ensures.0)
          ∙ sym c.cleanly.ensures ∙ c.in_ok-cleanly.was,
      row,
    )
