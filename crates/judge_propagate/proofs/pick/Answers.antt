-- The row of the hint's number, if there is one, is let through by the two tests of `permits`.
use mathlib.Core.Path.{ap}
use mathlib.Core.Bool.{not}
use Rattle.std.proofs.Common.{eq-eqb}
use Rattle.std.proofs.lemmas.Bool.{ne_eqb}
use Rattle.table.specs.Spelled.{row_at}
use Rattle.judge_propagate.proofs.Allowed.{permits_far, permits_near, picks, picks_none, picks_not}
use Rattle.judge_propagate.proofs.pick.Goals as goal
use Rattle.judge_propagate.proofs.pick.Goals.{else-place_at-scope-via-then-place_at-scope+else-id_at-scope, else-place_at-scope-via-else-place_at-scope}

pub returns-in_err-k : goal.returns-in_err-k
returns-in_err-k c = rw c.from_residual.ensures (picks_none _ c.requires.1 c.ranges.hint c.number.ensures.0 _ c.in_err-k.ensures)

pub returns-then-id_at-scope : goal.returns-then-id_at-scope
returns-then-id_at-scope c =
    picks _ c.requires.1 c.ranges.hint c.number.ensures.0 _ c.requires.0 _ c.in_ok-k.ensures
    (permits_near c.args.scope (row_at c.args.rows.now c.in_ok-k.k) c.place_at.ensures c.if-place_at-scope.true c.id_at.ensures (ap not (ne_eqb _ _ c.if-id_at-scope.true)))

pub returns : goal.returns
returns c =
    picks_not _ c.requires.1 c.ranges.hint c.number.ensures.0 _ c.requires.0 _ c.in_ok-k.ensures (elim c.else-place_at-scope.branch [
      | else-place_at-scope-via-then-place_at-scope+else-id_at-scope w ↦ permits_near c.args.scope (row_at c.args.rows.now c.in_ok-k.k) c.place_at.ensures w.if-place_at-scope.true w.id_at.ensures (ap not (eq-eqb _ _ w.if-id_at-scope.false))
      | else-place_at-scope-via-else-place_at-scope w ↦ permits_far c.args.scope (row_at c.args.rows.now c.in_ok-k.k) c.place_at.ensures w.if-place_at-scope.false
    ])
