-- The header comes to what is left behind it; its hints then decide.
use native.Mathlib.Omega.{arith}
use Rattle.lit_sets.specs.Words.{literals}
use Rattle.judge_checks.proofs.Order.{handed_on}
use Rattle.weaken_groups.proofs.Groups.{stops, unproved, proved}
use Rattle.weaken_groups.proofs.group.Goals as goal

pub decided-requires : goal.decided-requires
decided-requires c =
    let ahead = c.in_ok-end.ensures.ahead in (
      omega (arith, c.requires.4),
      stops _ (literals c.args.witness.now) _ c.requires.0 c.id_at-due.ensures c.in_ok-end.ensures c.irredundant_but-scope.ensures c.clause_of-lits.ensures c.proves_with-verdict.ensures
          (omega (arith, c.requires.4)),
    )

pub returns-in_err-decided : goal.returns-in_err-decided
returns-in_err-decided c = rw (handed_on _ _ c.from_residual-in_err-decided.ensures.1)
    (unproved _ _ _ c.requires.0 c.id_at-due.ensures c.in_ok-end.ensures c.irredundant_but-scope.ensures c.clause_of-lits.ensures c.proves_with-verdict.ensures
    c.decided.ensures _ c.in_err-decided.was)

pub returns : goal.returns
returns c =
    proved _ _ _ c.requires.0 c.id_at-due.ensures c.in_ok-end.ensures c.irredundant_but-scope.ensures c.clause_of-lits.ensures c.proves_with-verdict.ensures
    c.decided.ensures c.in_ok-decided.was
