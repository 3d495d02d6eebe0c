use mathlib.Core.Path.{◌≡◌, refl, sym, ◌∙◌}
use mathlib.Core.Bool.{true}
use lib.ListN.{length}
use Rattle.rules.specs.Answers.{lent}
use Rattle.dimacs.specs.Reading.{read_text}
use Rattle.call_lrat.proofs.Checking.{full_checked, proof_checked, working_fits}
use Rattle.call_lrat.proofs.check_lent.Goals as goal

pub check_filled-answer-requires : goal.check_filled-answer-requires
check_filled-answer-requires c = let i = c.args in working_fits i.n (read_text i.cnf.now) _ _ i.pool.now _ _ c.in-Ok.ensures

pub returns-in-Full : goal.returns-in-Full
returns-in-Full c =
    let i = c.args in
    let sized : lent i.n (length i.pool.now) ≡ true = sym c.in_sizes.ensures ∙ c.if-not-in_sizes.false in
    let full = rw c.in-Full.is at c.in-Err.ensures in
    rw c.emptied-in-Full.ensures (full_checked i.n i.pool.now i.c i.cnf.now i.proof.now sized _ _ _ _ refl _ _ full)

pub returns-in-Ok : goal.returns-in-Ok
returns-in-Ok c =
    let i = c.args in
    let sized : lent i.n (length i.pool.now) ≡ true = sym c.in_sizes.ensures ∙ c.if-not-in_sizes.false in
    rw c.emptied.ensures
    (proof_checked i.n i.pool.now i.c i.cnf.now i.proof.now sized _ _ _ _ refl _ c.in-Ok.ensures c.check_filled-answer.ensures
    c.check_filled-answer.auto.pool)
