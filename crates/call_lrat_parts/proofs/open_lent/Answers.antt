-- `call_lrat_parts::open_lent` meets its contract: each way out cites its law in Opening.
use mathlib.Core.Path.{◌≡◌, sym, ◌∙◌}
use mathlib.Core.Bool.{true}
use lib.ListN.{length, replicate}
use Rattle.rules.specs.Answers.{lent}
use Rattle.call_lrat_parts.proofs.Opening.{no_room_left, held_fits, held}
use Rattle.call_lrat_parts.proofs.open_lent.Goals as goal

pub squeeze-whole-requires : goal.squeeze-whole-requires
squeeze-whole-requires c =
    let a = c.args in
    let fits : lent a.n (length a.pool.now) ≡ true = sym c.in_sizes.ensures ∙ c.if-not-in_sizes.false in
    held_fits a.n a.pool.now a.c a.r a.cnf.now fits (replicate 1024 0) _ c.in-Ok.ensures

pub returns-in-Full : goal.returns-in-Full
returns-in-Full c =
    let a = c.args in
    let fits : lent a.n (length a.pool.now) ≡ true = sym c.in_sizes.ensures ∙ c.if-not-in_sizes.false in
    let full = rw c.in-Full.is at c.in-Err.ensures in
    rw c.emptied.ensures (no_room_left a.n a.pool.now a.c a.r a.cnf.now fits (replicate 1024 0) _ _ full)

pub returns-in-Ok : goal.returns-in-Ok
returns-in-Ok c =
    let a = c.args in
    let fits : lent a.n (length a.pool.now) ≡ true = sym c.in_sizes.ensures ∙ c.if-not-in_sizes.false in
    let q = c.squeeze-whole.ensures in
    rw (c.stored.ensures, c.fresh.ensures)
    (held a.n a.pool.now a.c a.r a.cnf.now fits (replicate 1024 0) _ c.in-Ok.ensures (q.long ∙ c.fill.auto.rows ∙ c.requires) q)
