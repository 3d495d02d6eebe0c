-- `call_step::run` meets its contract: each way out cites its law in Running.
use mathlib.Core.Path.{◌≡◌, subst}
use Rattle.lent_load.specs.Loads.{Loads}
use Rattle.table.specs.declared.Table.{Table}
use Rattle.std.specs.Prelude.{Option}
use Rattle.std.specs.Prelude.{Some}
use Rattle.call_step.proofs.Running.{ran_nothing, ran_model, ran_tables}
use Rattle.call_step.proofs.run.Goals as goal

pub returns-in-Nothing : goal.returns-in-Nothing
returns-in-Nothing c =
    let loads : (w : Option Table) → c.load.result ≡ w → Loads c.args.c c.args.rows.now c.args.pool.now w c.load.new.rows = λ w e. subst (λ w. Loads c.args.c c.args.rows.now c.args.pool.now w c.load.new.rows) e c.load.ensures in
    let working : Loads c.args.c c.args.rows.now c.args.pool.now (Some c.in-Some.t) c.load.new.rows = loads _ c.in-Some.is in
    let a = c.args in
    rw c.left-in-Nothing.ensures (ran_nothing a.c a.rows.now a.pool.now working c.step-s.ensures c.in-Nothing.is _)

pub returns-in-Tables : goal.returns-in-Tables
returns-in-Tables c =
    let loads : (w : Option Table) → c.load.result ≡ w → Loads c.args.c c.args.rows.now c.args.pool.now w c.load.new.rows = λ w e. subst (λ w. Loads c.args.c c.args.rows.now c.args.pool.now w c.load.new.rows) e c.load.ensures in
    let working : Loads c.args.c c.args.rows.now c.args.pool.now (Some c.in-Some.t) c.load.new.rows = loads _ c.in-Some.is in
    let a = c.args in
    rw c.stored.ensures
    (ran_tables a.c a.rows.now a.pool.now working c.step-s.ensures c.in-Tables.is
    c.squeeze-whole.ensures _)

pub returns-in-Model : goal.returns-in-Model
returns-in-Model c =
    let loads : (w : Option Table) → c.load.result ≡ w → Loads c.args.c c.args.rows.now c.args.pool.now w c.load.new.rows = λ w e. subst (λ w. Loads c.args.c c.args.rows.now c.args.pool.now w c.load.new.rows) e c.load.ensures in
    let working : Loads c.args.c c.args.rows.now c.args.pool.now (Some c.in-Some.t) c.load.new.rows = loads _ c.in-Some.is in
    let a = c.args in
    rw (c.left-in-Model.ensures, c.write_words.ensures)
    (ran_model a.c a.rows.now a.pool.now working c.step-s.ensures c.in-Model.is _)
