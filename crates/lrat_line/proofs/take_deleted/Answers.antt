-- Each return is one law of Deletions, by where the clause was found.
use mathlib.Core.Path.{◌≡◌}
use mathlib.Core.Bool.{false}
use mathlib.Core.List.{[]}
use Rattle.rules.specs.Terms.{has}
use Rattle.table.specs.Spelled.{clauses, held_rows}
use Rattle.judge_checks.specs.Located.{RowOf}
use Rattle.judge_checks.proofs.Located.{found, missing}
use Rattle.lrat_line.proofs.Deletions.{forgotten, dropped}
use Rattle.lrat_line.proofs.take_deleted.Goals as goal

pub returns-in-Some : goal.returns-in-Some
returns-in-Some c =
    let learned : RowOf c.args.t c.args.rows.now 1 c.args.v c.in-Some.k = found _ _ _ _ _ c.in-Some.is c.locate.ensures in
    forgotten c.requires _ _ c.if-v-gt2147483647.false _ _ _ learned (c.remove.ensures [])

pub returns-in-Some-locate : goal.returns-in-Some-locate
returns-in-Some-locate c =
    let not_learned : has (clauses 1 c.args.pool.now (held_rows c.args.t c.args.rows.now)) c.args.v ≡ false = missing _ _ _ _ c.in_default.is c.locate.ensures c.args.pool.now in
    let irredundant : RowOf c.args.t c.args.rows.now 0 c.args.v c.in-Some-locate.k = found _ _ _ _ _ c.in-Some-locate.is c.locate-2.ensures in
    dropped c.requires _ _ c.if-v-gt2147483647.false _ _ _ not_learned irredundant (c.remove-in-Some-locate.ensures [])
