-- `lent_lawful::is_witness` meets its contract.
use mathlib.Core.Path.{sym, ◌∙◌, ap}
use Rattle.rules.specs.Lists.{any_passes}
use Rattle.table.proofs.Readers.{clause_ranged}
use Rattle.lent_lawful.proofs.Rights.{witness_no_clause, witness_shares}
use Rattle.lent_lawful.proofs.is_witness.Goals as goal

pub returns-then-not-is_clause : goal.returns-then-not-is_clause
returns-then-not-is_clause c =
    let a = c.args in
    sym (witness_no_clause a.vars a.lits.now a.witness.now (sym c.is_clause.ensures ∙ c.if-not-is_clause.true))

pub mark-set-requires : goal.mark-set-requires
mark-set-requires c = clause_ranged c.args.vars c.args.witness.now c.requires.0 (sym c.is_clause.ensures ∙ c.if-not-is_clause.false)

pub shares-requires : goal.shares-requires
shares-requires c = clause_ranged c.args.vars c.args.lits.now c.requires.0 c.requires.1

pub returns : goal.returns
returns c =
    let m = c.mark-set.ensures in
    let e = sym c.is_clause.ensures
    ∙ c.if-not-is_clause.false in
    c.shares.ensures ∙ ap (λ S. any_passes S c.args.lits.now) m ∙ sym (witness_shares c.args.vars c.args.lits.now c.args.witness.now e)
