use mathlib.Core.Path.{sym, ◌∙◌}
use native.Mathlib.Omega.{arith}
use Rattle.lent_lawful.proofs.Rights.{clause_long, clause_unflawed}
use Rattle.lent_lawful.proofs.is_clause.Goals as goal

pub returns-then-c-gt256 : goal.returns-then-c-gt256
returns-then-c-gt256 c = let a = c.args in sym (clause_long a.vars a.c.now (omega (arith, c.if-c-gt256.true)))

pub returns : goal.returns
returns c = c.is_ok.ensures.value ∙ clause_unflawed c.args.vars 0 c.args.c.now _ c.flaw.ensures (omega (arith, c.if-c-gt256.false))
