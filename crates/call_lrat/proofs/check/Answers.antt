use Rattle.call_lrat.proofs.Checking.{checks_lent}
use Rattle.call_lrat.proofs.check.Goals as goal

pub returns : goal.returns
returns c = checks_lent c.args.entries.now c.args.pool.now c.args.carried c.args.cnf.now c.args.proof.now c.check_lent.new.pool c.check_lent.auto.pool c.check_lent.ensures
