use Rattle.std.proofs.Common.{ne_eqb, rules}
use Rattle.text.proofs.Lines.{unclosed_more, unclosed_none}
use Rattle.text.proofs.line_end.Goals as goal

pub loop-i-init : goal.loop-i-init
loop-i-init c = unclosed_none c.args.text.now c.args.from c.requires

pub loop-i-preserved : goal.loop-i-preserved
loop-i-preserved c = unclosed_more c.loop-i.invariant (search rules) (ne_eqb _ 10 c.if-text-i-eq10.false)
