-- Invariant: no literal passed has its opposite in the set, so the rest decides.
use mathlib.Core.Path.{sym, ◌∙◌}
use borrow.Author.Rules.{rules}
use Rattle.rules.specs.Terms.{opposes}
use Rattle.lit.proofs.Signed.{said}
use Rattle.lit_sets.specs.Words.{literals}
use Rattle.lit_sets.proofs.Reading.{read_in}
use Rattle.lit_clause.proofs.Reading.{found, passed, none_found}
use Rattle.lit_clause.proofs.opposed.Goals as goal

pub has_opposite-requires : goal.has_opposite-requires
has_opposite-requires c = read_in _ _ c.requires c.loop-l-test.true (search rules)

pub returns-then-has_opposite : goal.returns-then-has_opposite
returns-then-has_opposite c = found _ _ _ c.loop-l.invariant c.loop-l-test.true (sym (said (opposes (literals _)) (search rules) c.has_opposite.ensures) ∙ c.if-has_opposite.true)

pub loop-l-preserved : goal.loop-l-preserved
loop-l-preserved c = passed _ _ _ c.loop-l.invariant c.loop-l-test.true (sym (said (opposes (literals _)) (search rules) c.has_opposite.ensures) ∙ c.if-has_opposite.false)

pub returns : goal.returns
returns c = none_found _ _ _ c.loop-l.invariant c.loop-l-test.false
