-- Invariant: no literal passed is in the set, so the rest decides.
use mathlib.Core.Path.{sym, ◌∙◌}
use borrow.Author.Rules.{rules}
use Rattle.lit.proofs.Signed.{said}
use Rattle.lit_sets.specs.Words.{literals}
use Rattle.lit_sets.proofs.Reading.{read_in}
use Rattle.lit_clause.proofs.Reading.{found, passed, none_found}
use Rattle.lit_clause.proofs.shares.Goals as goal

pub has-requires : goal.has-requires
has-requires c = read_in _ _ c.requires c.loop-l-test.true (search rules)

pub returns-then-has : goal.returns-then-has
returns-then-has c = found _ _ _ c.loop-l.invariant c.loop-l-test.true (sym (said (literals _) (search rules) c.has.ensures) ∙ c.if-has.true)

pub loop-l-preserved : goal.loop-l-preserved
loop-l-preserved c = passed _ _ _ c.loop-l.invariant c.loop-l-test.true (sym (said (literals _) (search rules) c.has.ensures) ∙ c.if-has.false)

pub returns : goal.returns
returns c = none_found _ _ _ c.loop-l.invariant c.loop-l-test.false
