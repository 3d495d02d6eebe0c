-- Invariant: no literal passed is true, so the rest decides.
use mathlib.Core.Path.{sym, ◌∙◌}
use borrow.Author.Rules.{rules}
use Rattle.rules.specs.Terms.{lit}
use Rattle.lit.proofs.Signed.{said}
use Rattle.lit_sets.specs.Words.{assigned}
use Rattle.lit_sets.proofs.Reading.{read_in}
use Rattle.lit_clause.proofs.Reading.{found, passed, none_found}
use Rattle.lit_clause.proofs.satisfied.Goals as goal

pub is_true-requires : goal.is_true-requires
is_true-requires c = read_in _ _ c.requires c.loop-l-test.true (search rules)

pub returns-then-is_true : goal.returns-then-is_true
returns-then-is_true c = found _ _ _ c.loop-l.invariant c.loop-l-test.true (sym (said (lit (assigned _)) (search rules) c.is_true.ensures) ∙ c.if-is_true.true)

pub loop-l-preserved : goal.loop-l-preserved
loop-l-preserved c = passed _ _ _ c.loop-l.invariant c.loop-l-test.true (sym (said (lit (assigned _)) (search rules) c.is_true.ensures) ∙ c.if-is_true.false)

pub returns : goal.returns
returns c = none_found _ _ _ c.loop-l.invariant c.loop-l-test.false
