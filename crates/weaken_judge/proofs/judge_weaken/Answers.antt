-- Each return cites the checks before it.
use mathlib.Core.Path.{◌≡◌, sym, ◌∙◌, ap}
use borrow.Author.Rules.{rules}
use borrow.Author.Tests.{le-leb, lt-leb}
use Rattle.std.specs.Prelude.{Ok, Err}
use Rattle.rules.specs.Answers.{flaw, unseen, check}
use Rattle.lit_clause.proofs.Faults.{flaw_in}
use Rattle.table.proofs.Readers.{readable, free_words_is}
use Rattle.judge_checks.proofs.Located.{reads_it, ranged}
use Rattle.judge_checks.proofs.Order.{goes_on, stops, met, unmet, handed_on}
use Rattle.weaken_judge.proofs.Behind.{behind}
use Rattle.weaken_judge.proofs.judge_weaken.Goals as goal

pub returns-in_err-flaw : goal.returns-in_err-flaw
unfolding check
returns-in_err-flaw c = rw (handed_on _ _ c.from_residual.ensures.1) (stops (sym c.flaw.ensures ∙ c.in_err-flaw.was) _)

pub returns-in_err-k : goal.returns-in_err-k
unfolding check
returns-in_err-k c =
    rw (handed_on _ _ c.from_residual-in_err-k.ensures.1)
    (goes_on (sym c.flaw.ensures ∙ c.in_ok-flaw.was) _ ∙ stops (unmet (c.in_err-k.ensures.1 _) _ ∙ ap Err (sym c.in_err-k.ensures.0)) _)

pub clause_of-c-requires : goal.clause_of-c-requires
clause_of-c-requires c = reads_it c.requires.0 c.in_ok-k.ensures

pub mark-set-requires : goal.mark-set-requires
mark-set-requires c =
    let unflawed : flaw c.args.t.vars unseen 3 c.args.witness.now ≡ Ok tt = sym c.flaw.ensures ∙ c.in_ok-flaw.was in
    flaw_in _ _ _ c.requires.0.vars_fit.1 unflawed

pub shares-shared-requires : goal.shares-shared-requires
shares-shared-requires c = ranged c.requires.0 c.in_ok-k.ensures c.clause_of-c.ensures

pub returns-then-not-shared : goal.returns-then-not-shared
returns-then-not-shared c =
    behind c.requires.0 _ _ _ c.in_ok-k.ensures c.clause_of-c.ensures c.mark-set.ensures (sym c.flaw.ensures ∙ c.in_ok-flaw.was) c.shares-shared.ensures
    ∙ stops (unmet c.if-not-shared.true _) _

pub returns-then-pool-words : goal.returns-then-pool-words
returns-then-pool-words c =
    behind c.requires.0 _ _ _ c.in_ok-k.ensures c.clause_of-c.ensures c.mark-set.ensures (sym c.flaw.ensures ∙ c.in_ok-flaw.was) c.shares-shared.ensures
    ∙ goes_on (met (search rules) _) _
    ∙ stops (free_words_is c.requires.0 _ ∙ unmet (lt-leb _ _ c.if-pool-words.true) _) _

pub all_groups-requires : goal.all_groups-requires
all_groups-requires c = (readable c.requires.0, ranged c.requires.0 c.in_ok-k.ensures c.clause_of-c.ensures, c.requires.2)

pub returns-in_err-all_groups : goal.returns-in_err-all_groups
returns-in_err-all_groups c =
    rw (handed_on _ _ c.from_residual-in_err-all_groups.ensures.1)
    (behind c.requires.0 _ _ _ c.in_ok-k.ensures c.clause_of-c.ensures c.mark-set.ensures (sym c.flaw.ensures ∙ c.in_ok-flaw.was) c.shares-shared.ensures
    ∙ goes_on (met c.if-not-shared.false _) _
    ∙ goes_on (free_words_is c.requires.0 _ ∙ met (le-leb _ _ c.if-pool-words.false) _) _
    ∙ sym c.all_groups.ensures ∙ c.in_err-all_groups.was)

pub returns : goal.returns
returns c = (
  behind c.requires.0 _ _ _ c.in_ok-k.ensures c.clause_of-c.ensures c.mark-set.ensures (sym c.flaw.ensures ∙ c.in_ok-flaw.was) c.shares-shared.ensures
      ∙ goes_on (met c.if-not-shared.false _) _
      ∙ goes_on (free_words_is c.requires.0 _ ∙ met (le-leb _ _ c.if-pool-words.false) _) _
      ∙ sym c.all_groups.ensures ∙ c.in_ok-all_groups.was,
  c.in_ok-k.ensures,
)
