-- Each return cites the words read before it.
use borrow.Author.Rules.{rules}
use Rattle.weaken_groups.proofs.Groups.{group_missing, wrong_id, count_missing, negative_count, past_the_end, header_read}
use Rattle.weaken_groups.proofs.header.Goals as goal

pub returns-then-at-n : goal.returns-then-at-n
returns-then-at-n c = group_missing _ _ _ _ (search rules)

pub returns-then-not-names : goal.returns-then-not-names
returns-then-not-names c = wrong_id _ _ _ _ (search rules) (search rules) c.names.ensures c.if-not-names.true

pub returns-then-next-n : goal.returns-then-next-n
returns-then-next-n c = count_missing _ _ _ _ (search rules) (search rules) c.names.ensures c.if-not-names.false (search rules)

pub returns-then-not-is_not_negative : goal.returns-then-not-is_not_negative
returns-then-not-is_not_negative c =
    negative_count _ _ _ _ (search rules) (search rules) c.names.ensures c.if-not-names.false
    (search rules) (search rules) c.is_not_negative.ensures c.if-not-is_not_negative.true

pub returns-then-n-hints : goal.returns-then-n-hints
returns-then-n-hints c =
    past_the_end _ _ _ _ (search rules) (search rules) c.names.ensures c.if-not-names.false
    (search rules) (search rules) c.is_not_negative.ensures c.if-not-is_not_negative.false c.number-count.ensures.0 c.if-n-hints.true

pub returns : goal.returns
returns c =
    header_read _ _ _ _ (search rules) (search rules) c.names.ensures c.if-not-names.false
    (search rules) (search rules) c.is_not_negative.ensures c.if-not-is_not_negative.false c.number-count.ensures.0 c.if-n-hints.false
