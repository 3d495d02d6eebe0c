use mathlib.Core.Path.{sym, ◌∙◌}
use Rattle.lrat_feed.proofs.Sessions.{no_word, word_ended}
use Rattle.lrat_feed.proofs.end_word.Goals as goal

pub returns-then-not-is_word : goal.returns-then-not-is_word
returns-then-not-is_word c =
    rw (c.with_word.ensures, c.between.ensures)
    (no_word c.args.r _ _ c.requires (sym c.is_word.ensures ∙ c.if-not-is_word.true))

pub returns : goal.returns
returns c =
    rw c.between-2.ensures
    (word_ended c.args.r _ _ c.requires (sym c.is_word.ensures ∙ c.if-not-is_word.false)
    (rw c.said-said.ensures at c.take_word-taken.ensures))
