use Rattle.std.proofs.Common.{sym, ◌∙◌}
use Rattle.lrat_words.proofs.AtOnce.{taken_at_once}
use Rattle.lrat_words.proofs.take_bytes.Goals as goal

pub returns-in-Some : goal.returns-in-Some
returns-in-Some c = taken_at_once c.requires (sym c.is_word.ensures ∙ c.if-not-is_word.true) c.in-Some.ensures
