-- Each return is one law of Hints, by what reading the hint came to.
use Rattle.table.proofs.Readers.{readable}
use Rattle.lrat_line.proofs.Hints.{hint_conflict, hint_forced, hint_bad}
use Rattle.lrat_line.proofs.take_hint.Goals as goal

pub read_hint-looked-requires : goal.read_hint-looked-requires
read_hint-looked-requires c = readable c.requires

pub returns-in-Conflict : goal.returns-in-Conflict
returns-in-Conflict c = hint_conflict c.requires _ _ _ _ c.if-l-ne0.false c.if-v-gt2147483647.false c.in-Conflict.ensures

pub returns-in-Forced : goal.returns-in-Forced
returns-in-Forced c = hint_forced c.requires _ _ _ _ c.if-l-ne0.false c.if-v-gt2147483647.false c.in-Forced.ensures

pub returns-in-Bad : goal.returns-in-Bad
returns-in-Bad c = hint_bad c.requires _ _ _ _ c.if-l-ne0.false c.if-v-gt2147483647.false c.in-Bad.ensures
