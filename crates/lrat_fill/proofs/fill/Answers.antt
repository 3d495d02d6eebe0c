-- `lrat_fill::fill` meets its contract: the text is judged, and an empty table opened for it (Opening).
use mathlib.Core.Path.{sym, ◌∙◌}
use Rattle.lrat_fill.proofs.Opening.{sound_asked}
use Rattle.lrat_fill.proofs.fill.Goals as goal

pub add_all-requires : goal.add_all-requires
add_all-requires c = sound_asked c.args.text.now c.requires (sym c.in_ok-counts.was ∙ c.judge.ensures)
