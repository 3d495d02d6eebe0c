use Rattle.std.proofs.Common.{refl, ◌∙◌, sym}
use Rattle.call_serve.proofs.Reading.{none_read, read_more, attended}
use Rattle.call_serve.proofs.attend.Goals as goal

pub loop-init : goal.loop-init
loop-init c = (refl, refl, refl, none_read _ c.requires c.fresh-reader.ensures)

pub loop-preserved : goal.loop-preserved
loop-preserved c =
    let v = c.loop.invariant in
    let kept = c.pump-q.auto in (
      v.0 ∙ sym c.read-got.auto.buf,
      v.1 ∙ sym kept.out,
      v.2 ∙ sym kept.frame,
      read_more v.3 c.pump-q.ensures c.either-altered.ensures,
    )

pub returns-then-not-q : goal.returns-then-not-q
returns-then-not-q c = attended (read_more c.loop.invariant.3 c.pump-q.ensures c.either-altered.ensures)
