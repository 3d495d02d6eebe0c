use Rattle.std.proofs.Common.{refl, ◌∙◌, arith}
use Rattle.rules.proofs.Lists.{true-false}
use Rattle.call_serve.proofs.Onward.{fed_onward}
use Rattle.call_serve.proofs.Feeding.{going_none, going_more, pumped}
use Rattle.call_serve.proofs.pump.Goals as goal

pub loop-from-init : goal.loop-from-init
loop-from-init c = (going_none c.requires.0, refl, refl)

pub loop-from-smaller : goal.loop-from-smaller
loop-from-smaller c =
    let l = c.loop-from in
    let e = c.feed-fed.ensures in
    let g = going_more l.invariant.0 e.fit e.fed e.altered c.either-altered.ensures in
    let on = fed_onward e.fed l.invariant.0.high c.loop-from-test.true (omega (arith, c.requires.1, l.invariant.2)) in
    omega (arith, on, g.high)

pub loop-from-preserved : goal.loop-from-preserved
loop-from-preserved c =
    let l = c.loop-from in
    let e = c.feed-fed.ensures in (
      going_more l.invariant.0 e.fit e.fed e.altered c.either-altered.ensures,
      c.if-not-sent.false,
      c.feed-fed.auto.out ∙ l.invariant.2,
    )

pub returns-then-not-sent : goal.returns-then-not-sent
returns-then-not-sent c =
    let e = c.feed-fed.ensures in
    pumped (going_more c.loop-from.invariant.0 e.fit e.fed e.altered c.either-altered.ensures) _ (λ s. true-false s c.if-not-sent.true)
