use Rattle.std.proofs.Common.{arith, rules, sym, ◌∙◌}
use Rattle.text.proofs.Words.{words_blank, words_line}
use Rattle.text.proofs.seek.Goals as goal

pub loop-i-preserved-then-b-eq10 : goal.loop-i-preserved-then-b-eq10
loop-i-preserved-then-b-eq10 c =
    let p = c.past_comments-i.ensures in
    (omega (arith, p.low), p.high, c.loop-i.invariant.2 ∙ words_line _ _ _ c.loop-i-test.true c.if-b-eq10.true ∙ p.same)

pub loop-i-preserved : goal.loop-i-preserved
loop-i-preserved c =
    let blank = sym c.is_blank.ensures ∙ c.if-not-is_blank.false in
    (search rules, search rules, c.loop-i.invariant.2 ∙ words_blank _ _ _ c.loop-i-test.true blank c.if-b-eq10.false)
