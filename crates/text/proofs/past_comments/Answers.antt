use Rattle.std.proofs.Common.{arith, ◌∙◌}
use Rattle.text.proofs.Words.{comment_closed, comment_last, words_opened}
use Rattle.text.proofs.past_comments.Goals as goal

pub loop-i-preserved-then-i-text : goal.loop-i-preserved-then-i-text
loop-i-preserved-then-i-text c =
    let e = c.line_end-i.ensures in (
      omega (arith, e.unclosed.low),
      omega (arith, c.if-i-text.true),
      c.loop-i.invariant.2
          ∙ comment_closed _ _ _ e c.loop-i-test.true c.if-text-i-ne99.false c.if-i-text.true,
    )

pub loop-i-preserved : goal.loop-i-preserved
loop-i-preserved c =
    let e = c.line_end-i.ensures in (
      omega (arith, e.unclosed.low),
      e.unclosed.high,
      c.loop-i.invariant.2
          ∙ comment_last _ _ _ e c.loop-i-test.true c.if-text-i-ne99.false c.if-i-text.false,
    )

pub returns-after-loop-i : goal.returns-after-loop-i
returns-after-loop-i c = record {
  low = c.loop-i.invariant.0;
  high = c.loop-i.invariant.1;
  same = c.loop-i.invariant.2 ∙ words_opened _ _ (λ h. absurd (omega (arith, c.loop-i-test.false)));
}

pub returns-then-text-i-ne99 : goal.returns-then-text-i-ne99
returns-then-text-i-ne99 c =
    let l = c.loop-i in
    record { low = l.invariant.0; high = l.invariant.1; same = l.invariant.2 ∙ words_opened _ _ (λ h. c.if-text-i-ne99.true) }
