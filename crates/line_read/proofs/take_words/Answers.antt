use Rattle.std.proofs.Common.{arith, ◌<◌}
use Rattle.line_hex.proofs.Signed.{stored}
use Rattle.line_hex.specs.Hex.{beyond, value_at}
use Rattle.line_read.proofs.Words.{took, took_none, took_spoilt, words_more, words_start}
use Rattle.line_read.proofs.take_words.Goals as goal

pub returns-then-r : goal.returns-then-r
returns-then-r c = took_spoilt _ c.line_end.ensures.unclosed c.requires.1 c.if-r.true

pub returns-then-r-ne0 : goal.returns-then-r-ne0
returns-then-r-ne0 c = took_none _ _ _ c.requires.0 c.requires.1

pub loop-k-init : goal.loop-k-init
loop-k-init c = words_start _ _ _ _ c.requires.0 c.requires.1 c.if-digits-ne0.false

pub loop-k-preserved : goal.loop-k-preserved
loop-k-preserved c =
    let l = c.loop-k in
    let e = c.eight-w.ensures in
    let small : value_at c.args.part.now l.i 8 < beyond = omega (arith, c.if-w-gt4294967295.false, e) in
    rw (c.signed_of.ensures, e, stored _ small)
    (words_more l.invariant c.loop-k-test.true (omega (arith, c.if-part-i-lt8.false, l.invariant.high)) small
    c.requires.2)

pub returns : goal.returns
returns c = took c.loop-k.invariant _ _ c.if-r-ne0.false c.if-r.false
