use Rattle.std.proofs.Common.{Ok, Some, None, arith, length, refl, take, ◌*◌, ◌+◌, ◌∙◌, ◌≡◌, ◌≤◌}
use Rattle.std.proofs.Math.Seq.{length-take-le}
use Rattle.dimacs_frames.specs.Yields.{yields_into}
use Rattle.dimacs_frames.proofs.Series.{handed_out}
use Rattle.dimacs_print.proofs.Filling.{going_end, going_more, going_none, going_on, line_long}
use Rattle.dimacs_print.proofs.fill.Goals as goal

pub loop-out-init : goal.loop-out-init
loop-out-init c = (going_none _ _ _, omega arith, refl, refl)

pub put_frame-at-requires : goal.put_frame-at-requires
put_frame-at-requires c =
    let l = c.loop-out in
    let y = c.in-Ok-Some.yielded in
    let q : (Ok (Some y), c.next.new.frame) ≡ yields_into c.args.text.now l.behind l.frame = cc in
    let f = handed_out c.args.text.now l.behind l.frame c.next.new.frame y.words y.behind q in
    let wide : y.words ≤ length c.next.new.frame = omega (arith, f.short, f.wide, l.invariant.2, c.requires.0) in
    omega (arith, length-take-le y.words c.next.new.frame wide, f.short, c.loop-out-test.true, l.invariant.1)

pub loop-out-preserved : goal.loop-out-preserved
loop-out-preserved c =
    let l = c.loop-out in
    let y = c.in-Ok-Some.yielded in
    let q : (Ok (Some y), c.next.new.frame) ≡ yields_into c.args.text.now l.behind l.frame = cc in
    let n = y.words in
    let words = c.next.new.frame in
    let p = c.put_frame-at in
    let f = handed_out c.args.text.now l.behind l.frame words n y.behind q in
    let wide : n ≤ length words = omega (arith, f.short, f.wide, l.invariant.2, c.requires.0) in
    let long : p.result ≡ l.at + (8 * n + 1) =
    omega (arith, p.ensures.place, line_long (take n words), length-take-le n words wide) in (
      going_more l.invariant.0 l.frame words n y.behind q p.ensures,
      omega (arith, long, p.auto.out, f.short, l.invariant.1, c.loop-out-test.true),
      f.wide ∙ l.invariant.2,
      p.auto.out ∙ l.invariant.3,
    )

pub returns-in-Ok-None : goal.returns-in-Ok-None
returns-in-Ok-None c =
    let l = c.loop-out in
    let q : (Ok None, c.next.new.frame) ≡ yields_into c.args.text.now l.behind l.frame = cc in
    going_end l.invariant.0 l.frame _ _ q (omega (arith, l.invariant.2, c.requires.0)) (λ n d e. cc)

pub returns-in-Err : goal.returns-in-Err
returns-in-Err c =
    let l = c.loop-out in
    going_end l.invariant.0 l.frame _ _ c.in-Err.ensures (omega (arith, l.invariant.2, c.requires.0)) (λ n d e. cc)

pub returns : goal.returns
returns c =
    let l = c.loop-out in
    going_on l.invariant.0 (omega (arith, c.loop-out-test.false, l.invariant.1, l.invariant.3, c.requires.1))
