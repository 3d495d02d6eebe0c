use Rattle.std.proofs.Common.{refl, ◌∙◌, sym, ap, subst, List, ℕ, length, take, arith}
use lib.Dec.{eqb}
use lib.Seq.{length-take-le}
use borrow.Author.Tests.{eqb-false}
use Rattle.table.specs.Spelled.{spelled}
use Rattle.lrat_serve.specs.Serving.{Tells}
use Rattle.lrat_serve.proofs.Telling.{none_read, read_on, read_more, goes_on, told_so}
use Rattle.lrat_serve.proofs.check.Goals as goal
use Rattle.lrat_serve.proofs.check.Goals.{else-loop-read-test, then-loop-read-test+in-Err, then-loop-read-test+in-Ok+then-reader}

pub loop-read-init : goal.loop-read-init
loop-read-init g c = (refl, refl, none_read c.requires c.start-reader.ensures c.empty-falses.ensures)

pub loop-read-smaller : goal.loop-read-smaller
loop-read-smaller g c =
    let l = c.loop-read in
    let part = take c.in-Ok.n c.read.new.buf in
    let some = goes_on c.requires.vars_fit.1 l.invariant.2 part c.feed_on-fed.ensures c.if-reader.false in
    omega (arith, eqb-false (length part) 0 some, length-take-le c.in-Ok.n c.read.new.buf c.in-Ok.ensures.bound.0, c.loop-read-test.true)

pub loop-read-preserved : goal.loop-read-preserved
loop-read-preserved g c =
    let l = c.loop-read in
    let part = take c.in-Ok.n c.read.new.buf in (
      l.invariant.0 ∙ sym c.read.auto.buf,
      l.invariant.1,
      read_more c.requires.vars_fit.1 l.invariant.2 part c.feed_on-fed.ensures c.if-reader.false,
    )

pub returns : goal.returns
returns g c =
    let a = c.args in
    let small = c.requires.vars_fit.1 in
    let v = c.loop-read.invariant in
    let t = c.loop-read-test in
    subst (λ q. (bs : List ℕ) × Tells (spelled a.t a.rows.now a.pool.now a.stack.now) bs q) (sym c.conclude.ensures)
    (elim t.branch [
      | else-loop-read-test w ↦ told_so small v.2 t.failure w.reader-is (w.ended-is ∙ v.1)
      | then-loop-read-test+in-Err w ↦ told_so small v.2 t.failure w.reader-is (w.ended-is ∙ v.1)
      | then-loop-read-test+in-Ok+then-reader w ↦
          let part = take w.in-Ok.n w.read.new.buf in
          told_so small (read_on small v.2 part w.feed_on-fed.ensures) t.failure w.reader-is
          (w.ended-is ∙ ap (λ k. eqb k 0) (sym (length-take-le w.in-Ok.n w.read.new.buf w.in-Ok.ensures.bound.0)))
    ])
