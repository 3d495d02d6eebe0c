-- The loop by line_read's Feeding, one law for each way on; what it keeps of the tables is in Tables.
use mathlib.Core.Path.{refl, ◌∙◌}
use mathlib.Core.List.{List}
use Prim.Native.Nat.{ℕ, ◌+◌, ◌≤◌, ◌<◌}
use native.Mathlib.Omega.{arith}
use lib.ListN.{length}
use Rattle.table.specs.Spelled.{spelled}
use Rattle.line_read.specs.Machine.{Session, session_of}
use Rattle.line_read.proofs.Feeding.{Feeding, feeding_start, feeding_words, feeding_push, feeding_close, fed_room, fed_end}
use Rattle.line_feed.proofs.Tables.{tables_start, tables_more}
use Rattle.line_feed.proofs.feed.Goals as goal

pub loop-i-init : goal.loop-i-init
loop-i-init c =
    let p = c.requires in
    let a = c.args in (
      feeding_start _ _ a.r _ (spelled a.t a.rows.now a.pool.now a.stack.now) _ _ p.1 p.0.most p.2 p.0.fit.vars_fit.1
          p.0.wide,
      tables_start p.0.fit,
      c.values-values.ensures,
      refl,
      refl,
      refl,
      refl,
    )

pub loop-i-preserved-then-b-eq10 : goal.loop-i-preserved-then-b-eq10
loop-i-preserved-then-b-eq10 c =
    let Run₀ : Session = session_of c.args.r c.args.frame.now (spelled c.args.t c.args.rows.now c.args.pool.now c.args.stack.now) c.args.out.now c.args.at in
    let part : List ℕ = c.args.part.now in
    let room : c.loop-i.a + 16401 ≤ length c.args.out.now = omega (arith, c.loop-i.invariant.0.room, c.loop-i.invariant.0.kept) in
    let words : Feeding part c.args.from Run₀ c.take_words-taken.new.frame c.args.out.now c.loop-i.out c.take_words-taken.result.from c.loop-i.a c.take_words-taken.result.reader (spelled c.loop-i.table c.loop-i.rows c.loop-i.pool c.loop-i.stack) c.loop-i.altered = feeding_words c.loop-i.invariant.0 room c.take_words-taken.ensures c.take_words-taken.auto.frame in
    let more : c.take_words-taken.result.from < length part = omega (arith, words.high, c.if-i-part.false) in
    let v = c.loop-i.invariant in
    let k = c.close-closed in
    let told = c.either-altered.ensures in
    let one = k.ensures.altered.told_so in (
      rw (told, one) (feeding_close words room more c.if-b-eq10.true c.fresh-reader.ensures k.ensures.closed
          k.auto.out),
      tables_more v.1 k.ensures.fit k.ensures.altered told,
      v.2,
      c.take_words-taken.auto.frame ∙ v.3,
      k.auto.rows ∙ v.4,
      k.auto.pool ∙ v.5,
      k.auto.stack ∙ v.6,
    )

pub loop-i-preserved : goal.loop-i-preserved
loop-i-preserved c =
    let Run₀ : Session = session_of c.args.r c.args.frame.now (spelled c.args.t c.args.rows.now c.args.pool.now c.args.stack.now) c.args.out.now c.args.at in
    let part : List ℕ = c.args.part.now in
    let room : c.loop-i.a + 16401 ≤ length c.args.out.now = omega (arith, c.loop-i.invariant.0.room, c.loop-i.invariant.0.kept) in
    let words : Feeding part c.args.from Run₀ c.take_words-taken.new.frame c.args.out.now c.loop-i.out c.take_words-taken.result.from c.loop-i.a c.take_words-taken.result.reader (spelled c.loop-i.table c.loop-i.rows c.loop-i.pool c.loop-i.stack) c.loop-i.altered = feeding_words c.loop-i.invariant.0 room c.take_words-taken.ensures c.take_words-taken.auto.frame in
    let more : c.take_words-taken.result.from < length part = omega (arith, words.high, c.if-i-part.false) in
    let v = c.loop-i.invariant in
    let k = c.push_byte-reader in (
      feeding_push words room more c.if-b-eq10.false k.ensures.most k.ensures.moved k.auto.frame,
      v.1,
      v.2,
      k.auto.frame ∙ c.take_words-taken.auto.frame ∙ v.3,
      v.4,
      v.5,
      v.6,
    )

pub returns-after-loop-i-clause-fed : goal.returns-after-loop-i-clause-fed
returns-after-loop-i-clause-fed c =
    let v = c.loop-i.invariant in
    let f = v.0 in
    fed_end f c.loop-i-test.false

pub returns-then-out-a-lt16401-clause-fed : goal.returns-then-out-a-lt16401-clause-fed
returns-then-out-a-lt16401-clause-fed c =
    let v = c.loop-i.invariant in
    let f = v.0 in fed_room f (omega (arith, f.kept))

pub returns-then-i-part-clause-fed : goal.returns-then-i-part-clause-fed
returns-then-i-part-clause-fed c =
    let Run₀ : Session = session_of c.args.r c.args.frame.now (spelled c.args.t c.args.rows.now c.args.pool.now c.args.stack.now) c.args.out.now c.args.at in
    let part : List ℕ = c.args.part.now in
    let room : c.loop-i.a + 16401 ≤ length c.args.out.now = omega (arith, c.loop-i.invariant.0.room, c.loop-i.invariant.0.kept) in
    let words : Feeding part c.args.from Run₀ c.take_words-taken.new.frame c.args.out.now c.loop-i.out c.take_words-taken.result.from c.loop-i.a c.take_words-taken.result.reader (spelled c.loop-i.table c.loop-i.rows c.loop-i.pool c.loop-i.stack) c.loop-i.altered = feeding_words c.loop-i.invariant.0 room c.take_words-taken.ensures c.take_words-taken.auto.frame in
    let v = c.loop-i.invariant in
    let f = words in
    fed_end f (omega (arith, c.if-i-part.true))

pub returns-then-i-part-clause-altered : goal.returns-then-i-part-clause-altered
returns-then-i-part-clause-altered c =
    let Run₀ : Session = session_of c.args.r c.args.frame.now (spelled c.args.t c.args.rows.now c.args.pool.now c.args.stack.now) c.args.out.now c.args.at in
    let part : List ℕ = c.args.part.now in
    let room : c.loop-i.a + 16401 ≤ length c.args.out.now = omega (arith, c.loop-i.invariant.0.room, c.loop-i.invariant.0.kept) in
    let words : Feeding part c.args.from Run₀ c.take_words-taken.new.frame c.args.out.now c.loop-i.out c.take_words-taken.result.from c.loop-i.a c.take_words-taken.result.reader (spelled c.loop-i.table c.loop-i.rows c.loop-i.pool c.loop-i.stack) c.loop-i.altered = feeding_words c.loop-i.invariant.0 room c.take_words-taken.ensures c.take_words-taken.auto.frame in
    let v = c.loop-i.invariant in
    let f = words in
    record { told_so = f.told; left = v.1.left }
