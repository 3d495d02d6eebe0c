-- The loop's invariant: what is left of the machine's run, from the byte at i on, comes to its whole run.
use mathlib.Core.Path.{◌≡◌, sym, ap, subst, ◌∙◌}
use mathlib.Core.Bool.{true, false}
use mathlib.Core.List.{List}
use Prim.Native.Nat.{ℕ, ◌<◌}
use native.Mathlib.Omega.{arith}
use lib.ListN.{length, get_or}
use borrow.Author.Rules.{rules}
use Rattle.text.specs.Words.{is_blank}
use Rattle.table.specs.Spelled.{spelled}
use Rattle.lrat.specs.Machine.{run}
use Rattle.lrat.specs.declared.ProofReader.{ProofReader}
use Rattle.lrat_words.proofs.Moving.{at_blank, at_end}
use Rattle.lrat_feed.specs.Feeding.{session_of}
use Rattle.lrat_feed.proofs.Sessions.{Feeding, then_closed, fed_all, fed_enough, past_word, past_byte}
use Rattle.lrat_feed.proofs.feed.Goals as goal

pub loop-i-preserved-then-b-eq10 : goal.loop-i-preserved-then-b-eq10
loop-i-preserved-then-b-eq10 c =
    let goes_on : c.with_word-reader.result.over ≡ false = ap (λ (r : ProofReader). r.over) c.with_word-reader.ensures ∙ c.if-reader.false in
    let FeedingBy : ProofReader → Type 0 = λ r. Feeding (run (session_of c.args.r c.args.lits.now c.args.falses.now.plus c.args.falses.now.minus (spelled c.args.t c.args.rows.now c.args.pool.now c.args.stack.now)) c.args.part.now) c.args.part.now c.take_bytes-taken.result.from c.loop-i.table c.loop-i.rows c.loop-i.pool c.args.stack.now r c.loop-i.lits c.loop-i.falses.plus c.loop-i.falses.minus in
    let here : FeedingBy c.with_word-reader.result = subst FeedingBy (sym c.with_word-reader.ensures) (past_word c.loop-i.invariant c.if-reader.false c.take_bytes-taken.ensures) in
    let at : ℕ = c.take_bytes-taken.result.from in
    let part : List ℕ = c.args.part.now in
    let more : at < length part = omega (arith, here.within, c.if-i-part.false) in
    past_byte here more (at_end _ goes_on _ c.if-b-eq10.true)
    (then_closed _ c.end_word-ended.ensures.moved (c.close_line-closed.ensures _ _))

pub loop-i-preserved : goal.loop-i-preserved
loop-i-preserved c =
    let goes_on : c.with_word-reader.result.over ≡ false = ap (λ (r : ProofReader). r.over) c.with_word-reader.ensures ∙ c.if-reader.false in
    let FeedingBy : ProofReader → Type 0 = λ r. Feeding (run (session_of c.args.r c.args.lits.now c.args.falses.now.plus c.args.falses.now.minus (spelled c.args.t c.args.rows.now c.args.pool.now c.args.stack.now)) c.args.part.now) c.args.part.now c.take_bytes-taken.result.from c.loop-i.table c.loop-i.rows c.loop-i.pool c.args.stack.now r c.loop-i.lits c.loop-i.falses.plus c.loop-i.falses.minus in
    let here : FeedingBy c.with_word-reader.result = subst FeedingBy (sym c.with_word-reader.ensures) (past_word c.loop-i.invariant c.if-reader.false c.take_bytes-taken.ensures) in
    let at : ℕ = c.take_bytes-taken.result.from in
    let part : List ℕ = c.args.part.now in
    let more : at < length part = omega (arith, here.within, c.if-i-part.false) in
    let blank : is_blank (get_or part at 0) ≡ true = c.take_bytes-taken.ensures.stops more in
    past_byte here more (at_blank _ goes_on _ blank c.if-b-eq10.false) c.end_word-ended.ensures

pub returns-after-loop-i : goal.returns-after-loop-i
returns-after-loop-i c = fed_all c.loop-i.invariant (search rules)

pub returns-then-reader : goal.returns-then-reader
returns-then-reader c = fed_enough c.loop-i.invariant c.if-reader.true

pub returns-then-i-part : goal.returns-then-i-part
returns-then-i-part c =
    let FeedingBy : ProofReader → Type 0 = λ r. Feeding (run (session_of c.args.r c.args.lits.now c.args.falses.now.plus c.args.falses.now.minus (spelled c.args.t c.args.rows.now c.args.pool.now c.args.stack.now)) c.args.part.now) c.args.part.now c.take_bytes-taken.result.from c.loop-i.table c.loop-i.rows c.loop-i.pool c.args.stack.now r c.loop-i.lits c.loop-i.falses.plus c.loop-i.falses.minus in
    let here : FeedingBy c.with_word-reader.result = subst FeedingBy (sym c.with_word-reader.ensures) (past_word c.loop-i.invariant c.if-reader.false c.take_bytes-taken.ensures) in
    fed_all here (omega (arith, c.if-i-part.true))
