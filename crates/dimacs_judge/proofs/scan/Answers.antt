use Rattle.std.proofs.Common.{[], arith, false, length, to_z-of_z, ◌<◌, ◌≡◌, ◌≤◌}
use Rattle.dimacs_judge.proofs.Scanning.{number_onward, scan_closed, scan_ended, scan_long, scan_on, scan_past, scan_twice, scan_unclosed, scan_wrong, scanning_none}
use Rattle.dimacs_judge.proofs.Words.{sign_fits, word_none}
use Rattle.dimacs_judge.proofs.scan.Goals.{else-loop-i-test, then-loop-i-test+in_default+then-at-text}
use Rattle.text.proofs.Words.{words_end}
use Rattle.text.specs.Words.{words_from}
use Rattle.dimacs_judge.proofs.scan.Goals as goal

pub loop-i-init : goal.loop-i-init
loop-i-init c = scanning_none c.requires

-- ---- a word that is no number

pub returns-in_default : goal.returns-in_default
returns-in_default c =
    let w = c.next_word-w in
    let inside : w.result.at < length c.args.text.now = omega (arith, c.if-at-text.false, w.ensures.high) in
    rw c.no_number.ensures
    (scan_wrong c.loop-i.invariant _ w.ensures inside _ (word_none _ _ _ _ (rw c.in_default.is at w.ensures.told)))

-- ---- a number

pub returns-then-from-value : goal.returns-then-from-value
returns-then-from-value c =
    scan_past c.loop-i.invariant _ c.next_word-w.ensures c.in-Some.is (omega (arith, c.if-from-value.true, c.from.ensures)) _

-- within V: reading stops there or not

pub returns-then-all : goal.returns-then-all
returns-then-all c =
    let w = c.next_word-w in
    let within : c.in-Some.read.value ≤ c.args.vars = omega (arith, c.if-from-value.false, c.from.ensures) in
    scan_twice c.loop-i.invariant _ w.ensures c.in-Some.is c.requires.few within _ _ c.if-all.true c.if-stops.ensures

pub returns-then-stops : goal.returns-then-stops
returns-then-stops c =
    let w = c.next_word-w in
    let within : c.in-Some.read.value ≤ c.args.vars = omega (arith, c.if-from-value.false, c.from.ensures) in
    scan_closed c.loop-i.invariant _ w.ensures c.in-Some.is c.requires.few within _ c.if-all.false c.if-stops.ensures

-- reading goes on

pub returns-then-n-eq257 : goal.returns-then-n-eq257
returns-then-n-eq257 c =
    let w = c.next_word-w in
    let within : c.in-Some.read.value ≤ c.args.vars = omega (arith, c.if-from-value.false, c.from.ensures) in
    scan_long c.loop-i.invariant _ w.ensures c.in-Some.is c.requires.few within _ c.if-stops.ensures _ c.longer-n.ensures.0
    (omega arith) _

pub loop-i-smaller : goal.loop-i-smaller
loop-i-smaller c =
    let e = number_onward c.loop-i.invariant _ c.next_word-w.ensures c.in-Some.is in
    omega (arith, e, c.loop-i-test.true)

pub loop-i-preserved : goal.loop-i-preserved
loop-i-preserved c =
    let w = c.next_word-w in
    let within : c.in-Some.read.value ≤ c.args.vars = omega (arith, c.if-from-value.false, c.from.ensures) in
    let small : c.in-Some.read.value ≤ 2048 = omega (arith, within, c.requires.few) in
    rw (c.literal_of.ensures, to_z-of_z (sign_fits c.in-Some.read.minus c.in-Some.read.value small))
    (scan_on c.loop-i.invariant _ w.ensures c.in-Some.is c.requires.few within _ c.if-stops.ensures _ c.longer-n.ensures.0 _
    c.from-stamp.ensures
    (λ e. omega arith))

-- ---- no word is left

pub returns-then-n-eq0 : goal.returns-then-n-eq0
returns-then-n-eq0 c =
    let none : words_from false c.loop-i.i c.args.text.now ≡ [] =
    elim c.loop-i-test.branch [
      | else-loop-i-test w ↦ words_end _ false _ w.loop-i-test.false
      | then-loop-i-test+in_default+then-at-text w ↦ w.next_word-w.ensures.last (omega (arith, w.if-at-text.true))
    ] in
    scan_ended c.loop-i.invariant none _ c.if-n-eq0.true

pub returns : goal.returns
returns c =
    let none : words_from false c.loop-i.i c.args.text.now ≡ [] =
    elim c.loop-i-test.branch [
      | else-loop-i-test w ↦ words_end _ false _ w.loop-i-test.false
      | then-loop-i-test+in_default+then-at-text w ↦ w.next_word-w.ensures.last (omega (arith, w.if-at-text.true))
    ] in
    scan_unclosed c.loop-i.invariant none _ c.if-n-eq0.false
