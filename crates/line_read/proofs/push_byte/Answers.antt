use Rattle.std.proofs.Common.{arith, ap, inl, inr, length, suc, take-suc-set, ◌+◌, ◌/◌, ◌<◌, ◌≡◌, ◌∙◌}
use Rattle.line_hex.proofs.Signed.{stored}
use Rattle.line_hex.specs.Hex.{digit, signed}
use Rattle.line_read.proofs.Reading.{push_digit, push_eighth, push_spoils, push_spoilt}
use Rattle.line_read.proofs.push_byte.Goals.{then-v-gt15-via-else-v-gt15+then-digits-eq32768, then-v-gt15-via-then-v-gt15}
use Rattle.line_read.specs.Machine.{roll}
use Rattle.line_read.proofs.push_byte.Goals as goal

pub returns-then-r-clause-moved : goal.returns-then-r-clause-moved
returns-then-r-clause-moved c = push_spoilt _ _ c.if-r.true

pub returns-then-v-gt15-clause-moved : goal.returns-then-v-gt15-clause-moved
returns-then-v-gt15-clause-moved c =
    push_spoils _ _ (c.value-v.ensures ∙ ap digit c.from.ensures) c.if-r.false
    (elim c.then-v-gt15.branch [
      | then-v-gt15-via-then-v-gt15 w ↦ inl (omega arith)
      | then-v-gt15-via-else-v-gt15+then-digits-eq32768 w ↦ inr w.if-digits-eq32768.true
    ])

pub returns-then-digits-eq7-clause-moved : goal.returns-then-digits-eq7-clause-moved
returns-then-digits-eq7-clause-moved c =
    let r = c.args.r in
    let frame = c.args.frame.now in
    let few : r.digits < 32768 = omega arith in
    let next : (r.digits + 1) / 8 ≡ suc (r.digits / 8) = omega (arith, c.if-digits-eq7.true) in
    let w = roll r.word c.value-v.result in
    let inside : r.digits / 8 < length frame = omega arith in
    rw (c.signed_of.ensures, stored w (omega arith), next, take-suc-set frame (r.digits / 8) (signed w) inside)
    (push_eighth _ _ (c.value-v.ensures ∙ ap digit c.from.ensures) c.if-r.false (omega arith) few c.if-digits-eq7.true)

pub returns-clause-moved : goal.returns-clause-moved
returns-clause-moved c =
    let r = c.args.r in
    let few : r.digits < 32768 = omega arith in
    let same : (r.digits + 1) / 8 ≡ r.digits / 8 = omega (arith, c.if-digits-eq7.false) in
    rw same (push_digit _ _ (c.value-v.ensures ∙ ap digit c.from.ensures) c.if-r.false (omega arith) few c.if-digits-eq7.false)
