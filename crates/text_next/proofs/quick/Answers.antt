use Rattle.std.proofs.Common.{arith, ltb, not, sym, refl, ◌/◌, ◌||◌, ◌∙◌, ◌≤◌}
use Rattle.rules.proofs.Lists.{not-false, or-false}
use Rattle.text_next.proofs.Short.{quick_told}
use Rattle.text_next.proofs.Tops.{low_bit_most, low_bit_place}
use borrow.Author.Tests.{ltb-false}
use Rattle.text_next.proofs.quick.Goals as goal

pub last_digits-e-requires : goal.last_digits-e-requires
last_digits-e-requires c = rw c.low_bit-bits.ensures (low_bit_most 8 c.eight-x.result)

pub returns : goal.returns
returns c =
    let bits = c.low_bit-bits.result in
    let are = c.are_digits.result in
    let l = or-false (ltb bits 8 || ltb 63 bits) (not are) c.if-bits-are_digits.false in
    let k = or-false (ltb bits 8) (ltb 63 bits) l.0 in
    let low : 8 ≤ bits = ltb-false bits 8 k.0 in
    let high : bits ≤ 63 = ltb-false 63 bits k.1 in
    let n = bits / 8 in
    let place = low_bit_place 8 _ _ c.low_bit-bits.ensures (omega arith) in
    let value = c.said_by-value.result in
    let sign = c.from-sign.result in
    let blank = c.is_blank.result in
    let b = or-false (not blank) (ltb value sign) c.if-is_blank-value.false in
    quick_told _ _ _ n c.requires (λ i. (c.type_inv.text i).fits) c.eight-x.ensures (omega arith) (omega arith)
    _ _ _ place (sym c.are_digits.ensures ∙ not-false l.1) c.said_by-value.ensures _ _ refl c.from-sign.ensures c.last_digits-e.ensures
    (sym c.is_blank.ensures ∙ not-false b.0) (ltb-false value sign b.1)
