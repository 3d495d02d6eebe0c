use Rattle.std.proofs.Common.{sym, ◌∙◌}
use Rattle.text_numbers.proofs.Saying.{goes_on_otherwise, no_digit, numeral_whole}
use Rattle.text_numbers.proofs.read_numeral.Goals as goal

pub returns-then-d-at : goal.returns-then-d-at
returns-then-d-at c = let d = c.digits-d.ensures in no_digit _ _ _ _ d.saying d.stops c.if-d-at.true

pub returns-then-not-is_behind : goal.returns-then-not-is_behind
returns-then-not-is_behind c =
    let d = c.digits-d.ensures in
    goes_on_otherwise _ _ _ _ d.saying d.stops (sym c.is_behind.ensures ∙ c.if-not-is_behind.true)

pub returns : goal.returns
returns c =
    let d = c.digits-d.ensures in
    numeral_whole _ _ _ _ d.saying (sym c.is_behind.ensures ∙ c.if-not-is_behind.false) c.if-d-at.false
