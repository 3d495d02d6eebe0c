use Rattle.std.proofs.Common.{sym, ◌∙◌, arith}
use Rattle.lent_open.proofs.Opened.{unlent, no_vars, many_vars, opens}
use Rattle.lent_open.proofs.open_sized.Goals as goal

pub returns-then-vars-eq0 : goal.returns-then-vars-eq0
returns-then-vars-eq0 c =
    let a = c.args in
    let e = no_vars a.vars a.entries a.words (sym c.in_sizes.ensures ∙ c.if-in_sizes.true) c.if-vars-eq0.true in
    rw e c.unopened.ensures

pub returns-then-vars-gt2048 : goal.returns-then-vars-gt2048
returns-then-vars-gt2048 c =
    let a = c.args in
    let e = many_vars a.vars a.entries a.words (sym c.in_sizes.ensures ∙ c.if-in_sizes.true) c.if-vars-gt2048.true in
    rw e c.unopened-then-vars-gt2048.ensures

pub returns-then-in_sizes : goal.returns-then-in_sizes
returns-then-in_sizes c =
    let a = c.args in
    let e = opens a.vars a.entries a.words (sym c.in_sizes.ensures ∙ c.if-in_sizes.true) (omega arith) (omega arith) in
    rw (e, c.empty.ensures)

pub returns : goal.returns
returns c =
    let a = c.args in
    let e = unlent a.vars a.entries a.words (sym c.in_sizes.ensures ∙ c.if-in_sizes.false) in
    rw e c.unopened-2.ensures
