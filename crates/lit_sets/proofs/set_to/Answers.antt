-- Either the variable has the value already, or its bit alone is turned over.
use mathlib.Core.Path.{sym, ◌∙◌, ap}
use mathlib.Core.Bool.{not}
use native.Mathlib.Omega.{arith}
use Rattle.lit_sets.specs.Words.{assigned}
use Rattle.lit_sets.proofs.Assigned.{upd_same, turned_is, beq_true, beq_false}
use Rattle.lit_sets.proofs.set_to.Goals as goal

pub returns-then-value-b : goal.returns-then-value-b
returns-then-value-b c = upd_same (assigned c.args.words.now) c.args.v c.args.b (sym c.value.ensures ∙ beq_true _ _ c.if-value-b.true)

pub returns : goal.returns
returns c =
    let turns = ap not (sym c.value.ensures) ∙ beq_false c.value.result c.args.b c.if-value-b.false in
    turned_is c.args.words.now c.args.v c.args.b c.requires.0 (omega (arith, c.is_whole.ensures)) turns
