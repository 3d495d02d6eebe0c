-- `lent_lawful::is_lawful` meets its contract: the tests in the code's order.
use mathlib.Core.Path.{◌≡◌, sym, ◌∙◌, ap}
use mathlib.Core.Bool.{true}
use mathlib.Core.List.{List}
use native.Mathlib.Omega.{arith}
use lib.Dec.{eqb}
use lib.IntN.{ℤ}
use lib.ListN.{length}
use Rattle.rules.specs.Terms.{Held, is_clause, is_witness}
use Rattle.table.specs.Spelled.{Row, row_at, place_of, held}
use Rattle.lent_lawful.proofs.Rights.{lawful_no_clause, lawful_plain, lawful_record, lawful_nowhere}
use Rattle.lent_lawful.proofs.is_lawful.Goals as goal

pub returns-then-not-is_clause : goal.returns-then-not-is_clause
returns-then-not-is_clause c =
    let row : Row = row_at c.args.rows.now c.args.k in
    let its : Held = held c.args.pool.now row in
    sym (lawful_no_clause c.args.vars its (place_of row)
    (ap (is_clause c.args.vars) (sym c.clause_of-lits.ensures) ∙ sym c.is_clause.ensures ∙ c.if-not-is_clause.true))

pub returns-then-place-lt2 : goal.returns-then-place-lt2
returns-then-place-lt2 c =
    let row : Row = row_at c.args.rows.now c.args.k in
    let its : Held = held c.args.pool.now row in
    let lits_are : is_clause c.args.vars its.lits ≡ true = ap (is_clause c.args.vars) (sym c.clause_of-lits.ensures) ∙ sym c.is_clause.ensures ∙ c.if-not-is_clause.false in
    let w = c.witness_of-witness.ensures in
    ap (λ (z : List ℤ). eqb (length z) 0) w
    ∙ sym (lawful_plain c.args.vars its lits_are (place_of row) (omega (arith, c.if-place-lt2.true, c.place_at-place.ensures)))

pub returns-then-place-gt2 : goal.returns-then-place-gt2
returns-then-place-gt2 c =
    let row : Row = row_at c.args.rows.now c.args.k in
    let its : Held = held c.args.pool.now row in
    sym (lawful_nowhere c.args.vars its (place_of row) (omega (arith, c.if-place-gt2.true, c.place_at-place.ensures)))

pub returns : goal.returns
returns c =
    let row : Row = row_at c.args.rows.now c.args.k in
    let its : Held = held c.args.pool.now row in
    let lits_are : is_clause c.args.vars its.lits ≡ true = ap (is_clause c.args.vars) (sym c.clause_of-lits.ensures) ∙ sym c.is_clause.ensures ∙ c.if-not-is_clause.false in
    let v = c.clause_of-lits.ensures in
    let w = c.witness_of-witness.ensures in
    let p : place_of row ≡ 2 = omega (arith, c.if-place-gt2.false, c.if-place-lt2.false, c.place_at-place.ensures) in
    c.is_witness.ensures ∙ ap (λ z. is_witness c.args.vars z c.witness_of-witness.result.now) v
    ∙ ap (is_witness c.args.vars its.lits) w ∙ sym (lawful_record c.args.vars its lits_are (place_of row) p)
