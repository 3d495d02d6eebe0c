use mathlib.Core.Path.{◌≡◌, refl, sym, ◌∙◌}
use mathlib.Core.Bool.{false}
use mathlib.Core.List.{List, []}
use native.Mathlib.Omega.{arith}
use lib.IntN.{ℤ}
use lib.ListN.{length, take}
use lib.Seq.{length-take-le}
use borrow.Author.Tests.{ne_eqb}
use Rattle.rules.specs.Terms.{Literals, State}
use Rattle.table.specs.Spelled.{spelled}
use Rattle.table.proofs.Readers.{count_held, gone_most, words_held}
use Rattle.table_write.specs.Moved.{NewClause}
use Rattle.lrat.specs.Kept.{read_with}
use Rattle.lrat.specs.Machine.{line_code, is_last, no_literal}
use Rattle.lrat_close.proofs.Codes.{goes_on, added}
use Rattle.lrat_close.proofs.Emptying.{emptied_fit, emptied_spelled}
use Rattle.lrat_close.proofs.close_line.Goals as goal

pub returns-then-is_last : goal.returns-then-is_last
returns-then-is_last c =
    let state : State = spelled c.args.t c.args.rows.now c.args.pool.now c.args.stack.now in
    let lits : List ℤ = take c.args.l.count c.args.lits.now in
    let kept : length lits ≡ c.args.l.count = length-take-le c.args.l.count c.args.lits.now (omega (arith, c.requires.1.long, c.requires.1.few)) in
    record {
      fit = rw c.emptied.ensures (emptied_fit c.requires.0 _ _ refl refl);
      coded = λ F. c.line_code-code.ensures F;
      known = λ F. sym c.if-is_last.true ∙ c.is_last.ensures lits F kept;
      state = λ F. rw c.emptied.ensures (emptied_spelled c.requires.0 c.args.rows.now _ refl);
    }

pub append-table-requires : goal.append-table-requires
append-table-requires c =
    let state : State = spelled c.args.t c.args.rows.now c.args.pool.now c.args.stack.now in
    let lits : List ℤ = take c.args.l.count c.args.lits.now in
    let kept : length lits ≡ c.args.l.count = length-take-le c.args.l.count c.args.lits.now (omega (arith, c.requires.1.long, c.requires.1.few)) in
    let passes : line_code state (read_with c.args.l lits no_literal) ≡ 0 = let r = read_with c.args.l lits no_literal in sym (c.line_code-code.ensures no_literal) ∙ goes_on _ r (sym (c.is_last.ensures lits no_literal kept) ∙ c.if-is_last.false) in
    let new_clause : NewClause c.args.t c.args.pool.now c.args.l.id lits = let f = c.requires.0 in let p = added state c.args.l lits no_literal c.requires.2 c.if-l-eq4.true passes in record { entry = omega (arith, p.entry, count_held f, gone_most f); words = omega (arith, p.words, words_held f); new = (p.new, p.small); clause = p.clause } in
    (c.requires.0, new_clause, omega arith)

pub returns-then-l-eq4 : goal.returns-then-l-eq4
returns-then-l-eq4 c =
    let state : State = spelled c.args.t c.args.rows.now c.args.pool.now c.args.stack.now in
    let lits : List ℤ = take c.args.l.count c.args.lits.now in
    let kept : length lits ≡ c.args.l.count = length-take-le c.args.l.count c.args.lits.now (omega (arith, c.requires.1.long, c.requires.1.few)) in
    let not_last : (F : Literals) → false ≡ is_last c.line_code-code.result (read_with c.args.l lits F) = λ F. sym c.if-is_last.false ∙ c.is_last.ensures lits F kept in
    let m = c.append-table.ensures [] in
    record {
      fit = m.fit;
      coded = λ F. c.line_code-code.ensures F;
      known = λ F. not_last F;
      state = λ F. rw c.if-l-eq4.true m.state;
    }

pub returns-else-l-eq4 : goal.returns-else-l-eq4
returns-else-l-eq4 c =
    let state : State = spelled c.args.t c.args.rows.now c.args.pool.now c.args.stack.now in
    let lits : List ℤ = take c.args.l.count c.args.lits.now in
    let kept : length lits ≡ c.args.l.count = length-take-le c.args.l.count c.args.lits.now (omega (arith, c.requires.1.long, c.requires.1.few)) in
    let not_last : (F : Literals) → false ≡ is_last c.line_code-code.result (read_with c.args.l lits F) = λ F. sym c.if-is_last.false ∙ c.is_last.ensures lits F kept in
    record {
      fit = c.requires.0;
      coded = λ F. c.line_code-code.ensures F;
      known = λ F. not_last F;
      state = λ F. rw (ne_eqb c.args.l.phase 4 c.if-l-eq4.false) refl;
    }
