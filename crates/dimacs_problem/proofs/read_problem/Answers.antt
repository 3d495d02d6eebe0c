use Rattle.std.proofs.Common.{[], sym, ◌∙◌, ◌∷◌}
use Rattle.dimacs_problem.proofs.Line.{behind_cnf, behind_p, cnf_read, not_cnf, not_p, p_read, spelled_inside}
use mathlib.Core.Bool.{and-false}
use Rattle.dimacs_problem.proofs.read_problem.Goals as goal

pub returns-then-not-is_p : goal.returns-then-not-is_p
returns-then-not-is_p c = not_p _ _ c.seek_first-p.ensures (sym c.is_p.ensures ∙ c.if-not-is_p.true)

pub seek-f-requires : goal.seek-f-requires
seek-f-requires c =
    spelled_inside c.args.text.now c.seek_first-p.result.at (112 ∷ []) c.seek_first-p.ensures.high (sym c.is_p.ensures ∙ c.if-not-is_p.false)

pub returns-then-f : goal.returns-then-f
returns-then-f c =
    p_read c.args.text.now c.seek_first-p.result c.seek_first-p.ensures (sym c.is_p.ensures ∙ c.if-not-is_p.false)
    ∙ not_cnf _ _ _ c.seek-f.ensures (rw c.if-f.true)

pub returns-then-not-is_cnf : goal.returns-then-not-is_cnf
returns-then-not-is_cnf c =
    let f = sym c.is_cnf.ensures ∙ c.if-not-is_cnf.true in
    p_read c.args.text.now c.seek_first-p.result c.seek_first-p.ensures (sym c.is_p.ensures ∙ c.if-not-is_p.false)
    ∙ not_cnf _ _ _ c.seek-f.ensures (rw (f, and-false))

pub read_vars-requires : goal.read_vars-requires
read_vars-requires c =
    spelled_inside c.args.text.now c.seek-f.result.at (99 ∷ 110 ∷ 102 ∷ []) c.seek-f.ensures.high (sym c.is_cnf.ensures ∙ c.if-not-is_cnf.false)

pub returns : goal.returns
returns c =
    let text = c.args.text.now in
    let p = sym c.is_p.ensures ∙ c.if-not-is_p.false in
    let cnf = sym c.is_cnf.ensures ∙ c.if-not-is_cnf.false in
    let said = p_read text c.seek_first-p.result c.seek_first-p.ensures p
    ∙ cnf_read text _ c.seek-f.result c.seek-f.ensures cnf c.if-f.false in
    let rest = behind_p text c.seek_first-p.result c.seek_first-p.ensures p ∙ behind_cnf text _ c.seek-f.result c.seek-f.ensures cnf in
    rw (said, rest) c.read_vars.ensures
