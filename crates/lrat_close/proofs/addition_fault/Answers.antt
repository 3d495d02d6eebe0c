use mathlib.Core.Path.{◌≡◌, sym, ◌∙◌}
use mathlib.Core.Bool.{true}
use mathlib.Core.List.{List}
use Prim.Native.Nat.{◌≤◌, ◌<◌}
use native.Mathlib.Omega.{arith}
use lib.IntN.{ℤ}
use lib.ListN.{length, take}
use lib.Seq.{length-take-le}
use Rattle.rules.specs.Terms.{is_clause}
use Rattle.rules.proofs.Checks.{flaw_clause}
use Rattle.lrat_close.proofs.Codes.{not_clause, bad_clause, old_id, new_id}
use Rattle.lrat_close.proofs.addition_fault.Goals as goal

pub returns-in-Err : goal.returns-in-Err
returns-in-Err c =
    let lits : List ℤ = take c.args.l.count c.args.lits.now in
    let low : 0 < c.args.l.id = omega (arith, c.if-l-eq0.false) in
    let high : c.args.l.id ≤ 2147483647 = omega (arith, c.if-l-gt2147483647.false) in
    λ t F v h. rw c.min-in-Err.ensures
    (bad_clause t c.args.l lits F low high
    (rw v (not_clause _ _ (sym c.flaw-flaw.ensures ∙ c.in-Err.is))))

pub returns-then-l-t : goal.returns-then-l-t
returns-then-l-t c =
    let lits : List ℤ = take c.args.l.count c.args.lits.now in
    let kept : length lits ≡ c.args.l.count = length-take-le c.args.l.count c.args.lits.now (omega (arith, c.requires.1.long, c.requires.1.few)) in
    let low : 0 < c.args.l.id = omega (arith, c.if-l-eq0.false) in
    let high : c.args.l.id ≤ 2147483647 = omega (arith, c.if-l-gt2147483647.false) in
    let good : is_clause c.args.t.vars lits ≡ true = flaw_clause _ 0 lits (omega (arith, kept, c.requires.1.few)) (sym c.flaw-flaw.ensures ∙ c.in_default.is) in
    λ t F v h. rw c.min-then-l-t.ensures (old_id t c.args.l lits F low high (rw v good) (rw h c.if-l-t.true))

pub returns : goal.returns
returns c =
    let lits : List ℤ = take c.args.l.count c.args.lits.now in
    let kept : length lits ≡ c.args.l.count = length-take-le c.args.l.count c.args.lits.now (omega (arith, c.requires.1.long, c.requires.1.few)) in
    let low : 0 < c.args.l.id = omega (arith, c.if-l-eq0.false) in
    let high : c.args.l.id ≤ 2147483647 = omega (arith, c.if-l-gt2147483647.false) in
    let good : is_clause c.args.t.vars lits ≡ true = flaw_clause _ 0 lits (omega (arith, kept, c.requires.1.few)) (sym c.flaw-flaw.ensures ∙ c.in_default.is) in
    λ t F v h. rw c.min-2.ensures (new_id t c.args.l lits F low high (rw v good) (rw h (omega (arith, c.if-l-t.false))))
