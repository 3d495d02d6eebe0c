-- `call_lrat_parts::is_reading` meets its contract.
use mathlib.Core.Path.{◌≡◌, refl, sym, ◌∙◌}
use mathlib.Core.Bool.{true}
use Prim.Native.Nat.{◌≤◌}
use native.Mathlib.Omega.{arith}
use lib.Dec.{leb}
use lib.ListN.{take}
use borrow.Author.Tests.{le-leb}
use Rattle.lit_clause.proofs.Faults.{ranged_in}
use Rattle.call_lrat_parts.proofs.Reading.{not_ranged}
use Rattle.call_lrat_parts.proofs.is_reading.Goals as goal

pub returns-in_default : goal.returns-in_default
returns-in_default c =
    let few : c.args.r.reader.line.count ≤ 256 = omega (arith, c.if-line-gt256.false) in
    let counted : leb c.args.r.reader.line.count 256 ≡ true = le-leb c.args.r.reader.line.count 256 few in
    let a = c.args.r in
    rw (counted, not_ranged 0 (take a.reader.line.count a.lits) _ (sym c.ranged.ensures ∙ c.in_default.is)) refl

pub returns : goal.returns
returns c =
    let few : c.args.r.reader.line.count ≤ 256 = omega (arith, c.if-line-gt256.false) in
    let counted : leb c.args.r.reader.line.count 256 ≡ true = le-leb c.args.r.reader.line.count 256 few in
    let a = c.args.r in
    rw (
      counted,
      ranged_in 2048 0 (take a.reader.line.count a.lits) (omega arith) (sym c.ranged.ensures
          ∙ c.in-Ok.is),
    ) refl
