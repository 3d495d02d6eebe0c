use mathlib.Core.List.{[]}
use mathlib.Core.Path.{◌≡◌}
use Prim.Native.Nat.{max}
use borrow.Author.Rules.{rules}
use native.Mathlib.Omega.{arith}
use borrow.Author.Count.{below_more}
use Rattle.table.proofs.Facts.{all_index, all_indexed}
use Rattle.lent_lawful.proofs.end_of.Goals as goal

pub loop-k-preserved : goal.loop-k-preserved
loop-k-preserved c =
    let l = c.loop-k in
    let larger : c.max-top.result ≡ max l.top c.end_at.result = search rules in (
      below_more _ l.k (λ j h. let i = l.invariant.0 j h in omega arith) (omega arith),
      λ t a. let i = all_index a l.k [] (omega arith) in let m = l.invariant.1 t a in omega arith,
    )

pub returns-clause-all_before : goal.returns-clause-all_before
returns-clause-all_before c = let l = c.loop-k in all_indexed c.args.rows.now [] (λ j h. l.invariant.0 j (omega arith))
