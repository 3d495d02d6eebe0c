-- `lent_load::load` meets its contract: of the rows lent, those held are loaded.
use mathlib.Core.Path.{◌≡◌, subst}
use mathlib.Core.List.{List}
use Prim.Native.Nat.{◌≤◌}
use native.Mathlib.Omega.{arith}
use lib.IntN.{ℤ}
use lib.ListN.{length, take}
use Rattle.table.specs.Spelled.{Row}
use Rattle.lent.specs.declared.Carried.{Carried}
use Rattle.lent_load.specs.Loads.{Loads}
use Rattle.std.specs.Prelude.{Option}
use Rattle.table.specs.declared.Table.{Table}
use Rattle.lent_load.proofs.Held.{too_many, stack_past, front_none, front_loads}
use Rattle.lent_load.proofs.load.Goals as goal

pub returns-then-rows-count : goal.returns-then-rows-count
returns-then-rows-count c = too_many c.args.c c.args.rows.now c.args.pool.now (omega (arith, c.if-rows-count.true, c.wide-count.ensures.0))

pub returns-then-stack_room-wide : goal.returns-then-stack_room-wide
returns-then-stack_room-wide c =
    stack_past c.args.c c.args.rows.now c.args.pool.now
    (omega (arith, c.if-rows-count.false, c.wide-count.ensures.0))
    (omega (arith, c.if-stack_room-wide.true, c.wide.ensures.0, c.stack_room.ensures.0, c.requires.0))

pub returns-in_err-t : goal.returns-in_err-t
returns-in_err-t c =
    let carried : Carried = c.args.c in
    let rows : List Row = c.args.rows.now in
    let pool : List ℤ = c.args.pool.now in
    let rows' : List Row = c.load_held.new.rows in
    let counted : c.wide-count.result ≡ carried.count = c.wide-count.ensures.0 in
    let count_lent : carried.count ≤ length rows = omega (arith, c.if-rows-count.false, counted) in
    let told : (r : Option Table) → c.load_held.result ≡ r → Loads carried (take carried.count rows) pool r rows' = λ r q. let e = counted in subst (λ r. Loads carried (take carried.count rows) pool r rows') q (rw e at c.load_held.ensures) in
    rw c.from_residual.ensures (front_none carried rows pool count_lent (told _ c.in_err-t.was))

pub returns : goal.returns
returns c =
    let carried : Carried = c.args.c in
    let rows : List Row = c.args.rows.now in
    let pool : List ℤ = c.args.pool.now in
    let rows' : List Row = c.load_held.new.rows in
    let counted : c.wide-count.result ≡ carried.count = c.wide-count.ensures.0 in
    let count_lent : carried.count ≤ length rows = omega (arith, c.if-rows-count.false, counted) in
    let kept : length rows' ≡ length (take carried.count rows) = let e = counted in rw e at c.load_held.auto.rows in
    let told : (r : Option Table) → c.load_held.result ≡ r → Loads carried (take carried.count rows) pool r rows' = λ r q. let e = counted in subst (λ r. Loads carried (take carried.count rows) pool r rows') q (rw e at c.load_held.ensures) in
    let e = counted in
    rw e (front_loads carried rows pool count_lent c.requires.0 c.stack_room.ensures.1 rows'
    kept _ (told _ c.in_ok-t.was))
