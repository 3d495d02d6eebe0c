-- `lrat_fill::add_all` meets its contract: a frame and its clause a turn (Turns).
use Prim.Native.Nat.{◌≤◌}
use Rattle.std.specs.Prelude.{Some, None, Ok}
use Rattle.dimacs_frames.specs.Yields.{yields_into}
use Rattle.lrat_fill.proofs.Turns.{going_end, going_first, going_full, going_on}
use lib.IntN.{ℤ}
use lib.ListN.{length}
use mathlib.Core.List.{List}
use mathlib.Core.Path.{refl, sym, ◌∙◌, ◌≡◌}
use native.Mathlib.Omega.{arith}
use Rattle.lrat_fill.proofs.add_all.Goals as goal

pub loop-yielded-init : goal.loop-yielded-init
loop-yielded-init c = going_first c.requires _ refl

pub returns-in-Ok-None : goal.returns-in-Ok-None
returns-in-Ok-None c =
    let l = c.loop-yielded in
    let told : (Ok None, c.next.new.frame) ≡ yields_into c.args.text.now l.cursor l.frame = cc in
    going_end l.invariant l.frame _ (omega (arith, l.array_long)) _ told (λ n d e. cc)

pub returns-in-Err : goal.returns-in-Err
returns-in-Err c =
    let l = c.loop-yielded in
    going_end l.invariant l.frame _ (omega (arith, l.array_long)) _ c.in-Err.ensures (λ n d e. cc)

pub returns-then-code-ne0 : goal.returns-then-code-ne0
returns-then-code-ne0 c =
    let y = c.in-Ok-Some.yielded in
    let words : List ℤ = c.next.new.frame in
    let told : (Ok (Some y), words) ≡ yields_into c.args.text.now c.loop-yielded.cursor c.loop-yielded.frame = cc in
    let same_pool : length c.add-moved.new.pool ≡ length c.loop-yielded.pool = c.add-moved.auto.pool in
    let wide : 258 ≤ length c.loop-yielded.frame = omega (arith, c.loop-yielded.array_long) in
    going_full c.loop-yielded.invariant c.loop-yielded.frame words wide y.words y.behind told c.add-moved.result _ _ c.add-moved.ensures same_pool
    c.code-code.result (let e = c.changed-added.ensures in rw e at c.code-code.ensures) c.if-code-ne0.true

pub loop-yielded-preserved : goal.loop-yielded-preserved
loop-yielded-preserved c =
    let y = c.in-Ok-Some.yielded in
    let words : List ℤ = c.next.new.frame in
    let told : (Ok (Some y), words) ≡ yields_into c.args.text.now c.loop-yielded.cursor c.loop-yielded.frame = cc in
    let same_pool : length c.add-moved.new.pool ≡ length c.loop-yielded.pool = c.add-moved.auto.pool in
    let wide : 258 ≤ length c.loop-yielded.frame = omega (arith, c.loop-yielded.array_long) in
    let e = c.changed-added.ensures in
    let told_code = rw e at c.code-code.ensures in
    rw e (going_on c.loop-yielded.invariant c.loop-yielded.frame words wide y.words y.behind told c.add-moved.result _ _ c.add-moved.ensures same_pool
    (sym told_code ∙ omega arith))
