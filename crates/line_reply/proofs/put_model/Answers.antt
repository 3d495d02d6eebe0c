use Rattle.std.proofs.Common.{arith, rules, ◌≡◌, ◌*◌, ◌+◌}
use Rattle.line_reply.proofs.Model.{spelling_start, spelling_room, spelling_true, spelling_false, spelling_past}
use Rattle.line_reply.proofs.put_model.Goals.{then-w-eq1, else-w-eq1, else-loop-b-test, then-loop-b-test+then-w-eq0}
use Rattle.line_reply.proofs.put_model.Goals as goal

pub loop-k-init : goal.loop-k-init
loop-k-init c = spelling_start _ _ _

pub put_number-a-requires : goal.put_number-a-requires
put_number-a-requires c =
    let l = c.loop-b in
    omega (arith, spelling_room _ _ l.invariant (search rules) (search rules), l.invariant.size)

pub loop-b-preserved : goal.loop-b-preserved
loop-b-preserved c =
    elim c.if-w-eq1.branch [
      | then-w-eq1 w ↦ rw (w.out-is, w.a-is) (spelling_true _ _ c.loop-b.invariant (search rules) (search rules) w.if-w-eq1.true w.put_number-a.auto.out w.put_number-a.ensures)
      | else-w-eq1 w ↦ rw (w.out-is, w.a-is) (spelling_false _ _ c.loop-b.invariant (search rules) (search rules) w.if-w-eq1.false)
    ]

pub loop-k-preserved : goal.loop-k-preserved
loop-k-preserved c =
    elim c.loop-b-test.branch [
      | else-loop-b-test w ↦ let all : 64 * c.loop-k.k + c.loop-b.b ≡ 64 * (c.loop-k.k + 1) = omega arith in let i = c.loop-b.invariant in rw all at i
      | then-loop-b-test+then-w-eq0 w ↦ spelling_past _ _ c.loop-b.invariant (search rules) (search rules) w.if-w-eq0.true
    ]
