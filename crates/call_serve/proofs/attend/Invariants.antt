-- The buffers keep their sizes, and what was read since the start was fed.
use Rattle.std.proofs.Common.{◌≡◌, length}
use Rattle.call_serve.proofs.Reading.{Read}
use Rattle.call_serve.proofs.attend.Given as goal

abbrev pub invariant-loop : goal.invariant-loop
invariant-loop l =
    let s = l.initial in
    (65536 ≡ length l.buf) × (65536 ≡ length l.out) × (4096 ≡ length l.frame)
    × Read s.rows s.pool s.stack s.table l.rows l.pool l.stack l.frame l.reader l.table l.altered
