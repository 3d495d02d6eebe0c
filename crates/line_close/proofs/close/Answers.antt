-- `line_close::close` meets its contract: each way out cites its laws in Replying.
use mathlib.Core.Path.{◌≡◌, sym, ◌∙◌}
use mathlib.Core.Bool.{true}
use Rattle.line_read.specs.Machine.{is_frame}
use Rattle.line_close.proofs.Replying.{close_framed}
use Rattle.line_close.proofs.close.Goals as goal

pub returns-then-is_framed-clause-closed : goal.returns-then-is_framed-clause-closed
returns-then-is_framed-clause-closed c =
    let a = c.args in
    let s = c.step-s.ensures in
    let framed : is_frame a.r.digits a.r.spoilt ≡ true = sym c.is_framed.ensures ∙ c.if-is_framed.true in
    close_framed a.t a.rows.now a.pool.now a.stack.now a.r a.frame.now c.requires.0.fit framed s c.put_reply-a.ensures
