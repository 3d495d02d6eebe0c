use mathlib.Core.Path.{refl}
use native.Mathlib.Omega.{arith}
use borrow.Author.Tests.{ne_eqb, lt-leb, le-leb}
use Rattle.lrat.specs.Machine.{line_code}
use Rattle.lrat_close.proofs.line_code.Goals as goal

pub returns-then-l-eq4 : goal.returns-then-l-eq4
unfolding line_code
returns-then-l-eq4 c = λ F. let e = c.addition_code.ensures F in rw c.if-l-eq4.true e

pub returns-then-l-ne6 : goal.returns-then-l-ne6
unfolding line_code
returns-then-l-ne6 c =
    λ F. let p = c.args.l.phase in
    rw (ne_eqb p 4 c.if-l-eq4.false, ne_eqb p 6 c.if-l-ne6.true) refl

pub returns-then-l-lt37 : goal.returns-then-l-lt37
unfolding line_code
returns-then-l-lt37 c =
    λ F. let l = c.args.l in
    rw (c.if-l-ne6.false, lt-leb 37 l.noted c.if-l-lt37.true) refl

pub returns : goal.returns
unfolding line_code
returns c =
    λ F. let l = c.args.l in
    rw (c.if-l-ne6.false, le-leb 37 l.noted (omega (arith, c.if-l-lt37.false))) refl
