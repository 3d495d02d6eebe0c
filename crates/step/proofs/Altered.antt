-- A frame wrote the tables exactly where it was an accepted change.
use mathlib.Core.Path.{◌≡◌, refl, sym, ap, ◌∙◌}
use mathlib.Core.Bool.{false, true≢false}
use Rattle.rules.specs.Frames.{ADD, LEARN, FORGET, PROMOTE, DROP, WEAKEN, RESTORE, SAT, UNSAT, Parsed, malformed, framed}
use Rattle.rules.specs.Answers.{is_change, altered}
use Rattle.rules.specs.Results.{Answer}
use Rattle.std.specs.Prelude.{Ok, Err}
use Rattle.step_outcome.specs.Told.{unless_refused, is_tables}
use Rattle.step_outcome.specs.declared.Written.TheVariants.{Tables}
use Rattle.step.specs.Steps.{writes}

writes_change : (p : Parsed) → is_tables (writes p) ≡ is_change p
writes_change malformed = refl
writes_change (framed (ADD i c)) = refl
writes_change (framed (LEARN i c hints)) = refl
writes_change (framed (FORGET i)) = refl
writes_change (framed (PROMOTE i)) = refl
writes_change (framed (DROP i hints)) = refl
writes_change (framed (WEAKEN i w ws)) = refl
writes_change (framed (RESTORE i)) = refl
writes_change (framed (SAT assumed vs)) = refl
writes_change (framed (UNSAT assumed hints)) = refl

pub told_altered : (p : Parsed) (a : Answer) → is_tables (unless_refused (writes p) a) ≡ altered p a
told_altered p (Ok n) = writes_change p
told_altered p (Err e) = refl

pub unaltered : (p : Parsed) (a : Answer) → altered p a ≡ false → unless_refused (writes p) a ≡ Tables → ⊥
unaltered p a n e = true≢false (ap is_tables (sym e) ∙ told_altered p a ∙ n)
