-- Checks in order: what is left when the first has passed or failed.
use mathlib.Core.Path.{◌≡◌, refl, ◌∙◌, ap}
use mathlib.Core.Bool.{Bool, true, false}
use Rattle.rules.specs.Answers.{◌then◌, need}
use Rattle.rules.specs.declared.Fault.{Fault}
use Rattle.rules.specs.Results.{Check}
use Rattle.std.specs.Prelude.{Result, Ok, Err, IsErrAnd}
use Rattle.std.proofs.lemmas.Result.{err_from_is_err_and}

pub goes_on : {a : Check} → a ≡ Ok tt → (b : Check) → (a then b) ≡ b
unfolding ◌then◌
goes_on e b = rw e

pub stops : {a : Check} {f : Fault} → a ≡ Err f → (b : Check) → (a then b) ≡ Err f
unfolding ◌then◌
stops e b = rw e

-- the first two together
pub in_two : (a b c : Check) → (a then b then c) ≡ ((a then b) then c)
unfolding ◌then◌
in_two (Ok tt) b c = refl
in_two (Err f) b c = refl

pub met : {b : Bool} → b ≡ true → (f : Fault) → need b f ≡ Ok tt
unfolding need
met e f = rw e

pub unmet : {b : Bool} → b ≡ false → (f : Fault) → need b f ≡ Err f
unfolding need
unmet e f = rw e

-- what `?` hands on: the fault that a check came to
pub handed_on : {T : Type 0} (r : Result T Fault) (e : Fault) → IsErrAnd r (λ x. x ≡ e) → r ≡ Err e
handed_on r e h = let p = err_from_is_err_and r h in p.1 ∙ ap Err p.2
