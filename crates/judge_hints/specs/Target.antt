-- A target's literals made false one after the other, in the order in which the code reads them.
use Rattle.std.specs.Prelude.{false, cond, Option, Some, None, List, [], ◌∷◌, ℤ}
use Rattle.rules.specs.Terms.{Literals, opposes}
use Rattle.rules.specs.Propagation.{Allowed, also, run}
use Rattle.rules.specs.declared.Verdict.{Verdict}
use Rattle.rules.specs.declared.Verdict.TheVariants.{Proved}
use Rattle.lit_sets.specs.Words.{literals}
use Rattle.lit_sets.specs.declared.LitSet.{LitSet}

-- what a target comes to: it holds a literal and its opposite; else these literals are false
pub data Made : Type 0 where
  opposed : Made
  falses : Literals → Made

-- what the code hands on
abbrev pub made_of : Option LitSet → Made
made_of None = opposed
made_of (Some s) = falses (literals s)

-- no literal yet
abbrev pub none_false : Made
none_false = falses (λ l. false)

-- a literal more
abbrev pub deny : Made → ℤ → Made
deny opposed l = opposed
deny (falses F) l = cond (opposes F l) opposed (falses (also l F))

unfoldable pub make_false : Made → List ℤ → Made
make_false m [] = m
make_false m (l ∷ c) = make_false (deny m l) c

-- "it is proved and no hint is read. Else its literals are false"
abbrev pub verdict_on : Allowed → Made → List ℤ → Verdict
verdict_on A opposed hints = Proved 0
verdict_on A (falses F) hints = (run A F 0 hints).verdict
