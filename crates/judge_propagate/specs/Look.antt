-- What a hint did, by what the paper says of it: which literals are false then.
use Rattle.std.specs.Prelude.{◌≡◌, ℤ, neg_ℤ}
use Rattle.rules.specs.Terms.{Literals}
use Rattle.rules.specs.Propagation.{also}
use Rattle.rules.specs.Propagation as paper
use Rattle.judge_propagate.specs.declared.Looked.{Looked}
use Rattle.judge_propagate.specs.declared.Looked.TheVariants.{Conflict, Forced, Bad}

-- where F was false, and G is after it
abbrev pub HintRead : paper.Looked → Literals → Looked → Literals → Type 0
HintRead q F Conflict G = (q ≡ paper.conflict) × (G ≡ F)
HintRead q F Forced G = (u : ℤ) × (q ≡ paper.forced u) × (G ≡ also (neg_ℤ u) F)
HintRead q F Bad G = (q ≡ paper.bad) × (G ≡ F)
