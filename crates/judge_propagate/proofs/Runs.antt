-- The hints in order: what is left of the paper's run at each hint.
use mathlib.Core.Path.{◌≡◌, sym, ◌∙◌}
use mathlib.Core.List.{List}
use Prim.Native.Nat.{ℕ, ◌+◌, ◌≤◌, ◌<◌}
use lib.IntN.{ℤ, pos, neg_ℤ}
use lib.ListN.{length, get_or, drop, drop_of_length-le}
use Rattle.rules.proofs.Lists.{from_index}
use Rattle.rules.specs.Terms.{Literals}
use Rattle.rules.specs.Propagation.{Named, nobody, clause, Allowed, named, read, judge, Run, ended, also, after, run}
use Rattle.rules.specs.declared.Verdict.{Verdict}
use Rattle.rules.specs.declared.Verdict.TheVariants.{Proved, BadHint, UsedUp}
use Rattle.judge_propagate.specs.Look.{HintRead}
use Rattle.judge_propagate.specs.declared.Looked.TheVariants.{Conflict, Forced, Bad}

-- before hint h, with F false and the verdict v so far
pub record Running (A : Allowed) (hints : List ℤ) (whole : Run) (F : Literals) (v : Verdict) (h : ℕ) : Type 0 where
  pub undecided : v ≡ UsedUp
  pub left : whole ≡ run A F h (drop h hints)

module _ {A : Allowed} {hints : List ℤ} {whole : Run} {F : Literals} {v : Verdict} {h : ℕ} (s : Running A hints whole F v h) where
  pub run_used_up : length hints ≤ h → ended v F ≡ whole
  unfolding run
  run_used_up e = let q = drop_of_length-le hints e in rw s.undecided (sym (rw q at s.left))

  module _ (lt : h < length hints) where
    here : (w : Named) → named A (get_or hints h (pos 0)) ≡ w → whole ≡ after (judge F w) h F (λ u. run A (also (neg_ℤ u) F) (h + 1) (drop (h + 1) hints))
    unfolding run
    here w e = let q = from_index hints h (pos 0) lt in (rw q at s.left) ∙ rw e

    pub run_nobody : named A (get_or hints h (pos 0)) ≡ nobody → ended (BadHint h) F ≡ whole
    run_nobody e = sym (here nobody e)

    module _ (c : List ℤ) (e : named A (get_or hints h (pos 0)) ≡ clause c) where
      module _ (G : Literals) where
        pub run_conflict : HintRead (read F c) F Conflict G → ended (Proved (h + 1)) G ≡ whole
        run_conflict r = let q = here (clause c) e in let k = r.0 in rw r.1 (sym (rw k at q))

        pub run_bad : HintRead (read F c) F Bad G → ended (BadHint h) G ≡ whole
        run_bad r = let q = here (clause c) e in let k = r.0 in rw r.1 (sym (rw k at q))

        pub run_forced : HintRead (read F c) F Forced G → Running A hints whole G v (h + 1)
        run_forced r = let q = here (clause c) e in let k = r.1 in record { undecided = s.undecided; left = rw r.2 (rw k at q) }
