-- What is left of WEAKEN's check behind the row of its clause, in the words that the code has of it: its literals, and the witness as a set.
use mathlib.Core.Path.{◌≡◌, sym, ◌∙◌, ap, ap₂}
use mathlib.Core.Bool.{Bool}
use mathlib.Core.List.{List}
use Prim.Native.Nat.{ℕ, ◌+◌}
use lib.IntN.{ℤ}
use lib.ListN.{length}
use Rattle.std.specs.Prelude.{Ok}
use Rattle.rules.specs.Lists.{any_passes, only}
use Rattle.rules.specs.Terms.{Literals, holds, State, fetch}
use Rattle.rules.specs.Propagation.{among}
use Rattle.rules.specs.Frames.{WEAKEN, without, needs_group}
use Rattle.rules.specs.Answers.{◌then◌, need, flaw, unseen, free_words, groups, check}
use Rattle.rules.specs.declared.Fault.TheVariants.{NoWitness}
use Rattle.rules.specs.Results.{Check}
use Rattle.table.specs.Spelled.{Row, row_at, clause_part, spelled, Fit}
use Rattle.table.specs.declared.Table.{Table}
use Rattle.judge_checks.specs.Located.{RowOf}
use Rattle.judge_checks.proofs.Located.{has_it, lits_are}
use Rattle.judge_checks.proofs.Order.{goes_on, met}

module _ {t : Table} {rows : List Row} {pool : List ℤ} {stack : List ℕ} (fit : Fit t rows pool stack) (i : ℕ) (witness ws : List ℤ) where
  abbrev st : State
  st = spelled t rows pool stack

  -- the groups, for the clause's literals and the witness
  abbrev groups_of : List ℤ → Literals → Check
  groups_of c W = let ds = without st.irredundant i in groups (among ds) c W (only (needs_group W) ds) (3 + length witness) ws

  module _ {k : ℕ} (row : RowOf t rows 0 i k) {c : List ℤ} (q : c ≡ clause_part pool (row_at rows k)) {W : Literals} (w : W ≡ holds witness) where
    lits : c ≡ (fetch st.irredundant i).lits
    lits = lits_are fit row q

    pub behind : flaw t.vars unseen 3 witness ≡ Ok tt → {b : Bool} → b ≡ any_passes W c →
        check st (WEAKEN i witness ws) ≡ (need b NoWitness then free_words st (length witness) then groups_of c W)
    unfolding check
    behind f {b} e =
        let spare = free_words st (length witness) in
        goes_on f _ ∙ goes_on (met (has_it fit row) _) _
        ∙ ap (λ a. need a NoWitness then spare then groups_of (fetch st.irredundant i).lits (holds witness)) (sym (e ∙ ap₂ any_passes w lits))
        ∙ ap (λ g. need b NoWitness then spare then g) (sym (ap₂ groups_of lits w))
