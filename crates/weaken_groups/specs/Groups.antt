-- Which rows need a group, and what is left of the paper's groups at a word.
use Rattle.std.specs.Prelude.{◌≡◌, ℕ, ◌+◌, ◌-◌, ◌≤◌, Bool, ◌&&◌, List, ◌∷◌, ℤ, length, take, drop}
use Rattle.rules.specs.Terms.{Literals, Held}
use Rattle.rules.specs.Propagation.{Allowed, proves}
use Rattle.rules.specs.Frames.{without, needs_group, target}
use Rattle.rules.specs.Answers.{◌then◌, decided, groups}
use Rattle.rules.specs.Results.{Check}
use Rattle.std.specs.Prelude.{Result, Ok, Err}
use Rattle.rules.specs.declared.Fault.{Fault}
use Rattle.table.specs.Spelled.{Row, held, clauses}
use Rattle.judge_propagate.specs.Scope.{irredundant_but, permits}

-- "the irredundant clauses other than C", which has the id i
abbrev pub others : ℕ → List ℤ → List Row → List Held
others i pool rows = without (clauses 0 pool rows) i

-- the row is that of one of them, and it needs a group
unfoldable pub is_due : ℕ → List ℤ → Literals → Row → Bool
is_due i pool W r = permits (irredundant_but i) r && needs_group W (held pool r)

-- the hints of a group whose header is at word `at`, which end before `end`
abbrev pub hints_of : List ℤ → ℕ → ℕ → List ℤ
hints_of ws at end = take (end - (at + 2)) (drop (at + 2) ws)

-- the words ws start at word `from` of the frame
module _ (A : Allowed) (c : List ℤ) (W : Literals) (from : ℕ) (ws : List ℤ) where
  -- the groups of the clauses ds, from word `at` of ws on
  abbrev pub groups_at : List Held → ℕ → Check
  groups_at ds at = groups A c W ds (from + at) (drop at ws)

  -- behind the header of D's group: its hints, then the groups of ds
  abbrev pub hints_at : Held → List Held → ℕ → ℕ → Check
  hints_at D ds at end = decided (from + (at + 2)) D.id (proves A (target c W D.lits) (hints_of ws at end)) then groups_at ds end

-- a refusal, or what is left from the word on
abbrev pub onward : Result ℕ Fault → (ℕ → Check) → Check
onward (Ok n) left = left n
onward (Err f) left = Err f

-- the word to go on at lies between the two
abbrev pub Ahead : ℕ → ℕ → Result ℕ Fault → Type 0
Ahead least most (Ok n) = (least ≤ n) × (n ≤ most)
Ahead least most (Err f) = Unit {0}

-- the header, at word `at`, of the group of a clause D whose id is due: a refusal, or where its hints end. Whatever is left, it comes to that.
pub record Headed (from : ℕ) (ws : List ℤ) (at due : ℕ) (r : Result ℕ Fault) : Type 0 where
  pub says : (A : Allowed) (c : List ℤ) (W : Literals) (D : Held) (ds : List Held) → D.id ≡ due →
      groups_at A c W from ws (D ∷ ds) at ≡ onward r (hints_at A c W from ws D ds at)
  pub ahead : Ahead (at + 2) (length ws) r

-- the whole group of D
pub record Grouped (A : Allowed) (c : List ℤ) (W : Literals) (from : ℕ) (ws : List ℤ) (D : Held) (at : ℕ) (r : Result ℕ Fault) : Type 0 where
  pub says : (ds : List Held) → groups_at A c W from ws (D ∷ ds) at ≡ onward r (groups_at A c W from ws ds)
  pub ahead : Ahead (at + 2) (length ws) r
