-- Document 01, "Sixteen marked outcomes": one list. That the definitions give them is proved in proofs/Outcomes.
use Rattle.std.specs.Prelude.{cond, List, [], ◌∷◌, ◌++◌, map, ℕ, zero, suc, ℤ, pos, neg_ℤ}
use Rattle.std.proofs.Math.Option.{Option, none, some}
use Rattle.rules.specs.Terms.{Assignment, State}
use Rattle.rules.specs.Answers.{numbers, Handed, untouched, mended, outcome, opened}

-- a frame's words: n ⊞ puts the word n in front, n ⊟ the word -n
infixr 30 ◌⊞◌
abbrev pub ◌⊞◌ : ℕ → List ℤ → List ℤ
n ⊞ ws = pos n ∷ ws

infixr 30 ◌⊟◌
abbrev pub ◌⊟◌ : ℕ → List ℤ → List ℤ
n ⊟ ws = neg_ℤ (pos n) ∷ ws

-- ---- what is said to frames

-- the true ones of the variables 1 to n
unfoldable pub trues : Assignment → ℕ → List ℕ → List ℕ
trues α zero vs = vs
trues α (suc n) vs = trues α n (cond (α (suc n)) (suc n ∷ vs) vs)

abbrev pub model_of : ℕ → Handed → Option (List ℕ)
model_of vars untouched = none
model_of vars (mended α β) = some (trues β vars [])

pub record Said : Type 0 where
  pub code : ℕ
  pub detail : ℕ
  pub model : Option (List ℕ)

unfoldable pub said : State → List (List ℤ) → List Said
said s [] = []
said s (ws ∷ more) =
    let o = outcome s ws in
    record { code = (numbers o.answer).0; detail = (numbers o.answer).1; model = model_of s.vars o.handed } ∷ said o.state more

-- ---- the outcomes

-- what is to be said to the frames, after those before them, which are accepted; from an opening with V = 2,048
pub record Marked : Type 0 where
  pub before : List (List ℤ)
  pub frames : List (List ℤ)
  pub expected : List Said

abbrev pub says : ℕ → ℕ → Said
says c d = record { code = c; detail = d; model = none }

abbrev pub models_are : ℕ → List ℕ → Said
models_are d vs = record { code = 0; detail = d; model = some vs }

abbrev pub answers : Marked → List Said
answers m = said (opened 2048 1024 8192) (m.before ++ m.frames)

abbrev pub expected_of : Marked → List Said
expected_of m = map (λ ws. says 0 0) m.before ++ m.expected

abbrev pub marked : List (List ℤ) → List (List ℤ) → List Said → Marked
marked before frames expected = record { before = before; frames = frames; expected = expected }

-- "ADD 1 (1 3), ADD 2 (2 -3), LEARN 3 (1 2) hints 1 2, PROMOTE 3, WEAKEN 1 witness 3 with group 2,1,3, WEAKEN 2 witness -3"
abbrev pub state_E : List (List ℤ)
state_E =
    (1 ⊞ 1 ⊞ 1 ⊞ 3 ⊞ []) ∷ (1 ⊞ 2 ⊞ 2 ⊞ 3 ⊟ []) ∷ (2 ⊞ 3 ⊞ 2 ⊞ 1 ⊞ 2 ⊞ 1 ⊞ 2 ⊞ []) ∷ (4 ⊞ 3 ⊞ []) ∷ (6 ⊞ 1 ⊞ 1 ⊞ 3 ⊞ 2 ⊞ 1 ⊞ 3 ⊞ []) ∷ (6 ⊞ 2 ⊞ 1 ⊞ 3 ⊟ []) ∷ []

-- "ADD 1 (1 2), ADD 2 (-2 3), LEARN 3 (1 2) hint 1, WEAKEN 1 witness 1, WEAKEN 2 witness -2, PROMOTE 3"
abbrev pub state_G : List (List ℤ)
state_G = (1 ⊞ 1 ⊞ 1 ⊞ 2 ⊞ []) ∷ (1 ⊞ 2 ⊞ 2 ⊟ 3 ⊞ []) ∷ (2 ⊞ 3 ⊞ 2 ⊞ 1 ⊞ 2 ⊞ 1 ⊞ []) ∷ (6 ⊞ 1 ⊞ 1 ⊞ 1 ⊞ []) ∷ (6 ⊞ 2 ⊞ 1 ⊞ 2 ⊟ []) ∷ (4 ⊞ 3 ⊞ []) ∷ []

unfoldable pub sixteen : List Marked
sixteen =
    marked [] state_E (says 0 0 ∷ says 0 0 ∷ says 0 0 ∷ says 0 0 ∷ says 0 0 ∷ says 0 0 ∷ [])
    ∷ marked state_E ((1 ⊞ 4 ⊞ 1 ⊟ []) ∷ []) (says 0 0 ∷ [])
    ∷ marked state_E ((1 ⊞ 4 ⊞ 3 ⊟ []) ∷ []) (says 5 1 ∷ [])
    ∷ marked state_E ((7 ⊞ 1 ⊞ []) ∷ []) (says 5 2 ∷ [])
    ∷ marked state_E ((7 ⊞ 2 ⊞ []) ∷ (7 ⊞ 1 ⊞ []) ∷ []) (says 0 0 ∷ says 0 0 ∷ [])
    ∷ marked state_E ((8 ⊞ 0 ⊞ 2 ⊞ []) ∷ []) (models_are 1 (2 ∷ 3 ∷ []) ∷ [])
    ∷ marked state_E ((8 ⊞ 0 ⊞ 1 ⊞ []) ∷ []) (models_are 0 (1 ∷ []) ∷ [])
    ∷ marked state_E ((8 ⊞ 1 ⊞ 3 ⊟ 2 ⊞ []) ∷ []) (says 5 1 ∷ [])
    ∷ marked state_E ((8 ⊞ 0 ⊞ []) ∷ []) (says 10 3 ∷ [])
    ∷ marked state_G ((8 ⊞ 0 ⊞ 2 ⊞ []) ∷ []) (models_are 2 (1 ∷ []) ∷ [])
    ∷ marked ((1 ⊞ 1 ⊞ 1 ⊞ 3 ⊞ []) ∷ (1 ⊞ 2 ⊞ 2 ⊞ 3 ⊟ []) ∷ []) ((6 ⊞ 1 ⊞ 1 ⊞ 3 ⊞ 2 ⊞ 0 ⊞ []) ∷ []) (says 8 2 ∷ [])
    ∷ marked ((1 ⊞ 1 ⊞ 1 ⊞ 2 ⊞ []) ∷ (1 ⊞ 2 ⊞ 1 ⊟ 2 ⊟ []) ∷ []) ((6 ⊞ 1 ⊞ 1 ⊞ 1 ⊞ 2 ⊞ 0 ⊞ []) ∷ []) (says 0 0 ∷ [])
    ∷ marked [] ((9 ⊞ 2 ⊞ 4 ⊞ 4 ⊟ []) ∷ []) (says 0 0 ∷ [])
    ∷ marked ((1 ⊞ 1 ⊞ []) ∷ []) ((6 ⊞ 1 ⊞ 1 ⊞ 1 ⊞ []) ∷ []) (says 6 0 ∷ [])
    ∷ marked ((1 ⊞ 1 ⊞ 1 ⊞ 2 ⊞ []) ∷ (2 ⊞ 2 ⊞ 2 ⊞ 1 ⊞ 2 ⊞ 1 ⊞ []) ∷ []) ((5 ⊞ 1 ⊞ 2 ⊞ []) ∷ []) (says 7 2 ∷ [])
    ∷ marked [] ((1 ⊞ 1 ⊞ 1 ⊞ 1 ⊞ []) ∷ []) (says 3 3 ∷ [])
    ∷ []
