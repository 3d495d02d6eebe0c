-- A proof given in parts, call after call, each handed what the one before handed out, while nobody else writes what is lent, carried and read.
use Rattle.std.specs.Prelude.{Bool, false, List, [], ◌∷◌, ℕ, ℤ}
use Rattle.lent.specs.declared.Carried.{Carried}
use Rattle.lent_entries.specs.declared.Entry.{Entry}
use Rattle.call_lrat_parts.specs.Parts.{LratOpening, LratGiving}
use Rattle.call_lrat_parts.specs.declared.ProofReading.{ProofReading}
use Rattle.call_lrat_parts.specs.declared.LratGiven.{LratGiven}

-- The parts, whether the last of them is told as the last, and what its call hands out. Every outcome that the promise of `give` allows may be a link.
pub data Gives : List Entry → List ℤ → Carried → ProofReading → List (List ℕ) → Bool → LratGiven → List Entry → List ℤ → Type 0 where
  one_part : {entries : List Entry} {pool : List ℤ} {c : Carried} {r : ProofReading} (part : List ℕ) (last : Bool) (q : LratGiven) (entries' : List Entry)
      (pool' : List ℤ) → LratGiving entries pool c r part last q entries' pool' → Gives entries pool c r (part ∷ []) last q entries' pool'
  then_parts : {entries : List Entry} {pool : List ℤ} {c : Carried} {r : ProofReading} (part : List ℕ) (g : LratGiven) (entries₁ : List Entry)
      (pool₁ : List ℤ) → LratGiving entries pool c r part false g entries₁ pool₁ →
      {parts : List (List ℕ)} {last : Bool} {q : LratGiven} {entries' : List Entry} {pool' : List ℤ} →
      Gives entries₁ pool₁ g.carried g.reading parts last q entries' pool' → Gives entries pool c r (part ∷ parts) last q entries' pool'

-- opened, then given
pub record ChecksInParts (entries : List Entry) (pool : List ℤ) (c : Carried) (r : ProofReading) (cnf : List ℕ) (parts : List (List ℕ)) (last : Bool)
    (q : LratGiven) (entries' : List Entry) (pool' : List ℤ) : Type 0 where
  pub first : LratGiven
  pub entries₁ : List Entry
  pub pool₁ : List ℤ
  pub opens : LratOpening entries pool c r cnf first entries₁ pool₁
  pub gives : Gives entries₁ pool₁ first.carried first.reading parts last q entries' pool'
