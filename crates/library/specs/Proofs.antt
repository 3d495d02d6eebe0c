-- What the archive's functions over proofs come to.
use Rattle.std.specs.Prelude.{◌≡◌, List, ℕ, ℤ}
use Rattle.lent.specs.declared.Carried.{Carried}
use Rattle.lent_entries.specs.declared.Entry.{Entry}
use Rattle.call_lrat.specs.Checks.{Checks}
use Rattle.call_lrat.specs.declared.LratCalled.{LratCalled}
use Rattle.library_back.specs.declared.Numbers.{Numbers}
use Rattle.call_lrat_parts.specs.Parts.{LratOpening, LratGiving}
use Rattle.call_lrat_parts.specs.declared.LratGiven.{LratGiven}
use Rattle.library_proofs.specs.Handed.{lrat_numbers, is_set, reading_of, handed_opening, handed_part}
use Rattle.library_proofs.specs.declared.ProofState.{ProofState}

-- ---- a proof whole

-- what the call promises, its answer as two numbers, and what is carried handed back
pub record CheckExported (entries : List Entry) (pool : List ℤ) (c : Carried) (cnf proof : List ℕ) (r : Numbers) (pool' : List ℤ) (c' : Carried) : Type 0 where
  pub called : LratCalled
  pub promised : Checks entries pool c cnf proof called pool'
  pub answered : r ≡ lrat_numbers called.answer
  pub handed_back : c' ≡ called.carried

-- ---- a proof in parts: what is read goes beside what is carried

pub record LratOpenExported (entries : List Entry) (pool : List ℤ) (c : Carried) (x : ProofState) (cnf : List ℕ) (r : Numbers) (entries' : List Entry)
    (pool' : List ℤ) (c' : Carried) (x' : ProofState) : Type 0 where
  pub given : LratGiven
  pub promised : LratOpening entries pool c (reading_of x) cnf given entries' pool'
  pub answered : r ≡ lrat_numbers given.answer
  pub handed_back : c' ≡ given.carried
  pub read_back : x' ≡ (handed_opening given.answer given.reading x).state

pub record LratGiveExported (entries : List Entry) (pool : List ℤ) (c : Carried) (x : ProofState) (part : List ℕ) (last : ℕ) (r : Numbers)
    (entries' : List Entry) (pool' : List ℤ) (c' : Carried) (x' : ProofState) : Type 0 where
  pub given : LratGiven
  pub promised : LratGiving entries pool c (reading_of x) part (is_set last) given entries' pool'
  pub answered : r ≡ lrat_numbers given.answer
  pub handed_back : c' ≡ given.carried
  pub read_back : x' ≡ (handed_part given.answer given.reading x).state
