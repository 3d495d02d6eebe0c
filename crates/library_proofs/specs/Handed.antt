-- What goes in and back over the archive's calls on proofs.
use Rattle.std.specs.Prelude.{Bool, not, cond, ℕ, eqb}
use Rattle.lrat.specs.declared.LratAnswer.{LratAnswer}
use Rattle.call_lrat_parts.specs.declared.ProofReading.{ProofReading}
use Rattle.library_back.specs.declared.Numbers.{Numbers}
use Rattle.library_proofs.specs.declared.ProofState.{ProofState}
use Rattle.library_proofs.specs.declared.ProofHanded.{ProofHanded}

-- ---- an answer

abbrev pub lrat_numbers : LratAnswer → Numbers
lrat_numbers a = record { code = a.code; detail = a.detail }

-- ---- what is read of a proof

abbrev pub is_set : ℕ → Bool
is_set x = not (eqb x 0)

abbrev pub reading_of : ProofState → ProofReading
reading_of s = record {
  reader =
      record {
        word = record { kind = s.kind; minus = is_set s.minus; value = s.value };
        line = record { phase = s.phase; noted = s.noted; id = s.id; count = s.count; proof = s.proof };
        lines = s.lines;
        over = is_set s.over;
        code = s.code;
      };
  lits = s.lits;
  falses = record { plus = s.plus; minus = s.minuses };
}

abbrev pub state_of : ProofReading → ProofState
state_of r = record {
  lines = r.reader.lines;
  value = r.reader.word.value;
  kind = r.reader.word.kind;
  minus = cond r.reader.word.minus 1 0;
  phase = r.reader.line.phase;
  noted = r.reader.line.noted;
  id = r.reader.line.id;
  count = r.reader.line.count;
  proof = r.reader.line.proof;
  over = cond r.reader.over 1 0;
  code = r.reader.code;
  spare = 0;
  lits = r.lits;
  plus = r.falses.plus;
  minuses = r.falses.minus;
}

-- ---- what goes back

abbrev pub handed : LratAnswer → ProofState → ProofHanded
handed a s = record { numbers = lrat_numbers a; state = s }

-- a refused opening, and a part that met no state, leave what is read word for word
abbrev pub handed_opening : LratAnswer → ProofReading → ProofState → ProofHanded
handed_opening a r before = handed a (cond (eqb a.code 0) (state_of r) before)

abbrev pub handed_part : LratAnswer → ProofReading → ProofState → ProofHanded
handed_part a r before = handed a (cond (eqb a.code 1) before (state_of r))
