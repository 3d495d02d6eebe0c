-- What checking a proof that is read in parts comes to. What was read is no value, so the promises speak of some bytes: those that were fed.
use Rattle.std.specs.Prelude.{◌≡◌, Bool, cond, List, ◌++◌, ℕ, eqb, length}
use Rattle.std.specs.declared.io.Error.{Error}
use Rattle.rules.specs.Terms.{State}
use Rattle.dimacs.specs.Reading.{fault_numbers}
use Rattle.lrat.specs.Checking.{answer, check_proof, lrat}
use Rattle.lrat.specs.Machine.{Session, run, finish}
use Rattle.lrat.specs.declared.LratAnswer.{LratAnswer}
use Rattle.lrat.specs.declared.ProofReader.{ProofReader}
use Rattle.lrat_serve.specs.declared.Checked.{Checked}
use Rattle.lrat_serve.specs.declared.Checked.TheVariants.{Faulty, Known, Ended, Unread}

-- a part fed; one without bytes is the end of the proof
abbrev pub onward : Session → List ℕ → Session
onward m part = cond (eqb (length part) 0) (finish m) (run m part)

abbrev pub answer_of : ProofReader → LratAnswer
answer_of r = answer r.code (cond (eqb r.code 0) 0 r.lines)

-- there is an answer once it is over: at the end or before it
abbrev pub concluded : Bool → ProofReader → Error → Checked
concluded ended r reason = cond r.over (cond ended (Ended (answer_of r)) (Known (answer_of r))) (Unread reason)

-- against the clauses of a state: an answer that is known stays whatever follows, "nothing after the first empty clause is read"; one at the end is that of all
-- that was read; where a read failed nothing is told
abbrev pub Tells : State → List ℕ → Checked → Type 0
Tells s bs (Faulty f) = ⊥
Tells s bs (Known a) = (more : List ℕ) → a ≡ check_proof s (bs ++ more)
Tells s bs (Ended a) = a ≡ check_proof s bs
Tells s bs (Unread reason) = Unit

-- the same of both texts; a fault of the rules is the answer to any proof
abbrev pub Serves : List ℕ → List ℕ → Checked → Type 0
Serves cnf bs (Faulty f) = (proof : List ℕ) → answer (fault_numbers f).0 (fault_numbers f).1 ≡ lrat 1024 8192 cnf proof
Serves cnf bs (Known a) = (more : List ℕ) → a ≡ lrat 1024 8192 cnf (bs ++ more)
Serves cnf bs (Ended a) = a ≡ lrat 1024 8192 cnf bs
Serves cnf bs (Unread reason) = Unit
