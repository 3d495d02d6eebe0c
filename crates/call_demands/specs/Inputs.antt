-- An input given in parts, from an opening on: what was taken of it, and what was written for it.
use Rattle.std.specs.Prelude.{◌≡◌, false, List, [], ◌++◌, ℕ, ℤ, length, take}
use Rattle.std.specs.Prelude.{Ok, Err}
use Rattle.lent_entries.specs.declared.Entry.{Entry}
use Rattle.lent.specs.declared.Carried.{Carried}
use Rattle.lent.specs.declared.Called.{Called}
use Rattle.line_read.specs.declared.Reader.{Reader}
use Rattle.call_step.specs.Calls.{Opening}
use Rattle.call_give.specs.Giving.{Giving}
use Rattle.call_give.specs.declared.Given.{Given}

-- the bytes taken and the bytes written so far, over tables opened with V = vars, n entries and w words: any parts, any buffers, refused calls too
pub data Parts (vars n w : ℕ) : List ℕ → List ℕ → List Entry → List ℤ → Carried → Reader → List ℤ → Type 0 where
  no_part : (entries : List Entry) (pool : List ℤ) (o : Called) → length entries ≡ n → length pool ≡ w → Opening vars entries pool o → o.answer ≡ Ok 0 →
      (r : Reader) → (r.digits ≡ 0) × (r.word ≡ 0) × (r.spoilt ≡ false) → (frame : List ℤ) → Parts vars n w [] [] entries pool o.carried r frame
  then_part : {taken written : List ℕ} {entries : List Entry} {pool : List ℤ} {c : Carried} {r : Reader} {frame : List ℤ} →
      Parts vars n w taken written entries pool c r frame →
      (part out : List ℕ) (q : Given) (entries' : List Entry) (pool' : List ℤ) (frame' : List ℤ) (out' : List ℕ) →
      Giving entries pool c r frame part out q entries' pool' frame' out' →
      Parts vars n w (taken ++ take q.taken part) (written ++ take q.written out') entries' pool' q.carried q.reader frame'
