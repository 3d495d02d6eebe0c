-- Numbers up to a 0, as the machine hears them: closed by it, or cut short by the line's end or by what is no number.
use mathlib.Core.Path.{◌≡◌, refl, ap}
use mathlib.Core.Bool.{Bool, true, false, not, cond}
use mathlib.Core.List.{List, [], ◌∷◌, ◌++◌, map}
use mathlib.Core.Option.{Option, none, some}
use Prim.Native.Nat.{ℕ, zero, suc}
use lib.Dec.{eqb}
use lib.IntN.{ℤ, pos, negsuc, nat_abs}
use borrow.Author.Tests.{ne_eqb}
use native.Mathlib.Omega.{arith}
use Rattle.rules.specs.Lists.{all_pass}
use Rattle.rules.proofs.Lists.{all_nil, all_cons}
use Rattle.text.specs.Words.{TextWord}
use Rattle.text_numbers.specs.Numbers.{integer_of}
use Rattle.lrat.specs.Lines.{Closed, ahead, by_number, up_to_zero, is_d}
use Rattle.lrat.specs.declared.LineWord.{LineWord}
use Rattle.lrat.specs.declared.LineWord.TheVariants.{Number, Deletion, Other}
use Rattle.lrat.proofs.Heard.{number_heard, heard_as, heard}
use Rattle.lrat.proofs.Fed.{heard_words}

abbrev pub nonzero : ℤ → Bool
nonzero z = not (eqb (nat_abs z) 0)

-- the words of numbers, none of them 0
abbrev pub numbers_heard : List ℤ → List LineWord
numbers_heard zs = map number_heard zs

abbrev pub zero_heard : LineWord
zero_heard = Number false 0

-- ---- closed

pub record ClosedBy (ws : List TextWord) (x : Closed) : Type 0 where
  pub same : heard_words ws ≡ numbers_heard x.numbers ++ (zero_heard ∷ heard_words x.behind)
  pub others : all_pass nonzero x.numbers ≡ true

-- ---- unclosed

-- the words end, or the next is no number
abbrev pub Stops : List LineWord → Type 0
Stops [] = Unit {0}
Stops (Number minus v ∷ ws) = ⊥
Stops (Deletion ∷ ws) = Unit {0}
Stops (Other ∷ ws) = Unit {0}

pub record Unclosed (ws : List TextWord) : Type 0 where
  pub numbers : List ℤ
  pub rest : List LineWord
  pub same : heard_words ws ≡ numbers_heard numbers ++ rest
  pub others : all_pass nonzero numbers ≡ true
  pub stops : Stops rest

-- ---- which of the two

abbrev pub Upto : List TextWord → Option Closed → Type 0
Upto ws none = Unclosed ws
Upto ws (some x) = ClosedBy ws x

stops_other : (d : Bool) (ws : List LineWord) → Stops (cond d Deletion Other ∷ ws)
stops_other true ws = tt
stops_other false ws = tt

suc_nonzero : (n : ℕ) → not (eqb (suc n) 0) ≡ true
suc_nonzero n = ap not (ne_eqb (suc n) 0 (λ z. omega arith))

-- a number that is not 0 before them
more : (w : TextWord) (ws : List TextWord) (z : ℤ) (u : Option Closed) → heard w.bytes ≡ number_heard z → nonzero z ≡ true → Upto ws u →
    Upto (w ∷ ws) (ahead z u)
more w ws z none e n r =
    record {
      numbers = z ∷ r.numbers;
      rest = r.rest;
      same = rw (e, r.same);
      others = all_cons nonzero z r.numbers n r.others;
      stops = r.stops;
    }
more w ws z (some x) e n r = record { same = rw (e, r.same); others = all_cons nonzero z x.numbers n r.others }

upto_word : (w : TextWord) (ws : List TextWord) (n : Option ℤ) (u : Option Closed) → integer_of w.bytes ≡ n → Upto ws u →
    Upto (w ∷ ws) (by_number n ws u)
upto_word w ws none u e r =
    record { numbers = []; rest = heard_words (w ∷ ws); same = refl; others = all_nil nonzero; stops = rw e (stops_other (is_d w.bytes) (heard_words ws)) }
upto_word w ws (some (pos zero)) u e r = record { same = rw e; others = all_nil nonzero }
upto_word w ws (some (pos (suc n))) u e r = more w ws (pos (suc n)) u (ap (λ x. heard_as x (is_d w.bytes)) e) (suc_nonzero n) r
upto_word w ws (some (negsuc n)) u e r = more w ws (negsuc n) u (ap (λ x. heard_as x (is_d w.bytes)) e) (suc_nonzero n) r

pub upto : (ws : List TextWord) → Upto ws (up_to_zero ws)
unfolding up_to_zero
upto [] = record { numbers = []; rest = []; same = refl; others = all_nil nonzero; stops = tt }
upto (w ∷ ws) = upto_word w ws (integer_of w.bytes) (up_to_zero ws) refl (upto ws)
