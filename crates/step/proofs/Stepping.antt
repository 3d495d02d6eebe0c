-- From a frame's application to what a frame's words come to.
use mathlib.Core.Path.{◌≡◌, refl, sym, ◌∙◌, ap}
use mathlib.Core.List.{List}
use Prim.Native.Nat.{ℕ, ◌+◌, ◌-◌, ◌≤◌}
use native.Mathlib.Omega.{arith}
use lib.IntN.{ℤ}
use lib.ListN.{length, take, drop, length-take, length-drop}
use lib.Seq.{take_all}
use Rattle.rules.specs.Terms.{State}
use Rattle.rules.specs.Frames.{Frame, malformed, framed, parse, next}
use Rattle.rules.specs.Answers.{check, untouched, hands, settled, outcome}
use Rattle.rules.specs.declared.Fault.{Fault}
use Rattle.rules.specs.declared.Fault.TheVariants.{Malformed}
use Rattle.std.specs.Prelude.{Result, Ok, Err}
use Rattle.rules.specs.Results.{Check, Answer}
use Rattle.table.specs.Spelled.{Row, spelled, Fit, Same}
use Rattle.table.specs.declared.Table.{Table}
use Rattle.step_outcome.specs.Told.{answer_of, refused_with, changed_with, unless_refused, answered_with}
use Rattle.step_changes.specs.Applied.{Applied}
use Rattle.step_answers.specs.Answered.{AnswerOf}
use Rattle.step_outcome.specs.declared.Stepped.{Stepped}
use Rattle.step_outcome.specs.declared.Written.{Written}
use Rattle.step_outcome.specs.declared.Written.TheVariants.{Tables}
use Rattle.step.specs.Steps.{Steps, writes}

-- ---- the frame's lists, as slices of its words

abbrev part : ℕ → ℕ → List ℤ → List ℤ
part a b ws = take (b - a) (drop a ws)

rest_is : (a : ℕ) (ws : List ℤ) → part a (length ws) ws ≡ drop a ws
rest_is a ws = take_all (length ws - a) (drop a ws) (omega (arith, length-drop a ws))

pub short : (a b : ℕ) (ws : List ℤ) → length (part a b ws) ≤ b - a
short a b ws = omega (arith, length-take (b - a) (drop a ws))

module _ (a : ℕ) (ws : List ℤ) where
  -- one list, to the end
  pub one_list : (f : List ℤ → Frame) → parse ws ≡ framed (f (drop a ws)) → parse ws ≡ framed (f (part a (length ws) ws))
  one_list f e = rw (rest_is a ws) e

  -- two lists: n words, and the rest
  module _ (n : ℕ) where
    pub two_lists : (f : List ℤ → List ℤ → Frame) → parse ws ≡ framed (f (take n (drop a ws)) (drop (a + n) ws)) →
        parse ws ≡ framed (f (part a (a + n) ws) (part (a + n) (length ws) ws))
    two_lists f e = let k : a + n - a ≡ n = omega arith in rw (k, rest_is (a + n) ws) e

    pub both_short : a + n ≤ length ws → (length (part a (a + n) ws) ≤ n) × (a + n + length (part (a + n) (length ws) ws) ≤ length ws)
    both_short h = (omega (arith, short a (a + n) ws), omega (arith, short (a + n) (length ws) ws))

-- ---- the records

-- SAT and UNSAT keep the state, whatever their check says
kept : (s : State) (f : Frame) → next s f ≡ s → (k : Check) → (settled s f k).state ≡ s
kept s f q (Ok tt) = q
kept s f q (Err e) = refl

module _ {t : Table} {rows : List Row} {pool : List ℤ} {stack : List ℕ} (fit : Fit t rows pool stack) where
  abbrev st : State
  st = spelled t rows pool stack

  unchanged : Same t rows pool stack t rows pool stack
  unchanged = record { table = refl; same_rows = refl; same_pool = refl; same_stack = refl }

  -- an answer that hands out no model
  pub answered_only : {f : Frame} {r : Answer} {model : List ℕ} → hands st f ≡ untouched → r ≡ answer_of (check st f) →
      AnswerOf t rows pool stack f r model model
  answered_only {f} {r} {model} h e = by_check (check st f) refl
    where
      by_check : (k : Check) → check st f ≡ k → AnswerOf t rows pool stack f r model model
      by_check (Ok tt) q = record { answered = rw (q, h) (e ∙ ap answer_of q); handed = rw (q, h) refl }
      by_check (Err g) q = record { answered = rw q (e ∙ ap answer_of q); handed = rw q refl }

  module _ {ws : List ℤ} {model : List ℕ} where
    pub no_frame : parse ws ≡ malformed → Steps t rows pool stack ws (refused_with Malformed t) rows pool stack model model
    unfolding outcome
    no_frame p = record { answered = rw p; fit = fit; state = rw p; handed = rw p refl; told = refl; left = λ n. unchanged }

    -- a frame that writes and hands nothing out
    pub applied : {f : Frame} → parse ws ≡ framed f → hands st f ≡ untouched → writes (framed f) ≡ Tables →
        (r : Result Table Fault) {rows' : List Row} {pool' : List ℤ} {stack' : List ℕ} →
        Applied t rows pool stack f r rows' pool' stack' → Steps t rows pool stack ws (changed_with r t) rows' pool' stack' model model
    unfolding outcome
    applied p h n (Ok t') (q, m) = record {
      answered = rw (p, q, h) refl;
      fit = m.fit;
      state = rw (p, q) m.state;
      handed = rw (p, q, h) refl;
      told = rw (p, n) refl;
      left = λ d. absurd (d refl);
    }
    applied p h n (Err e) (q, w) =
        let wr = w.same_rows in
        let wp = w.same_pool in
        let wk = w.same_stack in
        record {
          answered = rw (p, q) refl;
          fit = rw (wr, wp, wk) fit;
          state = rw (p, q, wr, wp, wk);
          handed = rw (p, q) refl;
          told = refl;
          left = λ d. w;
        }

    -- an answer that leaves the tables
    pub asked : {f : Frame} → parse ws ≡ framed f → next st f ≡ st → (w : Written) → writes (framed f) ≡ w → {r : Answer} {model' : List ℕ} →
        AnswerOf t rows pool stack f r model model' → Steps t rows pool stack ws (answered_with r w t) rows pool stack model model'
    unfolding outcome
    asked {f} p q w n a = record {
      answered = rw p a.answered;
      fit = fit;
      state = rw p (sym (kept st f q (check st f)));
      handed = rw p a.handed;
      told = rw (p, n) refl;
      left = λ d. unchanged;
    }
