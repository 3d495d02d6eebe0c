-- Each row of the table of the nine frames, and the head that stands for it.
use mathlib.Core.Path.{◌≡◌, refl, sym, ap}
use mathlib.Core.Bool.{true, false, ◌&&◌}
use mathlib.Core.List.{List}
use Prim.Native.Nat.{ℕ, zero, suc, ◌-◌, ◌≤◌, ◌<◌}
use native.Mathlib.Omega.{arith}
use lib.Dec.{eqb, leb}
use lib.IntN.{ℤ, pos, negsuc}
use lib.ListN.{length, get_or, get_or-eq_default}
use borrow.Author.Tests.{lt-ltb, le-leb, lt-leb, leb-true}
use Rattle.rules.specs.Frames.{Frame, FORGET, PROMOTE, RESTORE, Parsed, malformed, framed, framed_if, word, number, positive, id_row, listed_row}
use Rattle.rules.specs.Frames.{assuming_row, rows, least_words, parse}
use Rattle.rules.specs.Lists.{all_pass}
use Rattle.rules.proofs.Lists.{by_cases, all_index}
use Rattle.step_frame.specs.Head.{row, CountsWords, frame_by, pair, HeadInside, Reads}
use Rattle.step_frame.specs.declared.Head.{Head}
use Rattle.step_frame.specs.declared.Head.TheVariants as head
use Rattle.std.specs.Prelude.{Option, Some, None}

-- ---- words

positive_is : (x : ℤ) → 0 < number x → positive x ≡ true
positive_is (pos n) h = lt-ltb 0 n h
positive_is (negsuc n) h = absurd (omega arith)

-- a word that is not positive names no clause
not_positive : (x : ℤ) → number x ≡ 0 → positive x ≡ false
not_positive (pos n) e = rw e
not_positive (negsuc n) e = refl

-- ---- rows

module _ (ws : List ℤ) where
  no_frame : (p : Parsed) → p ≡ malformed → Reads p ws None
  no_frame p e = record { frame = e; inside = tt }

  module _ (i : ℕ) (new : 0 < i) (e : i ≡ number (word ws 1)) where
    named : positive (word ws 1) ≡ true
    named = positive_is (word ws 1) (omega arith)

    pub add_reads : 2 ≤ length ws → length ws ≤ 258 → i ≤ 2147483647 → Reads (row 1 ws) ws (Some (head.Add i))
    unfolding framed_if
    add_reads h k l = record { frame = let n = named in let m = le-leb (length ws - 2) 256 (omega arith) in rw (n, m, e); inside = (h, k, l) }

    pub add_long : 258 < length ws → Reads (row 1 ws) ws None
    unfolding framed_if
    add_long h = no_frame (row 1 ws) (let n = named in let m = lt-leb (length ws - 2) 256 (omega arith) in rw (n, m))

    pub drop_reads : 2 ≤ length ws → length ws ≤ 4096 → Reads (row 5 ws) ws (Some (head.Drop i))
    unfolding framed_if
    drop_reads h k = record { frame = let n = named in rw (n, e); inside = (h, k) }

    pair_reads : (f : ℕ → Frame) (h : Head) → frame_by h ws ≡ f i → HeadInside h (length ws) → Reads (id_row f ws) ws (pair (length ws) h)
    unfolding framed_if
    pair_reads f h q k = let n = named in by_cases (eqb (length ws) 2)
        (λ t. rw t (record { frame = rw (n, ← e) (ap framed (sym q)); inside = k }))
        (λ t. rw t (no_frame _ (rw n)))

    pub forget_reads : Reads (row 3 ws) ws (pair (length ws) (head.Forget i))
    forget_reads = pair_reads FORGET (head.Forget i) refl tt

    pub promote_reads : Reads (row 4 ws) ws (pair (length ws) (head.Promote i))
    promote_reads = pair_reads PROMOTE (head.Promote i) refl tt

    pub restore_reads : Reads (row 7 ws) ws (pair (length ws) (head.Restore i))
    restore_reads = pair_reads RESTORE (head.Restore i) refl tt

    pub learn_reads : (n : ℕ) → CountsWords 0 ws 2 (Some n) → length ws ≤ 4096 → i ≤ 2147483647 → Reads (row 2 ws) ws (Some (head.Learn i n))
    unfolding framed_if
    learn_reads n k m l = record { frame = let a = named in let b = k.0 in let c = k.1 in rw (a, b, c, ← e); inside = (k.2, k.3, m, l) }

    pub weaken_reads : (n : ℕ) → CountsWords 1 ws 2 (Some n) → length ws ≤ 4096 → Reads (row 6 ws) ws (Some (head.Weaken i n))
    unfolding framed_if
    weaken_reads n k m = record { frame = let a = named in let b = k.0 in let c = k.1 in rw (a, b, c, ← e); inside = (k.2, k.3, m) }

    pub unlisted : (least : ℕ) (f : ℕ → List ℤ → List ℤ → Frame) → CountsWords least ws 2 None → Reads (listed_row least f ws) ws None
    unfolding framed_if
    unlisted least f k = no_frame (listed_row least f ws) (let n = named in rw (n, k))

  pub sat_reads : (n : ℕ) → CountsWords 0 ws 1 (Some n) → length ws ≤ 4096 → Reads (row 8 ws) ws (Some (head.Sat n))
  unfolding framed_if
  sat_reads n k m = record { frame = let b = k.0 in let c = k.1 in rw (b, c); inside = (k.2, k.3, m) }

  pub unsat_reads : (n : ℕ) → CountsWords 0 ws 1 (Some n) → length ws ≤ 4096 → Reads (row 9 ws) ws (Some (head.Unsat n))
  unfolding framed_if
  unsat_reads n k m = record { frame = let b = k.0 in let c = k.1 in rw (b, c); inside = (k.2, k.3, m) }

  pub unassuming : (f : List ℤ → List ℤ → Frame) → CountsWords 0 ws 1 None → Reads (assuming_row f ws) ws None
  unfolding framed_if
  unassuming f k = no_frame (assuming_row f ws) (rw k)

  -- the row of an operation by its number
  pub row_of : (op k : ℕ) (h : Option Head) → op ≡ k → Reads (row k ws) ws h → Reads (row op ws) ws h
  row_of op k h e r = rw e r

  -- ---- the whole table

  -- word 1 is no id
  pub unnamed : (op : ℕ) → 1 ≤ op → op ≤ 7 → number (word ws 1) ≡ 0 → row op ws ≡ malformed
  unfolding framed_if
  unnamed zero h k e = refl
  unnamed (suc zero) h k e = let p = not_positive (word ws 1) e in rw p
  unnamed (suc (suc zero)) h k e = let p = not_positive (word ws 1) e in rw p
  unnamed (suc (suc (suc zero))) h k e = let p = not_positive (word ws 1) e in rw p
  unnamed (suc (suc (suc (suc zero)))) h k e = let p = not_positive (word ws 1) e in rw p
  unnamed (suc (suc (suc (suc (suc zero))))) h k e = let p = not_positive (word ws 1) e in rw p
  unnamed (suc (suc (suc (suc (suc (suc zero)))))) h k e = let p = not_positive (word ws 1) e in rw p
  unnamed (suc (suc (suc (suc (suc (suc (suc zero))))))) h k e = let p = not_positive (word ws 1) e in rw p
  unnamed (suc (suc (suc (suc (suc (suc (suc (suc n)))))))) h k e = absurd (omega arith)

  -- there is no operation 0, and none past the last
  pub no_operation : (op : ℕ) → op ≡ 0 → row op ws ≡ malformed
  no_operation op e = rw e

  pub unknown : (op : ℕ) → 9 < op → row op ws ≡ malformed
  unknown op h = ap (λ (f : List ℤ → Parsed). f ws) (get_or-eq_default rows (λ ws. malformed) {n = op} (omega arith))

  pub too_long : 4096 < length ws → Reads (parse ws) ws None
  unfolding parse
  too_long h =
      no_frame (parse ws) (let e = lt-leb (length ws) 4096 h in
      by_cases (leb (get_or least_words (number (word ws 0) - 1) 0) (length ws)) (λ t. rw (t, e)) (λ t. rw t))

  module _ (op : ℕ) (e : op ≡ number (word ws 0)) where
    pub too_short : length ws < get_or least_words (op - 1) 0 → Reads (parse ws) ws None
    unfolding parse
    too_short h = no_frame (parse ws) (let k = lt-leb (get_or least_words (op - 1) 0) (length ws) h in rw (← e, k))

    pub no_row : row op ws ≡ malformed → Reads (parse ws) ws None
    unfolding parse
    no_row h = no_frame (parse ws) (by_cases (leb (get_or least_words (op - 1) 0) (length ws) && leb (length ws) 4096) (λ t. rw (← e, t, h)) (λ t. rw (← e, t)))

    pub by_row : (h : Option Head) → get_or least_words (op - 1) 0 ≤ length ws → length ws ≤ 4096 → Reads (row op ws) ws h → Reads (parse ws) ws h
    unfolding parse
    by_row h enough few r =
        record {
          frame = let a = le-leb (get_or least_words (op - 1) 0) (length ws) enough in let b = le-leb (length ws) 4096 few in
              rw (← e, a, b) r.frame;
          inside = r.inside;
        }

  pub empty : length ws ≤ 0 → Reads (parse ws) ws None
  empty h = no_row 0 (let q = get_or-eq_default ws (pos 0) {n = 0} h in rw q) refl

-- every operation has at least 2 words
least_two : (op : ℕ) → 1 ≤ op → op ≤ 9 → 2 ≤ get_or least_words (op - 1) 0
unfolding all_pass
least_two op h k = leb-true 2 (get_or least_words (op - 1) 0) (all_index (leb 2) least_words (op - 1) 0 (omega arith) refl)

pub two_words : (ws : List ℤ) (op : ℕ) → 1 ≤ op → op ≤ 7 → get_or least_words (op - 1) 0 ≤ length ws → 2 ≤ length ws
two_words ws op h k l = omega (arith, least_two op h (omega arith))

-- of the two that assume
pub nine : (op : ℕ) → 8 ≤ op → op ≤ 9 → (op ≡ 8 → ⊥) → op ≡ 9
nine op h k n = omega arith
