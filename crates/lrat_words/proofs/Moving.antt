-- What the bytes of a word, and the blank behind them, do to the machine's run.
use mathlib.Core.Path.{◌≡◌, refl, sym, ◌∙◌, ap}
use mathlib.Core.Bool.{true, false}
use mathlib.Core.List.{List, [], ◌∷◌, ◌++◌}
use Prim.Native.Nat.{ℕ, ◌+◌, ◌≤◌, ◌<◌}
use lib.Dec.{eqb}
use lib.ListN.{length, get_or, drop, drop_of_length-le}
use lib.Seq.{slice}
use borrow.Author.Tests.{eqb-true, ne_eqb}
use Rattle.rules.specs.Lists.{all_pass}
use Rattle.rules.proofs.Lists.{by_cases, true-false, not-true, from_index, all_head, all_tail}
use Rattle.text.specs.Words.{is_blank}
use Rattle.text.proofs.Slices.{slice_drop}
use Rattle.lrat.specs.Machine.{Session, push, pushes, end_word, close_line, move, run}
use Rattle.lrat.specs.declared.ProofWord.{ProofWord}
use Rattle.lrat_words.specs.Taken.{in_word, Pushed}

-- the same with another word on its way
abbrev pub with_word : ProofWord → Session → Session
with_word w m = record { word = w; reading = m.reading; lines = m.lines; over = m.over; code = m.code; state = m.state }

-- LF is a blank
no_end : (b : ℕ) → is_blank b ≡ false → eqb b 10 ≡ false
no_end b e = by_cases (eqb b 10) (λ t. let q = eqb-true b 10 t in true-false refl (rw q at e)) (λ n. n)

module _ (m : Session) (u : m.over ≡ false) (b : ℕ) where
  in_a_word : is_blank b ≡ false → move m b ≡ with_word (push m.word b) m
  unfolding move
  in_a_word n = let e = no_end b n in rw (u, n, e)

  -- the blank behind a word, LF or another
  pub at_blank : is_blank b ≡ true → (b ≡ 10 → ⊥) → move m b ≡ end_word m
  unfolding move
  at_blank n x = let e = ne_eqb b 10 x in rw (u, n, e)

  pub at_end : b ≡ 10 → move m b ≡ close_line (end_word m)
  unfolding move
  at_end e = rw (u, e)

-- bytes of a word, one after the other
run_word : (bs more : List ℕ) → all_pass in_word bs ≡ true → (m : Session) → m.over ≡ false → run m (bs ++ more) ≡ run (with_word (pushes m.word bs) m) more
unfolding run pushes
run_word [] more a m u = refl
run_word (b ∷ bs) more a m u =
    let n = not-true (all_head in_word b bs a) in
    ap (λ x. run x (bs ++ more)) (in_a_word m u b n) ∙ run_word bs more (all_tail in_word b bs a) (with_word (push m.word b) m) u

-- the run from a place on, past the bytes of a word
pub run_pushed : {part : List ℕ} {from to : ℕ} {w : ProofWord} (m : Session) → m.over ≡ false → Pushed part from m.word to w →
    run m (drop from part) ≡ run (with_word w m) (drop to part)
run_pushed {part} {from} {to} {w} m u p =
    ap (run m) (slice_drop from to part p.low p.high)
    ∙ run_word (slice from to part) (drop to part) p.no_blank m u
    ∙ ap (λ x. run (with_word x m) (drop to part)) (sym p.read)

-- and past the byte at it
pub run_next : (part : List ℕ) (i : ℕ) (m : Session) → i < length part → run m (drop i part) ≡ run (move m (get_or part i 0)) (drop (i + 1) part)
unfolding run
run_next part i m h = ap (run m) (from_index part i 0 h)

pub run_end : (part : List ℕ) (i : ℕ) (m : Session) → length part ≤ i → run m (drop i part) ≡ m
unfolding run
run_end part i m h = let e = drop_of_length-le part h in rw e
