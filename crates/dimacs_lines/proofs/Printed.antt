-- The frames of a text fit their lines: a clause is of at most 256 literals of at most 2,048, and ids go up to 2,147,483,647. So the program answers to the
-- lines of a text as to its frames.
use mathlib.Core.Path.{◌≡◌}
use mathlib.Core.Bool.{true}
use mathlib.Core.List.{List, [], ◌∷◌, map}
use mathlib.Core.Option.{some}
use Prim.Native.Nat.{ℕ, zero, suc, ◌+◌, ◌≤◌, ◌<◌}
use native.Mathlib.Omega.{arith}
use lib.IntN.{ℤ, pos, negsuc}
use lib.ListN.{length}
use borrow.Author.Tests.{lt-ltb, le-leb, ltb-true}
use Rattle.rules.specs.Lists.{all_pass}
use Rattle.rules.specs.Terms.{in_range, is_clause, State}
use Rattle.rules.proofs.Lists.{and_both, all_nil, all_cons, all_head, all_tail, all_at, all_of}
use Rattle.dimacs.specs.Reading.{sound, Cnf, read_text}
use Rattle.dimacs.specs.Frames.{add_frame, add_frames, frames_of}
use Rattle.dimacs.proofs.Lawful.{text_lawful}
use Rattle.dimacs.proofs.Bodies.{text_body}
use Rattle.dimacs.proofs.Writing.{clause_parts}
use Rattle.line_hex.specs.Hex.{is_word}
use Rattle.line_read.specs.Lines.{program}
use Rattle.line_read.specs.Parts.{replied}
use Rattle.dimacs_lines.specs.Lines.{fits_line, frame_lines}
use Rattle.dimacs_lines.proofs.ReadBack.{program_of_frames}

module _ (vars : ℕ) (h : vars ≤ 2048) where
  literal_word : (l : ℤ) → in_range vars l ≡ true → is_word l ≡ true
  literal_word (pos zero) r = lt-ltb 0 2147483648 (omega arith)
  literal_word (pos (suc n)) r = lt-ltb (suc n) 2147483648 (omega (arith, ltb-true n vars r))
  literal_word (negsuc n) r = lt-ltb n 2147483648 (omega (arith, ltb-true n vars r))

  add_fits : (i : ℕ) (c : List ℤ) → i < 2147483648 → is_clause vars c ≡ true → fits_line (add_frame i c) ≡ true
  add_fits i c m k =
      let (few, ranged, once) = clause_parts vars c k in
      and_both (le-leb (suc (suc (length c))) 4096 (omega arith))
      (all_cons is_word (pos 1) (pos i ∷ c) (lt-ltb 1 2147483648 (omega arith))
      (all_cons is_word (pos i) c (lt-ltb i 2147483648 m) (all_of is_word c (λ l n. literal_word l (all_at (in_range vars) ranged n)))))

  adds_fit : (i : ℕ) (cs : List (List ℤ)) → i + length cs ≤ 2147483648 → all_pass (is_clause vars) cs ≡ true → all_pass fits_line (add_frames i cs) ≡ true
  unfolding add_frames
  adds_fit i [] m a = all_nil fits_line
  adds_fit i (c ∷ cs) m a =
      all_cons fits_line (add_frame i c) (add_frames (i + 1) cs) (add_fits i c (omega arith) (all_head (is_clause vars) c cs a))
      (adds_fit (i + 1) cs (omega arith) (all_tail (is_clause vars) c cs a))

module _ (text : List ℕ) {x : Cnf} (e : read_text text ≡ sound x) (ids : length x.clauses < 2147483648) where
  pub text_fits : all_pass fits_line (frames_of (read_text text)) ≡ true
  text_fits = rw e (adds_fit x.vars (text_body text e).high 1 x.clauses (omega arith) (text_lawful text e))

  pub text_replied : (s : State) → program s (frame_lines (frames_of (read_text text))) ≡ replied s (map some (frames_of (read_text text)))
  text_replied s = program_of_frames s (frames_of (read_text text)) text_fits
