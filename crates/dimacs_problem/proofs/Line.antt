-- The words of the problem line, one after the other.
use mathlib.Core.Path.{◌≡◌, sym, ap, ◌∙◌}
use mathlib.Core.Bool.{Bool, true, false, not, ◌&&◌, ◌||◌}
use mathlib.Core.List.{List, [], ◌∷◌}
use mathlib.Core.Option.{Option, none, some}
use Prim.Native.Nat.{ℕ, ◌+◌, ◌≤◌, ◌<◌}
use native.Mathlib.Omega.{arith}
use native.Mathlib.Decide.{dec_lt}
use Rattle.std.specs.Prelude.{Some, Ok, Err}
use lib.Dec.{ltb, leb}
use lib.ListN.{length, drop, drop_of_length-le, length-drop}
use borrow.Author.Tests.{lt-ltb, le-ltb, le-leb, lt-leb, ltb-true, ltb-false}
use Rattle.rules.proofs.Lists.{by_cases, or-false}
use lib.Seq.{drop-drop}
use Rattle.text.specs.Words.{TextWord, text_words, words_from}
use Rattle.text.specs.Places.{word_bytes, word_at, Seeks, SeeksFirst}
use Rattle.text.specs.declared.Sought.{Sought}
use Rattle.text.proofs.Words.{words_end, words_word, behind_word}
use Rattle.text_numbers.specs.Numbers.{natural_of}
use Rattle.text_numbers.specs.Told.{NumeralTold}
use Rattle.text_numbers.specs.declared.Numeral.{Numeral}
use Rattle.dimacs.specs.Reading.{faulty, expect, expect_number, spells, read_clauses, counted, read_behind, count_of, read_number, read_count, read_vars}
use Rattle.dimacs.specs.Reading.{read_format, read_problem, read_text, body_words}
use Rattle.dimacs.specs.declared.TextFault.TheVariants.{NoProblemLine, MalformedWord, VarsOutOfRange}
use Rattle.dimacs_problem.specs.Told.{CountRead, CountTold, ProblemTold}
use Rattle.dimacs_problem.proofs.Spelling.{spells_length, word_short}

module _ (text : List ℕ) where
  -- the word at a place, as it is read
  abbrev word : Bool → ℕ → TextWord
  word first at = record { at = at; first = first; bytes = word_at at text }

  -- ---- from a place on: no word is left, or one is found

  module _ (first : Bool) (from : ℕ) (w : Sought) (s : Seeks text first from w) where
    none_left : length text ≤ w.at → words_from first from text ≡ []
    none_left h = s.same ∙ words_end text w.first w.at h

    one_found : w.at < length text → words_from first from text ≡ word w.first w.at ∷ words_from false (w.at + length (word_at w.at text)) text
    one_found h = s.same ∙ words_word text w.first w.at h (s.stops h)

  -- ---- a number of the line

  module _ (from : ℕ) (w : Sought) (s : Seeks text false from w) where
    -- another word, or none, in its place
    pub no_number : count_of (word w.first w.at) ≡ none → CountTold text (words_from false from text) (Err (MalformedWord w.at))
    unfolding read_number expect_number
    no_number e more = of (dec_lt w.at (length text))
      where
        of : Dec (w.at < length text) → read_number (length text) (words_from false from text) more ≡ faulty (MalformedWord w.at)
        of (yes h) = rw (one_found false from w s h, e)
        of (no h) = let past : length text ≡ w.at = omega (arith, s.high) in rw (none_left false from w s (omega arith), past)

    pub a_number : w.first ≡ false → {r : Numeral} → NumeralTold (word_at w.at text) w.at (Some r)
        → CountTold text (words_from false from text) (Ok (record { value = r.value; at = w.at; end = r.end }))
    unfolding read_number expect_number natural_of word_bytes
    a_number f {r} (n, said, value, behind) =
        let e : r.end ≤ length text = omega (arith, behind, word_short (drop w.at text), length-drop w.at text, s.high) in
        record {
          number = n;
          told = value;
          inside = e;
          behind = rw behind (behind_word text w.at);
          rest = rw behind (sym (ap (drop 1) (one_found false from w s found)));
          read_on = λ more. rw (one_found false from w s found, f, said, behind);
        }
      where
        some_word : Dec (w.at < length text) → w.at < length text
        some_word (yes h) = h
        some_word (no h) =
            let past : length text ≤ w.at = omega arith in
            let z : ◌≡◌ {A = Option ℕ} none (some n) = sym (ap (λ (l : List ℕ). natural_of (word_bytes l)) (drop_of_length-le text past)) ∙ said in
            let q : ◌≡◌ {A = ℕ} 0 1 = cc in
            absurd (omega arith)

        found : w.at < length text
        found = some_word (dec_lt w.at (length text))

  -- ---- the clause count, the last word of its line

  module _ (vars : ℕ) (ws : List TextWord) (v at end : ℕ) (c : CountRead text ws v at end) (w : Sought) (s : Seeks text false end w) where
    behind : read_count vars (length text) ws ≡ counted vars c.number (length text) (read_behind vars (length text) (words_from false end text))
    behind = c.read_on (λ at n rest. counted vars n (length text) (read_behind vars (length text) rest))

    pub fifth_word : w.at < length text → w.first ≡ false
        → ProblemTold text (drop 1 ws) (read_count vars (length text) ws) (Err (MalformedWord w.at))
    unfolding expect
    fifth_word h f = behind ∙ rw (one_found false end w s h, f)

    last_word : (w.at < length text → w.first ≡ true)
        → read_behind vars (length text) (words_from false end text) ≡ read_clauses vars (length text) [] (words_from false end text)
    unfolding expect
    last_word f = of (dec_lt w.at (length text))
      where
        of : Dec (w.at < length text)
            → read_behind vars (length text) (words_from false end text) ≡ read_clauses vars (length text) [] (words_from false end text)
        of (yes h) = rw (one_found false end w s h, f h)
        of (no h) = rw (none_left false end w s (omega arith))

    pub line_ended : 1 ≤ vars → vars ≤ 2048 → (w.at < length text → w.first ≡ true)
        → ProblemTold text (drop 1 ws) (read_count vars (length text) ws) (Ok (record { vars = vars; clauses = v; end = end }))
    line_ended low high f = record {
      number = c.number;
      told = c.told;
      low = low;
      high = high;
      inside = c.inside;
      behind = c.behind;
      words = c.rest;
      read_on = behind ∙ ap (counted vars c.number (length text)) (last_word f);
    }

  -- ---- V

  module _ (ws : List TextWord) (v at end : ℕ) (c : CountRead text ws v at end) where
    ranged : read_vars (length text) ws
        ≡ expect (ltb 0 c.number && leb c.number 2048) (VarsOutOfRange at) (read_count c.number (length text) (words_from false end text))
    ranged = c.read_on (λ at n rest. expect (ltb 0 n && leb n 2048) (VarsOutOfRange at) (read_count n (length text) rest))

    no_vars : v < 1 → read_vars (length text) ws ≡ faulty (VarsOutOfRange at)
    unfolding expect
    no_vars h = let z : c.number ≤ 0 = omega (arith, c.told) in ranged ∙ rw (le-ltb 0 c.number z)

    many_vars : 2048 < v → read_vars (length text) ws ≡ faulty (VarsOutOfRange at)
    unfolding expect
    many_vars h =
        let some_vars : 0 < c.number = omega (arith, c.told) in
        let many : 2048 < c.number = omega (arith, c.told) in
        ranged ∙ rw (lt-ltb 0 c.number some_vars, lt-leb c.number 2048 many)

    pub vars_outside : (ltb v 1 || ltb 2048 v) ≡ true → read_vars (length text) ws ≡ faulty (VarsOutOfRange at)
    vars_outside t = by_cases (ltb v 1) (λ l. no_vars (ltb-true v 1 l)) (λ l. many_vars (ltb-true 2048 v (rw l at t)))

    -- the words behind V and the next
    pub behind_vars : drop 2 ws ≡ drop 1 (words_from false end text)
    behind_vars = sym (drop-drop 1 1 ws) ∙ ap (drop 1) (sym c.rest)

    pub vars_ranged : (ltb v 1 || ltb 2048 v) ≡ false → read_vars (length text) ws ≡ read_count v (length text) (words_from false end text)
    unfolding expect
    vars_ranged f =
        let in_range = or-false (ltb v 1) (ltb 2048 v) f in
        let low = ltb-false v 1 in_range.0 in
        let high = ltb-false 2048 v in_range.1 in
        let n : c.number ≡ v = omega (arith, c.told) in
        ranged ∙ rw (n, lt-ltb 0 v low, le-leb v 2048 high)

  -- ---- p, and cnf

  module _ (w : Sought) (s : SeeksFirst text w) where
    pub not_p : spells (112 ∷ []) (word_at w.at text) ≡ false → read_text text ≡ faulty (NoProblemLine w.at)
    unfolding read_problem expect
    not_p e = of (dec_lt w.at (length text))
      where
        of : Dec (w.at < length text) → read_text text ≡ faulty (NoProblemLine w.at)
        of (yes h) = let one = s.same ∙ words_word text w.first w.at h (s.stops h) in rw (one, e)
        of (no h) =
            let past : length text ≡ w.at = omega (arith, s.high) in
            let empty = s.same ∙ words_end text w.first w.at (omega arith) in
            rw (empty, past)

  -- a word that is spelled so stands before the text's end
  pub spelled_inside : (at : ℕ) (xs : List ℕ) → at ≤ length text → spells xs (word_at at text) ≡ true → at + length xs ≤ length text
  spelled_inside at xs h e = omega (arith, spells_length xs (word_at at text) e, word_short (drop at text), length-drop at text)

  module _ (w : Sought) (s : SeeksFirst text w) (e : spells (112 ∷ []) (word_at w.at text) ≡ true) where
    p_found : text_words text ≡ word w.first w.at ∷ words_from false (w.at + 1) text
    p_found =
        let h : w.at < length text = omega (arith, spelled_inside w.at (112 ∷ []) s.high e) in
        s.same ∙ rw (spells_length (112 ∷ []) (word_at w.at text) e) at (words_word text w.first w.at h (s.stops h))

    pub p_read : read_text text ≡ read_format (length text) (words_from false (w.at + 1) text)
    unfolding read_problem expect
    p_read = rw (p_found, e)

    pub behind_p : body_words text ≡ drop 3 (words_from false (w.at + 1) text)
    behind_p = ap (drop 4) p_found

  module _ (from : ℕ) (w : Sought) (s : Seeks text false from w) where
    pub not_cnf : (not w.first && spells (99 ∷ 110 ∷ 102 ∷ []) (word_at w.at text)) ≡ false →
        read_format (length text) (words_from false from text) ≡ faulty (MalformedWord w.at)
    unfolding read_format expect
    not_cnf e = of (dec_lt w.at (length text))
      where
        of : Dec (w.at < length text) → read_format (length text) (words_from false from text) ≡ faulty (MalformedWord w.at)
        of (yes h) = rw (one_found false from w s h, e)
        of (no h) = let past : length text ≡ w.at = omega (arith, s.high) in rw (none_left false from w s (omega arith), past)

    module _ (e : spells (99 ∷ 110 ∷ 102 ∷ []) (word_at w.at text) ≡ true) where
      cnf_found : words_from false from text ≡ word w.first w.at ∷ words_from false (w.at + 3) text
      cnf_found =
          let h : w.at < length text = omega (arith, spelled_inside w.at (99 ∷ 110 ∷ 102 ∷ []) s.high e) in
          rw (spells_length (99 ∷ 110 ∷ 102 ∷ []) (word_at w.at text) e) at (one_found false from w s h)

      pub cnf_read : w.first ≡ false → read_format (length text) (words_from false from text) ≡ read_vars (length text) (words_from false (w.at + 3) text)
      unfolding read_format expect
      cnf_read f = rw (cnf_found, f, e)

      pub behind_cnf : drop 3 (words_from false from text) ≡ drop 2 (words_from false (w.at + 3) text)
      behind_cnf = ap (drop 3) cnf_found
