-- Clauses, word by word: what holds before each word, and what each word comes to. It differs by whether all clauses are read or one.
use mathlib.Core.Path.{◌≡◌, refl, sym, ap, ◌∙◌}
use mathlib.Core.Bool.{Bool, true, false, cond}
use mathlib.Core.List.{List, [], ◌∷◌, ◌++◌}
use mathlib.Core.Option.{some}
use Prim.Native.Nat.{ℕ, ◌+◌, ◌-◌, ◌≤◌, ◌<◌}
use native.Mathlib.Omega.{arith}
use native.Mathlib.Numerals.{add-one}
use Rattle.std.specs.Int.{from_bool}
use Rattle.std.specs.Prelude.{Some, Ok, Err}
use lib.Dec.{eqb, ltb}
use lib.IntN.{ℤ, nat_abs}
use lib.ListN.{length, get_or, take, drop, set, replicate, length-set, length-append, length-drop}
use lib.Seq.{length-take-le, take-suc-set}
use borrow.Author.Tests.{lt-ltb, le-ltb, eqb-true, eqb-false, eq-eqb}
use Rattle.rules.specs.Terms.{mentions, null}
use Rattle.rules.proofs.Lists.{by_cases, true-false}
use Rattle.text.specs.Words.{TextWord, words_from}
use Rattle.text.specs.Places.{word_at, Behind}
use Rattle.text.proofs.Words.{behind_word}
use Rattle.text_numbers.specs.Numbers.{integer_of}
use Rattle.text_numbers.specs.Told.{capped, with_sign}
use Rattle.text_numbers.specs.declared.Integer.{Integer}
use Rattle.text_next.specs.Next.{NextTold}
use Rattle.text_next.specs.declared.NextWord.{NextWord}
use Rattle.dimacs.specs.Reading.{Wrong, Closing, Literal, Read, faulty, sound, expect, clause_word, take_word, preceded, read_clauses}
use Rattle.dimacs.specs.Frames.{next_clause}
use Rattle.dimacs.specs.declared.TextFault.{TextFault}
use Rattle.dimacs.specs.declared.TextFault.TheVariants.{PastDeclared, VariableTwice, LongClause, UnclosedClause}
use Rattle.dimacs_problem.proofs.Spelling.{word_short}
use Rattle.dimacs_judge.specs.Told.{StopsTold, ScanAsked, ScanTold}
use Rattle.dimacs_judge.specs.declared.Scanned.TheVariants.{Closed, Ended}
use Rattle.dimacs_judge.proofs.Words.{word_closing, word_past, word_literal, sign_abs}
use Rattle.dimacs_judge.proofs.Stamping.{Stamped, stamped_none, zero_unstamped, stamped_more, stamped_next}

-- ---- clauses before those that are read behind them

pub all_before : List (List ℤ) → Read (List (List ℤ)) → Read (List (List ℤ))
all_before [] r = r
all_before (c ∷ cs) r = preceded c (all_before cs r)

before_snoc : (cs : List (List ℤ)) (c : List ℤ) (r : Read (List (List ℤ))) → all_before (cs ++ (c ∷ [])) r ≡ all_before cs (preceded c r)
unfolding all_before
before_snoc [] c r = refl
before_snoc (d ∷ cs) c r = ap (preceded d) (before_snoc cs c r)

before_sound : (cs : List (List ℤ)) → all_before cs (sound []) ≡ sound cs
unfolding all_before
before_sound [] = refl
before_sound (c ∷ cs) = ap (preceded c) (before_sound cs)

before_faulty : (cs : List (List ℤ)) (f : TextFault) → all_before cs (faulty f) ≡ faulty f
unfolding all_before
before_faulty [] f = refl
before_faulty (c ∷ cs) f = ap (preceded c) (before_faulty cs f)

-- ---- before each word: the clause c is begun, and read up to before place i

-- all clauses: those that are closed, and the stamps of the one that is begun
pub record AllScanning (text : List ℕ) (from vars : ℕ) (stamps : List ℕ) (stamp : ℕ) (c : List ℤ) (i : ℕ) : Type 0 where
  pub closed : List (List ℤ)
  pub many : stamp ≡ length closed + 1
  pub stamped : Stamped stamps stamp c
  pub read :
      read_clauses vars (length text) [] (words_from false from text) ≡ all_before closed (read_clauses vars (length text) c (words_from false i text))

pub record OneScanning (text : List ℕ) (from vars : ℕ) (c : List ℤ) (i : ℕ) : Type 0 where
  pub widest : vars ≡ 2048
  pub next : next_clause [] (words_from false from text) ≡ next_clause c (words_from false i text)

abbrev pub ModeScanning : Bool → List ℕ → ℕ → ℕ → List ℕ → ℕ → List ℤ → ℕ → Type 0
ModeScanning true text from vars stamps stamp c i = AllScanning text from vars stamps stamp c i
ModeScanning false text from vars stamps stamp c i = OneScanning text from vars c i

-- n literals of a clause are read, the first of lits
pub record Scanning (all : Bool) (text : List ℕ) (from vars : ℕ) (stamps₀ : List ℕ) (lits₀ : List ℤ) (stamps : List ℕ) (lits : List ℤ) (stamp n i : ℕ)
    : Type 0 where
  pub low : from + stamp ≤ i + 1
  pub high : i ≤ length text
  pub behind : Behind text i
  pub few : n ≤ 256
  pub some_stamp : 1 ≤ stamp
  pub room : 257 ≤ length lits
  pub kept : length lits ≡ length lits₀
  pub kept_stamps : length stamps ≡ length stamps₀
  pub mode : ModeScanning all text from vars stamps stamp (take n lits) i

pub scanning_none : {all : Bool} {text : List ℕ} {from vars : ℕ} {stamps : List ℕ} {lits : List ℤ} → ScanAsked text from vars all stamps lits
    → Scanning all text from vars stamps lits stamps lits 1 0 from
unfolding all_before
scanning_none {all} {text} {from} {vars} {stamps} {lits} a = record {
  low = omega arith;
  high = a.inside;
  behind = a.behind;
  few = omega arith;
  some_stamp = omega arith;
  room = a.room;
  kept = refl;
  kept_stamps = refl;
  mode = of all a.one a.fresh;
}
  where
    of : (all : Bool) → (all ≡ false → vars ≡ 2048) → (all ≡ true → stamps ≡ replicate 2049 0) → ModeScanning all text from vars stamps 1 [] from
    of true one fresh = record { closed = []; many = refl; stamped = stamped_none stamps (fresh refl); read = refl }
    of false one fresh = record { widest = one refl; next = refl }

module _ {all : Bool} {text : List ℕ} {from vars : ℕ} {stamps₀ stamps : List ℕ} {lits₀ lits : List ℤ} {stamp n i : ℕ}
    (s : Scanning all text from vars stamps₀ lits₀ stamps lits stamp n i) where
  as_long : length (take n lits) ≡ n
  as_long = length-take-le n lits (omega (arith, s.few, s.room))

  -- ---- no word is left

  module _ (e : words_from false i text ≡ []) (lits' : List ℤ) where
    pub scan_ended : n ≡ 0 → ScanTold all text from vars lits' (Ok (Ended (stamp - 1)))
    unfolding read_clauses next_clause expect
    scan_ended z = of all s.mode
      where
        of : (all : Bool) → ModeScanning all text from vars stamps stamp (take n lits) i → ScanTold all text from vars lits' (Ok (Ended (stamp - 1)))
        of true m = (
          m.closed,
          m.read ∙ rw (e, z) (before_sound m.closed),
          omega (arith, m.many),
          omega (arith, s.low, s.high),
        )
        of false m = m.next ∙ rw e

    pub scan_unclosed : (n ≡ 0 → ⊥) → ScanTold all text from vars lits' (Err (UnclosedClause (length text)))
    unfolding read_clauses next_clause expect
    scan_unclosed z = of all s.mode
      where
        some_literal : (c : List ℤ) → 0 < length c → null c ≡ false
        some_literal [] h = absurd (omega arith)
        some_literal (l ∷ c) h = refl

        begun : null (take n lits) ≡ false
        begun = some_literal (take n lits) (omega (arith, as_long))

        of : (all : Bool) → ModeScanning all text from vars stamps stamp (take n lits) i
            → ScanTold all text from vars lits' (Err (UnclosedClause (length text)))
        of true m = m.read ∙ rw (e, begun) (before_faulty m.closed (UnclosedClause (length text)))
        of false m = m.next ∙ rw e

  -- ---- the next word

  module _ (w : NextWord) (t : NextTold text i w) where
    abbrev next : TextWord
    next = record { at = w.at; first = w.first; bytes = word_at w.at text }

    abbrev behind : ℕ
    behind = w.at + length (word_at w.at text)

    pub scan_wrong : w.at < length text → {f : TextFault} (lits' : List ℤ) → clause_word vars next ≡ Wrong f → ScanTold all text from vars lits' (Err f)
    unfolding read_clauses next_clause take_word
    scan_wrong h {f} lits' e = of all s.mode
      where
        of : (all : Bool) → ModeScanning all text from vars stamps stamp (take n lits) i → ScanTold all text from vars lits' (Err f)
        of true m = m.read ∙ rw (t.next h, e) (before_faulty m.closed f)
        of false m = let e' : clause_word 2048 next ≡ Wrong f = rw m.widest at e in m.next ∙ rw (t.next h, e')

    -- ---- a number

    module _ {r : Integer} (e : w.read ≡ Some r) where
      abbrev told : (n : ℕ) × (integer_of (word_at w.at text) ≡ some (with_sign r.minus n)) × (r.value ≡ capped n) × (r.end ≡ behind)
      told = rw e at t.told

      some_byte : (bs : List ℕ) (l : ℤ) → integer_of bs ≡ some l → 0 < length bs
      unfolding integer_of
      some_byte [] l q = let z : ◌≡◌ {A = ℕ} 0 1 = cc in absurd (omega arith)
      some_byte (b ∷ bs) l q = omega arith

      bytes : 0 < length (word_at w.at text)
      bytes = some_byte (word_at w.at text) _ told.1

      pub number_inside : w.at < length text
      number_inside = omega (arith, bytes, word_short (drop w.at text), length-drop w.at text)

      pub number_onward : i < r.end
      number_onward = omega (arith, bytes, told.3, t.low)

      end_inside : r.end ≤ length text
      end_inside = omega (arith, bytes, told.3, word_short (drop w.at text), length-drop w.at text)

      end_behind : Behind text r.end
      end_behind = rw told.3 (behind_word text w.at)

      pub scan_past : vars < r.value → (lits' : List ℤ) → ScanTold all text from vars lits' (Err (PastDeclared w.at))
      scan_past h lits' =
          scan_wrong number_inside lits'
          (word_past vars w.at w.first (word_at w.at text) r.minus told.0 told.1 (omega (arith, told.2)))

      -- ---- within V

      module _ (few : vars ≤ 2048) (h : r.value ≤ vars) where
        abbrev l : ℤ
        l = with_sign r.minus r.value

        closing : r.value ≡ 0 → clause_word vars next ≡ Closing
        closing z = word_closing vars w.at w.first (word_at w.at text) r.minus told.0 told.1 (sym told.2 ∙ z)

        literal : (r.value ≡ 0 → ⊥) → clause_word vars next ≡ Literal l
        literal z =
            let q = word_literal vars w.at w.first (word_at w.at text) r.minus told.0 told.1 (λ y. z (told.2 ∙ y))
            (omega (arith, told.2)) few in
            q ∙ ap (λ (k : ℕ). Literal (with_sign r.minus k)) (sym told.2)

        -- in a clause of all: the variable is in it already, so it is no 0
        twice : (m : AllScanning text from vars stamps stamp (take n lits) i) → eqb (get_or stamps r.value 0) stamp ≡ true
            → read_clauses vars (length text) [] (words_from false from text) ≡ faulty (VariableTwice w.at)
        unfolding read_clauses take_word expect
        twice m q =
            let some_value : r.value ≡ 0 → ⊥ = λ z. true-false q (ap (λ (k : ℕ). eqb (get_or stamps k 0) stamp) z ∙ zero_unstamped m.stamped) in
            let again : mentions (take n lits) (nat_abs l) ≡ true =
            rw (sign_abs r.minus r.value) (sym (m.stamped.same r.value (omega (arith, some_value)) (omega arith)) ∙ q) in
            m.read ∙ rw (t.next number_inside, literal some_value, again) (before_faulty m.closed (VariableTwice w.at))

        pub scan_twice : (stamps' : List ℕ) (lits' : List ℤ) → all ≡ true → StopsTold all stamps r.value stamp true stamps'
            → ScanTold all text from vars lits' (Err (VariableTwice w.at))
        scan_twice stamps' lits' = of all s.mode
          where
            of : (all : Bool) → ModeScanning all text from vars stamps stamp (take n lits) i → all ≡ true
                → StopsTold all stamps r.value stamp true stamps'
                → ScanTold all text from vars lits' (Err (VariableTwice w.at))
            of true m a q = twice m (sym q.told)
            of false m a q = true-false a refl

        -- one clause is closed
        pub scan_closed : (stamps' : List ℕ) → all ≡ false → StopsTold all stamps r.value stamp true stamps'
            → ScanTold all text from vars lits (Ok (Closed n r.end))
        unfolding next_clause
        scan_closed stamps' = of all s.mode
          where
            of : (all : Bool) → ModeScanning all text from vars stamps stamp (take n lits) i → all ≡ false
                → StopsTold all stamps r.value stamp true stamps'
                → ScanTold all text from vars lits (Ok (Closed n r.end))
            of true m a q = true-false refl a
            of false m a q =
                let c : clause_word 2048 next ≡ Closing = rw m.widest at (closing (eqb-true r.value 0 (sym q.0))) in (
                  s.few,
                  omega (arith, number_onward, s.low, s.some_stamp),
                  end_inside,
                  m.next ∙ rw (t.next number_inside, c, told.3),
                )

        -- ---- reading goes on, and the number's literal stands behind those before

        abbrev lits_on : List ℤ
        lits_on = set lits n l

        take_on : take (n + 1) lits_on ≡ take n lits ++ (l ∷ [])
        take_on = rw add-one (take-suc-set lits n l (omega (arith, s.few, s.room)))

        once : AllScanning text from vars stamps stamp (take n lits) i → (r.value ≡ 0 → ⊥) → eqb (get_or stamps r.value 0) stamp ≡ false
            → mentions (take n lits) (nat_abs l) ≡ false
        once m z q = rw (sign_abs r.minus r.value) (sym (m.stamped.same r.value (omega (arith, z)) (omega arith)) ∙ q)

        module _ (stamps' : List ℕ) (q : StopsTold all stamps r.value stamp false stamps') where
          stamps_kept : length stamps' ≡ length stamps
          stamps_kept = of all q
            where
              of : (all : Bool) → StopsTold all stamps r.value stamp false stamps' → length stamps' ≡ length stamps
              of true q = ap length (q.stamped refl) ∙ length-set stamps r.value stamp
              of false q = ap length q.1

          full : (r.value ≡ 0 → ⊥) → n ≡ 256 → (lits' : List ℤ) → ScanTold all text from vars lits' (Err (LongClause w.at))
          unfolding read_clauses next_clause take_word expect
          full z k lits' = of all s.mode q
            where
              long : ltb (length (take n lits)) 256 ≡ false
              long = le-ltb (length (take n lits)) 256 (omega (arith, as_long))

              of : (all : Bool) → ModeScanning all text from vars stamps stamp (take n lits) i → StopsTold all stamps r.value stamp false stamps'
                  → ScanTold all text from vars lits' (Err (LongClause w.at))
              of true m q = m.read ∙ rw (t.next number_inside, literal z, once m z (sym q.told), long) (before_faulty m.closed (LongClause w.at))
              of false m q =
                  let c : clause_word 2048 next ≡ Literal l = rw m.widest at (literal z) in
                  m.next ∙ rw (t.next number_inside, c, long)

          -- a clause of all is closed: the next begins
          begun_next : r.value ≡ 0 → Scanning all text from vars stamps₀ lits₀ stamps' lits_on (stamp + 1) 0 r.end
          unfolding read_clauses take_word
          begun_next z = record {
            low = omega (arith, number_onward, s.low);
            high = end_inside;
            behind = end_behind;
            few = omega arith;
            some_stamp = omega arith;
            room = omega (arith, length-set lits n l, s.room);
            kept = length-set lits n l ∙ s.kept;
            kept_stamps = stamps_kept ∙ s.kept_stamps;
            mode = of all s.mode q;
          }
            where
              of : (all : Bool) → ModeScanning all text from vars stamps stamp (take n lits) i → StopsTold all stamps r.value stamp false stamps'
                  → ModeScanning all text from vars stamps' (stamp + 1) [] r.end
              of true m q = record {
                closed = m.closed ++ (take n lits ∷ []);
                many = omega (arith, m.many, length-append m.closed (take n lits ∷ []));
                stamped = rw (q.stamped refl, z) (stamped_next m.stamped);
                read = m.read ∙ rw (t.next number_inside, closing z, told.3)
                    (sym (before_snoc m.closed (take n lits) (read_clauses vars (length text) [] (words_from false behind text))));
              }
              of false m q = true-false (eq-eqb r.value 0 z) (sym q.0)

          -- a literal more
          longer : (r.value ≡ 0 → ⊥) → n < 256 → Scanning all text from vars stamps₀ lits₀ stamps' lits_on stamp (n + 1) r.end
          unfolding read_clauses next_clause take_word expect
          longer z k = record {
            low = omega (arith, number_onward, s.low);
            high = end_inside;
            behind = end_behind;
            few = omega arith;
            some_stamp = s.some_stamp;
            room = omega (arith, length-set lits n l, s.room);
            kept = length-set lits n l ∙ s.kept;
            kept_stamps = stamps_kept ∙ s.kept_stamps;
            mode = rw take_on (of all s.mode q);
          }
            where
              short : ltb (length (take n lits)) 256 ≡ true
              short = lt-ltb (length (take n lits)) 256 (omega (arith, as_long))

              of : (all : Bool) → ModeScanning all text from vars stamps stamp (take n lits) i → StopsTold all stamps r.value stamp false stamps'
                  → ModeScanning all text from vars stamps' stamp (take n lits ++ (l ∷ [])) r.end
              of true m q = record {
                closed = m.closed;
                many = m.many;
                stamped = rw (q.stamped refl) (rw (sign_abs r.minus r.value) at (stamped_more m.stamped l (low_enough) (high_enough)));
                read = m.read ∙ rw (t.next number_inside, literal z, once m z (sym q.told), short, told.3);
              }
                where
                  low_enough : 0 < nat_abs l
                  low_enough = omega (arith, z, sign_abs r.minus r.value)

                  high_enough : nat_abs l ≤ 2048
                  high_enough = omega (arith, sign_abs r.minus r.value)
              of false m q =
                  let c : clause_word 2048 next ≡ Literal l = rw m.widest at (literal z) in
                  record { widest = m.widest; next = m.next ∙ rw (t.next number_inside, c, short, told.3) }

          -- so many literals are read then
          module _ (k : ℕ) (many : k ≡ cond (eqb r.value 0) 0 (n + 1)) where
            pub scan_long : k ≡ 257 → (lits' : List ℤ) → ScanTold all text from vars lits' (Err (LongClause w.at))
            scan_long h lits' = by_cases (eqb r.value 0)
                (λ z. let none : k ≡ 0 = rw z at many in absurd (omega arith))
                (λ z. let more : k ≡ n + 1 = rw z at many in full (eqb-false r.value 0 z) (omega arith) lits')

            pub scan_on : (b : ℕ) → b ≡ from_bool (eqb r.value 0) → (k ≡ 257 → ⊥)
                → Scanning all text from vars stamps₀ lits₀ stamps' lits_on (stamp + b) k r.end
            scan_on b closed h = by_cases (eqb r.value 0)
                (λ z.
                let none : k ≡ 0 = rw z at many in
                let one : b ≡ 1 = rw z at closed in
                rw (none, one) (begun_next (eqb-true r.value 0 z)))
                (λ z.
                let more : k ≡ n + 1 = rw z at many in
                let begun : b ≡ 0 = rw z at closed in
                let same : stamp + b ≡ stamp = omega arith in
                rw (more, same) (longer (eqb-false r.value 0 z) (omega (arith, s.few))))
