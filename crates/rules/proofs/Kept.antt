-- Every accepted step keeps the terms.
use mathlib.Core.Path.{◌≡◌, refl}
use mathlib.Core.Bool.{Bool, true, ◌&&◌}
use mathlib.Core.List.{List, [], ◌∷◌, ◌++◌}
use Prim.Native.Nat.{ℕ, ◌+◌, ◌≤◌, ◌<◌}
use native.Mathlib.Omega.{arith}
use lib.Dec.{eqb, ltb, leb}
use lib.IntN.{ℤ}
use lib.ListN.{length, length-append}
use borrow.Author.Tests.{ltb-true, leb-true, lt-ltb, le-leb, eqb-true, ne_eqb}
use Rattle.rules.specs.Lists.{any_passes, all_pass}
use Rattle.rules.specs.Terms.{holds, is_clause, is_witness, null, is_id, is_plain, is_record, Held, State, has, fetch, everything, room, tally, rising}
use Rattle.rules.specs.Terms.{Terms}
use Rattle.rules.specs.Frames.{Frame, ADD, LEARN, FORGET, PROMOTE, DROP, WEAKEN, RESTORE, SAT, UNSAT, without, place, plain, next}
use Rattle.rules.specs.Answers.{check, check_open, opened}
use Rattle.std.specs.Prelude.{Ok, Err}
use Rattle.rules.proofs.Lists.{by_cases, and_left, and_right, and_both, all_nil, all_cons, all_at, all_of, all_append, all_split}
use Rattle.rules.proofs.Held.{fetch_all, without_all, place_all}
use Rattle.rules.proofs.Checks.{then_left, then_right, need_true, flaw_clause}
use Rattle.rules.proofs.Places.{fetch_id, one, tally_append, tally_place, tally_without, tally_has, length_place, length_without, room_append}
use Rattle.rules.proofs.Places.{room_place, room_without, rising_place, rising_without}
use Rattle.rules.proofs.Shaped.{Shaped}

-- ---- sums over the three places

module _ (irr lrn stk : List Held) where
  tally_whole : (i : ℕ) → tally i (irr ++ (lrn ++ stk)) ≡ tally i irr + (tally i lrn + tally i stk)
  tally_whole i = omega (arith, tally_append i irr (lrn ++ stk), tally_append i lrn stk)

  length_whole : length (irr ++ (lrn ++ stk)) ≡ length irr + (length lrn + length stk)
  length_whole = omega (arith, length-append irr (lrn ++ stk), length-append lrn stk)

  room_whole : room (irr ++ (lrn ++ stk)) ≡ room irr + (room lrn + room stk)
  room_whole = omega (arith, room_append irr (lrn ++ stk), room_append lrn stk)

  -- a test of all three
  whole_all : (p : Held → Bool) → all_pass p irr ≡ true → all_pass p lrn ≡ true → all_pass p stk ≡ true → all_pass p (irr ++ (lrn ++ stk)) ≡ true
  whole_all p a b c = all_append p irr (lrn ++ stk) a (all_append p lrn stk b c)

-- a clause of the place k comes, another of the place j goes: at most one of an id is left
module _ (s : State) (T : Terms s) where
  abbrev irr : List Held
  irr = s.irredundant

  abbrev lrn : List Held
  lrn = s.learned

  abbrev stk : List Held
  stk = s.stack

  distinct : (i : ℕ) → tally i irr + (tally i lrn + tally i stk) ≤ 1
  distinct i = omega (arith, tally_whole irr lrn stk i, T.ids_distinct i)

  entries : length irr + (length lrn + length stk) ≤ s.entries
  entries = omega (arith, length_whole irr lrn stk, T.within_entries)

  words : room irr + (room lrn + room stk) ≤ s.words
  words = omega (arith, room_whole irr lrn stk, T.within_words)

  ids_irr : all_pass (is_id s.highest) irr ≡ true
  ids_irr = (all_split (is_id s.highest) irr (lrn ++ stk) T.ids_in_range).0

  ids_lrn : all_pass (is_id s.highest) lrn ≡ true
  ids_lrn = (all_split (is_id s.highest) lrn stk (all_split (is_id s.highest) irr (lrn ++ stk) T.ids_in_range).1).0

  ids_stk : all_pass (is_id s.highest) stk ≡ true
  ids_stk = (all_split (is_id s.highest) lrn stk (all_split (is_id s.highest) irr (lrn ++ stk) T.ids_in_range).1).1

  -- ---- a new clause

  module _ (i : ℕ) (c : List ℤ) (new : s.highest < i) (okay : is_clause s.vars c ≡ true) where
    id_more : (h : Held) → is_id s.highest h ≡ true → is_id i h ≡ true
    unfolding is_id
    id_more h k =
        and_both (and_left (ltb 0 h.id) (leb h.id s.highest) k)
        (le-leb h.id i (let b = leb-true h.id s.highest (and_right (ltb 0 h.id) (leb h.id s.highest) k) in omega arith))

    ids_more : (hs : List Held) → all_pass (is_id s.highest) hs ≡ true → all_pass (is_id i) hs ≡ true
    ids_more hs a = all_of _ hs (λ x m. id_more x (all_at (is_id s.highest) a m))

    id_new : is_id i (plain i c) ≡ true
    unfolding is_id
    id_new = and_both (lt-ltb 0 i (omega arith)) (le-leb i i (omega arith))

    plain_new : is_plain s.vars (plain i c) ≡ true
    unfolding is_plain
    plain_new = and_both okay refl

    tally_new : (hs : List Held) → all_pass (is_id s.highest) hs ≡ true → tally i hs ≡ 0
    unfolding tally all_pass is_id
    tally_new [] a = refl
    tally_new (h ∷ hs) a =
        let k = and_left (ltb 0 h.id && leb h.id s.highest) (all_pass (is_id s.highest) hs) a in
        let b = leb-true h.id s.highest (and_right (ltb 0 h.id) (leb h.id s.highest) k) in
        let n = ne_eqb h.id i (λ q. omega arith) in
        let r = tally_new hs (and_right (ltb 0 h.id && leb h.id s.highest) (all_pass (is_id s.highest) hs) a) in
        rw n (omega arith)

    -- at most one of each id, with one more of the new
    distinct_new : (j : ℕ) → one i j + (tally j irr + (tally j lrn + tally j stk)) ≤ 1
    distinct_new j = by_cases (eqb i j)
        (λ e. let q = eqb-true i j e in rw (e, ← q) (omega (arith, tally_new irr ids_irr, tally_new lrn ids_lrn, tally_new stk ids_stk)))
        (λ e. rw e (omega (arith, distinct j)))

    pub terms_add : length (everything s) < s.entries → room (everything s) + length c ≤ s.words → Terms (next s (ADD i c))
    terms_add more fits =
        let irr' = place (plain i c) irr in
        record {
          vars_in_range = T.vars_in_range;
          ids_distinct = λ j. omega (arith, tally_whole irr' lrn stk j, tally_place j (plain i c) irr, distinct_new j);
          ids_in_range =
              whole_all irr' lrn stk (is_id i) (place_all (is_id i) (plain i c) irr id_new (ids_more irr ids_irr)) (ids_more lrn ids_lrn)
              (ids_more stk ids_stk);
          irredundant = place_all (is_plain s.vars) (plain i c) irr plain_new T.irredundant;
          learned = T.learned;
          stack = T.stack;
          irredundant_rising = rising_place (plain i c) irr (tally_new irr ids_irr) T.irredundant_rising;
          learned_rising = T.learned_rising;
          within_entries = omega (arith, length_whole irr' lrn stk, length_place (plain i c) irr, length_whole irr lrn stk, more);
          within_words = omega (arith, room_whole irr' lrn stk, room_place (plain i c) irr, room_whole irr lrn stk, fits);
        }

    pub terms_learn : (hints : List ℤ) → length (everything s) < s.entries → room (everything s) + length c ≤ s.words → Terms (next s (LEARN i c hints))
    terms_learn hints more fits =
        let lrn' = place (plain i c) lrn in
        record {
          vars_in_range = T.vars_in_range;
          ids_distinct = λ j. omega (arith, tally_whole irr lrn' stk j, tally_place j (plain i c) lrn, distinct_new j);
          ids_in_range =
              whole_all irr lrn' stk (is_id i) (ids_more irr ids_irr) (place_all (is_id i) (plain i c) lrn id_new (ids_more lrn ids_lrn))
              (ids_more stk ids_stk);
          irredundant = T.irredundant;
          learned = place_all (is_plain s.vars) (plain i c) lrn plain_new T.learned;
          stack = T.stack;
          irredundant_rising = T.irredundant_rising;
          learned_rising = rising_place (plain i c) lrn (tally_new lrn ids_lrn) T.learned_rising;
          within_entries = omega (arith, length_whole irr lrn' stk, length_place (plain i c) lrn, length_whole irr lrn stk, more);
          within_words = omega (arith, room_whole irr lrn' stk, room_place (plain i c) lrn, room_whole irr lrn stk, fits);
        }

  -- ---- a clause goes

  -- the clause of an id, as it stands in a place
  clause_of : (hs : List Held) (i : ℕ) (q : Held → Bool) → has hs i ≡ true → all_pass (λ h. is_clause s.vars h.lits && q h) hs ≡ true →
      is_clause s.vars (fetch hs i).lits ≡ true
  clause_of hs i q m a = and_left (is_clause s.vars (fetch hs i).lits) (q (fetch hs i)) (fetch_all _ hs i m a)

  plain_at : (i : ℕ) (c : List ℤ) → is_clause s.vars c ≡ true → is_plain s.vars (plain i c) ≡ true
  unfolding is_plain
  plain_at i c k = and_both k refl

  id_at : (hs : List Held) (i : ℕ) → has hs i ≡ true → all_pass (is_id s.highest) hs ≡ true → (c w : List ℤ) →
      is_id s.highest (record { id = i; lits = c; witness = w }) ≡ true
  unfolding is_id
  id_at hs i m a c w = let k = fetch_all (is_id s.highest) hs i m a in let q = fetch_id hs i m in rw q at k

  module _ (i : ℕ) (m : has lrn i ≡ true) where
    abbrev lrn' : List Held
    lrn' = without lrn i

    pub terms_forget : Terms (next s (FORGET i))
    terms_forget =
        record {
          vars_in_range = T.vars_in_range;
          ids_distinct = λ j. omega (arith, tally_whole irr lrn' stk j, tally_without j i lrn m, distinct j);
          ids_in_range = whole_all irr lrn' stk (is_id s.highest) ids_irr (without_all _ lrn i ids_lrn) ids_stk;
          irredundant = T.irredundant;
          learned = without_all _ lrn i T.learned;
          stack = T.stack;
          irredundant_rising = T.irredundant_rising;
          learned_rising = rising_without lrn i T.learned_rising;
          within_entries = omega (arith, length_whole irr lrn' stk, length_without i lrn m, entries);
          within_words = omega (arith, room_whole irr lrn' stk, room_without i lrn m, words);
        }

    pub terms_promote : Terms (next s (PROMOTE i))
    unfolding is_plain
    terms_promote =
        let c = (fetch lrn i).lits in
        let irr' = place (plain i c) irr in
        record {
          vars_in_range = T.vars_in_range;
          ids_distinct = λ j. omega (arith, tally_whole irr' lrn' stk j, tally_place j (plain i c) irr, tally_without j i lrn m, distinct j);
          ids_in_range =
              whole_all irr' lrn' stk (is_id s.highest) (place_all _ (plain i c) irr (id_at lrn i m ids_lrn c []) ids_irr)
              (without_all _ lrn i ids_lrn) ids_stk;
          irredundant =
              place_all (is_plain s.vars) (plain i c) irr (plain_at i c (clause_of lrn i (λ h. null h.witness) m T.learned)) T.irredundant;
          learned = without_all _ lrn i T.learned;
          stack = T.stack;
          irredundant_rising = rising_place (plain i c) irr (omega (arith, tally_has i lrn m, distinct i)) T.irredundant_rising;
          learned_rising = rising_without lrn i T.learned_rising;
          within_entries = omega (arith, length_whole irr' lrn' stk, length_place (plain i c) irr, length_without i lrn m, entries);
          within_words = omega (arith, room_whole irr' lrn' stk, room_place (plain i c) irr, room_without i lrn m, words);
        }

  module _ (i : ℕ) (m : has irr i ≡ true) where
    abbrev irr' : List Held
    irr' = without irr i

    pub terms_drop : (hints : List ℤ) → Terms (next s (DROP i hints))
    terms_drop hints =
        record {
          vars_in_range = T.vars_in_range;
          ids_distinct = λ j. omega (arith, tally_whole irr' lrn stk j, tally_without j i irr m, distinct j);
          ids_in_range = whole_all irr' lrn stk (is_id s.highest) (without_all _ irr i ids_irr) ids_lrn ids_stk;
          irredundant = without_all _ irr i T.irredundant;
          learned = T.learned;
          stack = T.stack;
          irredundant_rising = rising_without irr i T.irredundant_rising;
          learned_rising = T.learned_rising;
          within_entries = omega (arith, length_whole irr' lrn stk, length_without i irr m, entries);
          within_words = omega (arith, room_whole irr' lrn stk, room_without i irr m, words);
        }

    pub terms_weaken : (w ws : List ℤ) → is_clause s.vars w ≡ true → any_passes (holds w) (fetch irr i).lits ≡ true →
        room (everything s) + length w ≤ s.words → Terms (next s (WEAKEN i w ws))
    unfolding is_plain is_record is_witness tally room
    terms_weaken w ws okay meets fits =
        let c = (fetch irr i).lits in
        let r : Held = record { id = i; lits = c; witness = w } in
        record {
          vars_in_range = T.vars_in_range;
          ids_distinct = λ j. omega (arith, tally_whole irr' lrn (r ∷ stk) j, tally_without j i irr m, distinct j);
          ids_in_range =
              whole_all irr' lrn (r ∷ stk) (is_id s.highest) (without_all _ irr i ids_irr) ids_lrn (all_cons _ r stk (id_at irr i m ids_irr c w) ids_stk);
          irredundant = without_all _ irr i T.irredundant;
          learned = T.learned;
          stack = all_cons _ r stk (and_both (clause_of irr i (λ h. null h.witness) m T.irredundant) (and_both okay meets)) T.stack;
          irredundant_rising = rising_without irr i T.irredundant_rising;
          learned_rising = T.learned_rising;
          within_entries = omega (arith, length_whole irr' lrn (r ∷ stk), length_without i irr m, entries);
          within_words = omega (arith, room_whole irr' lrn (r ∷ stk), room_without i irr m, room_whole irr lrn stk, fits);
        }

  module _ (i : ℕ) (m : has stk i ≡ true) where
    pub terms_restore : Terms (next s (RESTORE i))
    unfolding is_record
    terms_restore =
        let c = (fetch stk i).lits in
        let irr'' = place (plain i c) irr in
        let stk' = without stk i in
        record {
          vars_in_range = T.vars_in_range;
          ids_distinct = λ j. omega (arith, tally_whole irr'' lrn stk' j, tally_place j (plain i c) irr, tally_without j i stk m, distinct j);
          ids_in_range =
              whole_all irr'' lrn stk' (is_id s.highest) (place_all _ (plain i c) irr (id_at stk i m ids_stk c []) ids_irr) ids_lrn
              (without_all _ stk i ids_stk);
          irredundant =
              place_all (is_plain s.vars) (plain i c) irr (plain_at i c (clause_of stk i (λ r. is_witness s.vars r.lits r.witness) m T.stack))
              T.irredundant;
          learned = T.learned;
          stack = without_all _ stk i T.stack;
          irredundant_rising = rising_place (plain i c) irr (omega (arith, tally_has i stk m, distinct i)) T.irredundant_rising;
          learned_rising = T.learned_rising;
          within_entries = omega (arith, length_whole irr'' lrn stk', length_place (plain i c) irr, length_without i stk m, entries);
          within_words = omega (arith, room_whole irr'' lrn stk', room_place (plain i c) irr, room_without i stk m, words);
        }

-- ---- every accepted frame

pub terms_kept : (s : State) (f : Frame) → Shaped f → Terms s → check s f ≡ Ok tt → Terms (next s f)
unfolding check
terms_kept s (ADD i c) sh T e =
    let n = then_right _ _ e in
    let r = then_right _ _ (then_right _ _ n) in
    terms_add s T i c (ltb-true s.highest i (need_true _ _ (then_left _ _ n))) (flaw_clause s.vars 2 c sh.1 (then_left _ _ e))
    (ltb-true _ _ (need_true _ _ (then_left _ _ r))) (leb-true _ _ (need_true _ _ (then_right _ _ r)))
terms_kept s (LEARN i c hints) sh T e =
    let n = then_right _ _ e in
    let r = then_right _ _ n in
    terms_learn s T i c (ltb-true s.highest i (need_true _ _ (then_left _ _ n))) (flaw_clause s.vars 3 c sh.1 (then_left _ _ e)) hints
    (ltb-true _ _ (need_true _ _ (then_left _ _ r))) (leb-true _ _ (need_true _ _ (then_left _ _ (then_right _ _ r))))
terms_kept s (FORGET i) sh T e = terms_forget s T i (need_true _ _ e)
terms_kept s (PROMOTE i) sh T e = terms_promote s T i (need_true _ _ e)
terms_kept s (DROP i hints) sh T e = terms_drop s T i (need_true _ _ (then_left _ _ e)) hints
terms_kept s (WEAKEN i w ws) sh T e =
    let n = then_right _ _ e in
    let r = then_right _ _ n in
    terms_weaken s T i (need_true _ _ (then_left _ _ n)) w ws (flaw_clause s.vars 3 w sh (then_left _ _ e)) (need_true _ _ (then_left _ _ r))
    (leb-true _ _ (need_true _ _ (then_left _ _ (then_right _ _ r))))
terms_kept s (RESTORE i) sh T e = terms_restore s T i (need_true _ _ (then_left _ _ e))
terms_kept s (SAT assumed vs) sh T e = T
terms_kept s (UNSAT assumed hints) sh T e = T

pub begins_terms : (vars entries words : ℕ) → check_open vars entries words ≡ Ok tt → Terms (opened vars entries words)
unfolding check_open tally rising room
begins_terms vars entries words e =
    record {
      vars_in_range = need_true _ _ (then_right _ _ e);
      ids_distinct = λ i. omega arith;
      ids_in_range = all_nil _;
      irredundant = all_nil _;
      learned = all_nil _;
      stack = all_nil _;
      irredundant_rising = refl;
      learned_rising = refl;
      within_entries = omega arith;
      within_words = omega arith;
    }
