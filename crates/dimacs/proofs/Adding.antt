-- The frames of a text, one after the other from a fresh opening: each is ADD of its clause, and none is refused but with 12 or 13.
--
-- What ADD asks before 12 and 13 is met by every clause that is read: it obeys Terms, its id is above all before it, and nothing is stacked.
use mathlib.Core.Path.{◌≡◌, refl, ap, ◌∙◌}
use mathlib.Core.Bool.{Bool, true, false}
use mathlib.Core.List.{List, [], ◌∷◌, reverse, reverse_aux}
use Prim.Native.Nat.{ℕ, zero, suc, ◌+◌, ◌-◌, ◌≤◌, ◌<◌}
use native.Mathlib.Omega.{arith}
use native.Mathlib.Nat.{add-zero}
use lib.Dec.{ltb, leb}
use lib.IntN.{ℤ, pos, negsuc}
use lib.ListN.{length, get_or}
use borrow.Author.Tests.{ltb-true, lt-ltb, le-leb}
use Rattle.rules.specs.Lists.{all_pass}
use Rattle.rules.specs.Terms.{in_range, is_clause, State, everything, room}
use Rattle.rules.specs.Frames.{ADD, framed, framed_if, parse}
use Rattle.rules.specs.Answers.{◌then◌, need, cleanly, free_entry, free_words, check, settled, outcome, opened}
use Rattle.rules.specs.Histories.{History, added_by, step, steps}
use Rattle.rules.specs.Results.{Answer}
use Rattle.std.specs.Prelude.{Ok, Err}
use Rattle.rules.specs.declared.Fault.TheVariants.{NoEntry, NoWords}
use Rattle.rules.proofs.Lists.{and_both, true-false, all_nil, all_cons, all_head, all_tail, all_at, all_of}
use Rattle.rules.proofs.Checks.{clause_passes}
use Rattle.dimacs.specs.Reading.{sound, Cnf, read_text}
use Rattle.dimacs.specs.Frames.{add_frame, add_frames, frames_of}
use Rattle.dimacs.specs.Adding.{is_accepted, unless_full, answers_from}
use Rattle.dimacs.proofs.Lawful.{text_lawful}
use Rattle.dimacs.proofs.Writing.{clause_parts}

-- ---- each is an ADD

module _ (vars : ℕ) where
  pub add_parses : (i : ℕ) (c : List ℤ) → is_clause vars c ≡ true → 0 < i → parse (add_frame i c) ≡ framed (ADD i c)
  unfolding parse framed_if
  add_parses i c k h =
      let few = (clause_parts vars c k).0 in
      let n = suc (suc (length c)) in
      rw (le-leb 2 n (omega arith), le-leb n 4096 (omega arith), lt-ltb 0 i h, le-leb (n - 2) 256 (omega arith))

  -- of clauses under ids from i on
  frames_parse : (i : ℕ) (cs : List (List ℤ)) → all_pass (is_clause vars) cs ≡ true → 0 < i → (k : ℕ) → k < length cs
      → parse (get_or (add_frames i cs) k []) ≡ framed (ADD (i + k) (get_or cs k []))
  unfolding add_frames
  frames_parse i [] a h k less = absurd (omega arith)
  frames_parse i (c ∷ cs) a h zero less = rw add-zero (add_parses i c (all_head (is_clause vars) c cs a) h)
  frames_parse i (c ∷ cs) a h (suc k) less =
      let same : i + suc k ≡ i + 1 + k = omega arith in
      rw same (frames_parse (i + 1) cs (all_tail (is_clause vars) c cs a) (omega arith) k (omega arith))

-- ---- a clause is one of more variables

range_wide : (vars wide : ℕ) (l : ℤ) → vars ≤ wide → in_range vars l ≡ true → in_range wide l ≡ true
range_wide vars wide (pos zero) h r = r
range_wide vars wide (pos (suc n)) h r = lt-ltb n wide (omega (arith, ltb-true n vars r))
range_wide vars wide (negsuc n) h r = lt-ltb n wide (omega (arith, ltb-true n vars r))

clause_wide : (vars wide : ℕ) (c : List ℤ) → vars ≤ wide → is_clause vars c ≡ true → is_clause wide c ≡ true
unfolding is_clause
clause_wide vars wide c h k =
    let (few, ranged, once) = clause_parts vars c k in
    and_both (le-leb (length c) 256 few) (and_both (all_of (in_range wide) c (λ l m. range_wide vars wide l h (all_at (in_range vars) ranged m))) once)

-- ---- one frame

-- a state of at least so many variables in which nothing is stacked and no id from i on was accepted
pub record Awaits (vars i : ℕ) (s : State) : Type 0 where
  pub wide : vars ≤ s.vars
  pub unstacked : s.stack ≡ []
  pub new : s.highest < i

module _ (vars i : ℕ) (c : List ℤ) (k : is_clause vars c ≡ true) (s : State) (w : Awaits vars i s) where
  -- 12 and 13 alone decide
  pub add_outcome : outcome s (add_frame i c) ≡ settled s (ADD i c) (free_entry s then free_words s (length c))
  unfolding outcome check cleanly need ◌then◌
  add_outcome =
      let u = w.unstacked in
      rw (
        add_parses vars i c k (omega arith),
        clause_passes s.vars 2 c (clause_wide vars s.vars c w.wide k),
        lt-ltb s.highest i w.new,
        u,
      )

  -- whatever they say, the next id is awaited
  settled_so : (entry words : Bool) → let o = settled s (ADD i c) (need entry NoEntry then need words NoWords) in
      (unless_full o.answer ≡ true) × Awaits vars (i + 1) o.state
  unfolding need ◌then◌
  settled_so true true = (refl, record { wide = w.wide; unstacked = w.unstacked; new = omega arith })
  settled_so true false = (refl, record { wide = w.wide; unstacked = w.unstacked; new = omega arith })
  settled_so false words = (refl, record { wide = w.wide; unstacked = w.unstacked; new = omega arith })

  pub add_answered : (unless_full (outcome s (add_frame i c)).answer ≡ true) × Awaits vars (i + 1) (outcome s (add_frame i c)).state
  add_answered = let o = add_outcome in rw o (settled_so (ltb (length (everything s)) s.entries) (leb (room (everything s) + length c) s.words))

-- ---- one after the other

frames_answered : (vars i : ℕ) (cs : List (List ℤ)) → all_pass (is_clause vars) cs ≡ true → (s : State) → Awaits vars i s
    → all_pass unless_full (answers_from s (add_frames i cs)) ≡ true
unfolding add_frames answers_from
frames_answered vars i [] a s w = all_nil unless_full
frames_answered vars i (c ∷ cs) a s w =
    let (full, next) = add_answered vars i c (all_head (is_clause vars) c cs a) s w in
    all_cons unless_full _ _ full (frames_answered vars (i + 1) cs (all_tail (is_clause vars) c cs a) _ next)

-- an accepted ADD adds its clause; so where all are accepted, all the clauses are added, the newest first
adds_one : (i : ℕ) (c : List ℤ) (a : Answer) → is_accepted a ≡ true → (cs : List (List ℤ)) → added_by a (framed (ADD i c)) cs ≡ c ∷ cs
adds_one i c (Ok n) t cs = refl
adds_one i c (Err f) t cs = true-false t refl

frames_added : (vars i : ℕ) (cs : List (List ℤ)) → all_pass (is_clause vars) cs ≡ true → 0 < i
    → (h : History) → all_pass is_accepted (answers_from h.state (add_frames i cs)) ≡ true → (steps h (add_frames i cs)).added ≡ reverse_aux cs h.added
unfolding add_frames answers_from steps step
frames_added vars i [] a p h e = refl
frames_added vars i (c ∷ cs) a p h e =
    let frame = add_frame i c in
    let o = outcome h.state frame in
    let later = answers_from o.state (add_frames (i + 1) cs) in
    let taken = adds_one i c o.answer (all_head is_accepted o.answer later e) h.added in
    let one : (step h frame).added ≡ c ∷ h.added = rw (add_parses vars i c (all_head (is_clause vars) c cs a) p) taken in
    frames_added vars (i + 1) cs (all_tail (is_clause vars) c cs a) (omega arith) (step h frame) (all_tail is_accepted o.answer later e)
    ∙ ap (reverse_aux cs) one

-- ---- the frames of a text

module _ (text : List ℕ) {x : Cnf} (e : read_text text ≡ sound x) where
  -- the clause k, from 0, under id k + 1
  pub text_parses : (k : ℕ) → k < length x.clauses → parse (get_or (frames_of (read_text text)) k []) ≡ framed (ADD (1 + k) (get_or x.clauses k []))
  text_parses k h = rw e (frames_parse x.vars 1 x.clauses (text_lawful text e) (omega arith) k h)

  -- a fresh opening with at least the declared V accepts them, unless it is full
  pub text_answered : (vars entries words : ℕ) → x.vars ≤ vars
      → all_pass unless_full (answers_from (opened vars entries words) (frames_of (read_text text))) ≡ true
  text_answered vars entries words h =
      let fresh : Awaits x.vars 1 (opened vars entries words) = record { wide = h; unstacked = refl; new = omega arith } in
      rw e (frames_answered x.vars 1 x.clauses (text_lawful text e) (opened vars entries words) fresh)

  -- where all are accepted, the text's clauses and no others have been added
  pub text_added : (vars entries words : ℕ) → all_pass is_accepted (answers_from (opened vars entries words) (frames_of (read_text text))) ≡ true
      → (steps (record { state = opened vars entries words; added = [] }) (frames_of (read_text text))).added ≡ reverse x.clauses
  text_added vars entries words =
      rw e (frames_added x.vars 1 x.clauses (text_lawful text e) (omega arith) (record { state = opened vars entries words; added = [] }))
