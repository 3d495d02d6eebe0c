-- What a series of calls hands out: the frames of a text without fault, all of them and no others; of a faulty text none.
use mathlib.Core.Path.{◌≡◌, refl, sym, ap, ap₂, ◌∙◌}
use mathlib.Core.Logic.{⊎_elim}
use mathlib.Core.List.{List, [], ◌∷◌, ◌++◌, append_assoc, append-nil}
use mathlib.Core.Option.{Option, none, some}
use Prim.Native.Nat.{ℕ, ◌+◌, ◌≤◌, ◌<◌}
use native.Mathlib.Omega.{arith}
use lib.Dec.{eqb, ltb}
use lib.IntN.{ℤ, pos}
use lib.ListN.{length, take, replicate}
use lib.Seq.{take-append_seam}
use borrow.Author.Tests.{ltb-true, ltb-false, lt-ltb, le-ltb, eq-eqb, ne_eqb, eqb-true}
use Rattle.rules.proofs.Lists.{by_cases}
use Rattle.table_slices.specs.Writes.{over}
use Rattle.table_slices.proofs.Slices.{length_over}
use Rattle.text.specs.Words.{TextWord}
use Rattle.dimacs.specs.Reading.{Read, faulty, sound, read_clauses, Cnf, read_text, body_words}
use Rattle.dimacs.specs.Frames.{add_frame, add_frames, frames_of, ClosedClause, next_clause}
use Rattle.dimacs.specs.declared.TextFault.{TextFault}
use Rattle.dimacs.proofs.Clauses.{clause_next}
use Rattle.dimacs.proofs.Bodies.{Standing, from_stands, body_stands, ClauseBehind, clause_behind, clause_short, text_body}
use Rattle.dimacs_frames.proofs.Frames.{left_behind, behind_ends}
use Rattle.dimacs_frames.specs.Yields.{words_left, yield_clause, yield_first, yields, into, yields_into}
use Rattle.dimacs_frames.specs.Series.{Series, no_frame, then_frame, Leads}
use Rattle.dimacs_frames.specs.declared.Cursor.{Cursor}
use Rattle.dimacs_frames.specs.declared.Yielded.{Yielded}
use Rattle.dimacs_frames.specs.Yielding.{Yield, yielded}
use Rattle.std.specs.Prelude.{Ok, None, Err}
use Rattle.dimacs_frames.specs.declared.YieldError.TheVariants.{Faulty, NoBuffer}

-- ---- what a call tells and hands out does not lean on its buffer

pub yielded_same : {n m : ℕ} {d e : Cursor} → ◌≡◌ {A = Yield} (yielded n d) (yielded m e) → (n ≡ m) × (d ≡ e)
yielded_same {n} {m} {d} {e} q =
    let same : ◌≡◌ {A = Yielded} (record { words = n; behind = d }) (record { words = m; behind = e }) = cc in
    (ap (λ (y : Yielded). y.words) same, ap (λ (y : Yielded). y.behind) same)

-- a frame has as many words as is told, 2 to 258, and the next id behind this one
pub record FrameOf (id n : ℕ) (d : Cursor) (ws : List ℤ) : Type 0 where
  pub counted : n ≡ length ws
  pub worded : 2 ≤ n
  pub short : n ≤ 258
  pub named : d.id ≡ id + 1
  pub left : id < 2147483647

abbrev Framed : ℕ → Yield × List ℤ → Type 0
Framed id (r, ws) = (n : ℕ) (d : Cursor) → r ≡ yielded n d → FrameOf id n d ws

clause_framed : (id : ℕ) (ws : List TextWord) (o : Option ClosedClause) → next_clause [] ws ≡ o → Framed id (yield_clause id o)
clause_framed id ws none q = λ n d e. let z : ◌≡◌ {A = ℕ} 0 1 = cc in absurd (omega arith)
clause_framed id ws (some x) q = by_cases (ltb id 2147483647)
    (λ t.
    rw t (λ n d e.
    let same = yielded_same e in
    let many : n ≡ 2 + length x.lits = sym same.0 in
    let named : d.id ≡ id + 1 = ap (λ (b : Cursor). b.id) (sym same.1) in
    let few = clause_short ws [] (omega arith) q in
    record { counted = omega arith; worded = omega arith; short = omega arith; named = named; left = ltb-true id 2147483647 t }))
    (λ f. rw f (λ n d e. let z : ◌≡◌ {A = ℕ} 0 1 = cc in absurd (omega arith)))

first_framed : (text : List ℕ) (r : Read Cnf) → Framed 0 (yield_first text r)
first_framed text (faulty f) = λ n d e. let z : ◌≡◌ {A = ℕ} 0 1 = cc in absurd (omega arith)
first_framed text (sound x) = clause_framed 0 (body_words text) _ refl

framed : (text : List ℕ) (c : Cursor) → Framed c.id (yields text c)
framed text c = by_cases (eqb c.id 0)
    (λ t. let none = eqb-true c.id 0 t in rw none (first_framed text (read_text text)))
    (λ f. rw f (clause_framed c.id (words_left text c.at) _ refl))

module _ (text : List ℕ) (c : Cursor) where
  enough : (frame : List ℤ) → 258 ≤ length frame → yields_into text c frame ≡ into frame (yields text c)
  enough frame h = rw (le-ltb (length frame) 258 h)

  -- a call that hands out no frame
  told : (frame frame' : List ℤ) (r : Yield) → (r, frame') ≡ yields_into text c frame → 258 ≤ length frame → r ≡ (yields text c).0
  told frame frame' r e h = ap (λ (x : Yield × List ℤ). x.0) (e ∙ enough frame h)

  -- a call that does has a buffer of enough words
  fits : (frame frame' : List ℤ) (n : ℕ) (d : Cursor) → (yielded n d, frame') ≡ yields_into text c frame → 258 ≤ length frame
  fits frame frame' n d e = by_cases (ltb (length frame) 258)
      (λ t.
      let short : (yielded n d, frame') ≡ (Err NoBuffer, frame) = rw t at e in
      let none : ◌≡◌ {A = Yield} (yielded n d) (Err NoBuffer) = ap (λ (x : Yield × List ℤ). x.0) short in
      let z : ◌≡◌ {A = ℕ} 0 1 = cc in
      absurd (omega arith))
      (λ f. ltb-false (length frame) 258 f)

  handed : (frame frame' : List ℤ) (n : ℕ) (d : Cursor) → (yielded n d, frame') ≡ yields_into text c frame → take n frame' ≡ (yields text c).1
  handed frame frame' n d e =
      let all = e ∙ enough frame (fits frame frame' n d e) in
      let many = (framed text c n d (sym (ap (λ (x : Yield × List ℤ). x.0) all))).counted in
      ap (take n) (ap (λ (x : Yield × List ℤ). x.1) all) ∙ ap (λ (k : ℕ). take k (over frame (yields text c).1)) many ∙ take-append_seam (yields text c).1 _

-- ---- what a call that hands out a frame comes to

pub record HandedOut (c : Cursor) (frame : List ℤ) (n : ℕ) (d : Cursor) (frame' : List ℤ) : Type 0 where
  pub worded : 2 ≤ n
  pub short : n ≤ 258
  pub named : d.id ≡ c.id + 1
  pub last : d.id ≤ 2147483647
  pub wide : length frame' ≡ length frame

pub handed_out : (text : List ℕ) (c : Cursor) (frame frame' : List ℤ) (n : ℕ) (d : Cursor) → (yielded n d, frame') ≡ yields_into text c frame
    → HandedOut c frame n d frame'
handed_out text c frame frame' n d e =
    let h = fits text c frame frame' n d e in
    let all = e ∙ enough text c frame h in
    let f = framed text c n d (sym (ap (λ (x : Yield × List ℤ). x.0) all)) in
    let words = (yields text c).1 in
    record {
      worded = f.worded;
      short = f.short;
      named = f.named;
      last = omega (arith, f.named, f.left);
      wide = ap length (ap (λ (x : Yield × List ℤ). x.1) all) ∙ length_over frame words (omega (arith, f.counted, f.short));
    }

-- ---- frames that lead on

pub leads_none : (text : List ℕ) (c : Cursor) → Leads text c [] c
leads_none text c = λ gs r s. s

-- one frame more
pub leads_on : {text : List ℕ} {c d : Cursor} (fs : List (List ℤ)) → Leads text c fs d → (frame : List ℤ) (n : ℕ) (e : Cursor) (frame' : List ℤ)
    → (yielded n e, frame') ≡ yields_into text d frame → Leads text c (fs ++ (take n frame' ∷ [])) e
leads_on fs l frame n e frame' q = λ gs r s. let whole = l _ r (then_frame frame n e frame' q s) in rw (append_assoc fs (take n frame' ∷ []) gs) whole

-- no frame more
pub leads_end : {text : List ℕ} {c d : Cursor} (fs : List (List ℤ)) → Leads text c fs d → {r : Yield} → Series text d [] r → Series text c fs r
leads_end fs l {r} s = let whole = l [] r s in rw (append-nil fs) at whole

-- ---- any two series from one cursor agree

pub series_agree : {text : List ℕ} {c : Cursor} {fs gs : List (List ℤ)} {r q : Yield} → Series text c fs r → Series text c gs q → (fs ≡ gs) × (r ≡ q)
series_agree {text} {c} (no_frame frame r frame' e h last) (no_frame other q other' u k last₂) =
    (refl, told text c frame frame' r e h ∙ sym (told text c other other' q u k))
series_agree {text} {c} (no_frame frame r frame' e h last) (then_frame other n d other' u more) =
    absurd (last n d (told text c frame frame' r e h ∙ sym (told text c other other' (yielded n d) u (fits text c other other' n d u))))
series_agree {text} {c} (then_frame frame n d frame' e more) (no_frame other q other' u k last) =
    absurd (last n d (told text c other other' q u k ∙ sym (told text c frame frame' (yielded n d) e (fits text c frame frame' n d e))))
series_agree {text} {c} (then_frame frame n d frame' e more) (then_frame other m b other' u more₂) =
    let here = told text c frame frame' (yielded n d) e (fits text c frame frame' n d e) in
    let there = told text c other other' (yielded m b) u (fits text c other other' m b u) in
    let same : d ≡ b = (yielded_same (here ∙ sym there)).1 in
    let rest = series_agree more (rw (sym same) at more₂) in
    (ap₂ (λ (f : List ℤ) (fs : List (List ℤ)). f ∷ fs) (handed text c frame frame' n d e ∙ sym (handed text c other other' m b u)) rest.0, rest.1)

-- ---- the series of a text

-- a buffer of just enough words
abbrev buffer : List ℤ
buffer = replicate 258 (pos 0)

module _ (text : List ℕ) where
  ended : (c : Cursor) (r : Yield) → yields text c ≡ (r, []) → ((n : ℕ) (d : Cursor) → r ≡ yielded n d → ⊥) → Series text c [] r
  ended c r e last = no_frame buffer r buffer (ap (into buffer) (sym e) ∙ sym (enough text c buffer (omega arith))) (omega arith) last

  more : (c : Cursor) (n : ℕ) (d : Cursor) (ws : List ℤ) → yields text c ≡ (yielded n d, ws) → {fs : List (List ℤ)} {r : Yield} → Series text d fs r
      → Series text c (ws ∷ fs) r
  more c n d ws e s =
      let call : (yielded n d, over buffer ws) ≡ yields_into text c buffer = ap (into buffer) (sym e) ∙ sym (enough text c buffer (omega arith)) in
      let words : take n (over buffer ws) ≡ ws = handed text c buffer (over buffer ws) n d call ∙ ap (λ (x : Yield × List ℤ). x.1) e in
      let out : Series text c (take n (over buffer ws) ∷ _) _ = then_frame buffer n d (over buffer ws) call s in
      rw words at out

  no_frame_told : (n : ℕ) (d : Cursor) → Ok None ≡ yielded n d → ⊥
  no_frame_told n d e = let z : ◌≡◌ {A = ℕ} 0 1 = cc in omega arith

  -- a cursor stands before the words ws
  abbrev Before : Cursor → List TextWord → Type 0
  Before c ws = (yields text c ≡ yield_clause c.id (next_clause [] ws)) × Standing text ws

  -- the cursor behind a clause
  behind : (id : ℕ) (x : ClosedClause) → ClauseBehind text x → Before (record { at = x.behind; id = id + 1 }) x.rest
  behind id x b =
      let left = left_behind text x.behind (behind_ends text x.behind b.behind) ∙ sym b.rest in
      let later = ne_eqb (id + 1) 0 (λ e. omega arith) in
      (rw later (ap (λ (ws : List TextWord). yield_clause (id + 1) (next_clause [] ws)) left), rw b.rest (from_stands text x.behind))

  -- the clauses that are left
  module _ (vars : ℕ) (few : vars ≤ 2048) where
    series_on : (cs : List (List ℤ)) (c : Cursor) (ws : List TextWord) → Before c ws → read_clauses vars (length text) [] ws ≡ sound cs
        → c.id + length cs ≤ 2147483647
        → Series text c (add_frames (c.id + 1) cs) (Ok None)
    unfolding add_frames next_clause
    series_on [] c ws b e h = ⊎_elim
        (λ n. ended c (Ok None) (b.0 ∙ rw n.1) no_frame_told)
        (λ n. let z : ◌≡◌ {A = ℕ} 0 1 = cc in absurd (omega arith))
        (clause_next vars (length text) few ws [] [] e)
    series_on (l ∷ cs) c ws b e h = ⊎_elim
        (λ n. let z : ◌≡◌ {A = ℕ} 0 1 = cc in absurd (omega arith))
        (λ n.
        let x = n.clause in
        let same = n.same in
        let first : l ≡ x.lits = cc in
        let rest : cs ≡ n.others = cc in
        let named = lt-ltb c.id 2147483647 (omega arith) in
        let y : yields text c ≡ (yielded (2 + length l) (record { at = x.behind; id = c.id + 1 }), add_frame (c.id + 1) l) = b.0
        ∙ rw (n.next, named, first) in
        let next = behind c.id x (clause_behind text ws [] b.1 n.next) in
        more c (2 + length l) _ _ y (series_on cs _ x.rest next (n.read ∙ ap sound (sym rest)) (omega arith)))
        (clause_next vars (length text) few ws [] (l ∷ cs) e)

  -- ---- from a cursor that has handed out nothing

  module _ (c : Cursor) (fresh : c.id ≡ 0) where
    at_first : yields text c ≡ yield_first text (read_text text)
    at_first = rw (eq-eqb c.id 0 fresh)

    pub sound_series : (x : Cnf) → read_text text ≡ sound x → length x.clauses ≤ 2147483647 → Series text c (frames_of (sound x)) (Ok None)
    sound_series x e h =
        let b = text_body text e in
        let y : yields text c ≡ yield_clause c.id (next_clause [] (body_words text)) = at_first ∙ rw (e, fresh) in
        let all = series_on x.vars b.high x.clauses c (body_words text) (y, body_stands text) b.read (omega arith) in
        let one : c.id + 1 ≡ 1 = omega arith in
        rw one at all

    pub faulty_series : (f : TextFault) → read_text text ≡ faulty f → Series text c [] (Err (Faulty f))
    faulty_series f e = ended c (Err (Faulty f)) (at_first ∙ rw e) (λ n d q. let z : ◌≡◌ {A = ℕ} 0 1 = cc in omega arith)

    -- "with ids 1, 2, 3 and so on", as long as there are ids: exactly the frames of the text, and then none is left
    pub frames_handed_out : (x : Cnf) → read_text text ≡ sound x → length x.clauses ≤ 2147483647 → {fs : List (List ℤ)} {r : Yield} → Series text c fs r
        → (fs ≡ frames_of (read_text text)) × (r ≡ Ok None)
    frames_handed_out x e h s = rw e (series_agree s (sound_series x e h))

    -- "A text with a fault yields no frame"
    pub no_frame_of_a_fault : (f : TextFault) → read_text text ≡ faulty f → {fs : List (List ℤ)} {r : Yield} → Series text c fs r → (fs ≡ []) × (r ≡ Err (Faulty f))
    no_frame_of_a_fault f e s = series_agree s (faulty_series f e)
