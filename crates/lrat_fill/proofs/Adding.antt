-- Clauses of a text, added one by one: each asks for room alone, and what is left comes to what the definition says of the whole.
use mathlib.Core.Path.{◌≡◌, refl, sym, ap, ap₂, ◌∙◌}
use mathlib.Core.Bool.{Bool, true, false}
use mathlib.Core.List.{List, [], ◌∷◌, ◌++◌}
use Prim.Native.Nat.{ℕ, ◌+◌, ◌≤◌, ◌<◌}
use native.Mathlib.Omega.{arith}
use lib.Dec.{ltb, leb}
use lib.IntN.{ℤ}
use lib.ListN.{length, length-append}
use borrow.Author.Tests.{ltb-true, lt-ltb, ne_eqb}
use Rattle.rules.specs.Lists.{all_pass}
use Rattle.rules.specs.Terms.{is_clause, State, everything, room}
use Rattle.rules.specs.Frames.{ADD, plain, place, next}
use Rattle.rules.specs.Answers.{numbers, ◌then◌, need, cleanly, free_entry, free_words, check}
use Rattle.rules.specs.declared.Fault.TheVariants.{NoEntry, NoWords}
use Rattle.std.specs.Prelude.{Ok}
use Rattle.rules.proofs.Lists.{all_head, all_tail}
use Rattle.rules.proofs.Checks.{clause_passes}
use Rattle.rules.proofs.Places.{length_place}
use Rattle.step_outcome.specs.Told.{answer_of}
use Rattle.dimacs.specs.Reading.{sound, Cnf, read_text}
use Rattle.dimacs.proofs.Lawful.{text_lawful}
use Rattle.dimacs_frames.specs.Yields.{yields_into}
use Rattle.dimacs_frames.specs.declared.Cursor.{Cursor}
use Rattle.dimacs_frames.specs.Yielding.{Yield, yielded}
use Rattle.dimacs_frames.proofs.Series.{handed_out}
use Rattle.lrat.specs.Checking.{ask, ask_room, Filled, full, filled, fill, opened_for}
use Rattle.lrat_fill.proofs.Left.{Left, left_first, lits_in, left_frame, left_none}

-- a state of so many variables that takes a clause under id i: nothing is stacked, and no id from i on was accepted. As many clauses as ids before it are held.
pub record Takes (vars i : ℕ) (s : State) : Type 0 where
  pub wide : s.vars ≡ vars
  pub unstacked : s.stack ≡ []
  pub new : s.highest < i
  pub lent : s.entries ≤ 1024
  pub held : i ≤ length (everything s) + 1

-- behind the cursor, with the clauses that are left, the whole comes to what they come to
pub record Adding (text : List ℕ) (vars : ℕ) (whole : Filled) (c : Cursor) (s : State) : Type 0 where
  pub rest : List (List ℤ)
  pub left : Left text vars c rest
  pub lawful : all_pass (is_clause vars) rest ≡ true
  pub takes : Takes vars (c.id + 1) s
  pub few : c.id ≤ 1024
  pub onward : whole ≡ fill s (c.id + 1) rest

-- the same, with a clause at hand that is not added yet
pub record Offered (text : List ℕ) (vars : ℕ) (whole : Filled) (d : Cursor) (s : State) (c : List ℤ) : Type 0 where
  pub others : List (List ℤ)
  pub left : Left text vars d others
  pub lawful : all_pass (is_clause vars) (c ∷ others) ≡ true
  pub takes : Takes vars d.id s
  pub onward : whole ≡ fill s d.id (c ∷ others)

-- ---- from the opening

pub adding_first : (text : List ℕ) (x : Cnf) → read_text text ≡ sound x → (entries words : ℕ) → entries ≤ 1024 → {s : State} → s ≡ opened_for entries words x
    → (c : Cursor) → c.id ≡ 0 → Adding text x.vars (fill (opened_for entries words x) 1 x.clauses) c s
adding_first text x e entries words most o c fresh =
    let one : c.id + 1 ≡ 1 = omega arith in
    record {
      rest = x.clauses;
      left = left_first text x e c fresh;
      lawful = text_lawful text e;
      takes = rw (o, one) (record { wide = refl; unstacked = refl; new = omega arith; lent = most; held = omega arith });
      few = omega arith;
      onward = rw (o, one) refl;
    }

-- ---- a call of `next`

module _ {text : List ℕ} {vars : ℕ} {whole : Filled} {c : Cursor} {s : State} (a : Adding text vars whole c s) (frame frame' : List ℤ)
    (wide : 258 ≤ length frame) where
  pub adding_frame : (n : ℕ) (d : Cursor) → (yielded n d, frame') ≡ yields_into text c frame → Offered text vars whole d s (lits_in n frame')
  adding_frame n d q =
      let h = left_frame a.left frame frame' wide n d q in
      let named : c.id + 1 ≡ d.id = sym (handed_out text c frame frame' n d q).named in
      record {
        others = h.others;
        left = h.left;
        lawful = ap (all_pass (is_clause vars)) (sym h.same) ∙ a.lawful;
        takes = rw named at a.takes;
        onward = a.onward ∙ ap₂ (fill s) named h.same;
      }

  pub adding_none : (r : Yield) → (r, frame') ≡ yields_into text c frame → ((n : ℕ) (d : Cursor) → r ≡ yielded n d → ⊥) → whole ≡ filled s
  unfolding fill
  adding_none r q last = a.onward ∙ ap (fill s (c.id + 1)) (left_none a.left frame frame' wide r q last (omega (arith, a.few)))

-- ---- a call of `add`

module _ {text : List ℕ} {vars : ℕ} {whole : Filled} {d : Cursor} {s : State} {c : List ℤ} (o : Offered text vars whole d s c) where
  -- 12 and 13 alone decide
  room_decides : check s (ADD d.id c) ≡ (free_entry s then free_words s (length c))
  unfolding check cleanly need ◌then◌
  room_decides =
      let lawful : is_clause s.vars c ≡ true = rw o.takes.wide (all_head (is_clause vars) c o.others o.lawful) in
      let u = o.takes.unstacked in
      rw (clause_passes s.vars 2 c lawful, lt-ltb s.highest d.id o.takes.new, u)

  code_of : (entry words : Bool) → (numbers (answer_of (need entry NoEntry then need words NoWords))).0 ≡ ask entry 12 (ask words 13 0)
  unfolding need ◌then◌
  code_of true true = refl
  code_of true false = refl
  code_of false words = refl

  -- the number of the answer is the definition's
  pub offered_code : (numbers (answer_of (check s (ADD d.id c)))).0 ≡ ask_room s c 0
  offered_code = let e = room_decides in rw e (code_of (ltb (length (everything s)) s.entries) (leb (room (everything s) + length c) s.words))

  free : (entry words : Bool) → ask entry 12 (ask words 13 0) ≡ 0 → (entry ≡ true) × ((need entry NoEntry then need words NoWords) ≡ Ok tt)
  unfolding need ◌then◌
  free true true e = (refl, refl)
  free true false e = absurd (omega arith)
  free false words e = absurd (omega arith)

  -- refused: the number is that of the whole
  pub offered_full : (code : ℕ) → code ≡ ask_room s c 0 → (code ≡ 0 → ⊥) → whole ≡ full code
  unfolding fill
  offered_full code e some = o.onward ∙ rw (sym e, ne_eqb code 0 some) refl

  -- accepted: the others are left
  module _ (free-room : ask_room s c 0 ≡ 0) where
    free_so : (ltb (length (everything s)) s.entries ≡ true) × ((free_entry s then free_words s (length c)) ≡ Ok tt)
    free_so = free (ltb (length (everything s)) s.entries) (leb (room (everything s) + length c) s.words) free-room

    pub offered_passes : check s (ADD d.id c) ≡ Ok tt
    offered_passes = room_decides ∙ free_so.1

    one_more_held : length (everything (next s (ADD d.id c))) ≡ length (everything s) + 1
    one_more_held =
        let p = place (plain d.id c) s.irredundant in
        let others = s.learned ++ s.stack in
        omega (arith, length-append p others, length-append s.irredundant others, length_place (plain d.id c) s.irredundant)

    next_takes : Takes vars (d.id + 1) (next s (ADD d.id c))
    next_takes =
        let t = o.takes in
        record { wide = t.wide; unstacked = t.unstacked; new = omega arith; lent = t.lent; held = omega (arith, one_more_held, t.held) }

    pub offered_added : {s' : State} → s' ≡ next s (ADD d.id c) → Adding text vars whole d s'
    unfolding fill
    offered_added e =
        let entry = ltb-true (length (everything s)) s.entries free_so.0 in
        rw e (record {
          rest = o.others;
          left = o.left;
          lawful = all_tail (is_clause vars) c o.others o.lawful;
          takes = next_takes;
          few = omega (arith, entry, o.takes.held, o.takes.lent);
          onward = o.onward ∙ rw free-room refl;
        })
