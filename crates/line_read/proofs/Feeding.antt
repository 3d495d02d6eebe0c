-- A loop that feeds a part to reader, checker and writer: what holds at its head, and each way on.
use mathlib.Core.Path.{◌≡◌, refl, sym, ap, ap₂, ◌∙◌}
use mathlib.Core.Bool.{Bool, false, ◌||◌, or-false}
use mathlib.Core.List.{List, [], ◌∷◌, ◌++◌, append-nil}
use Prim.Native.Nat.{ℕ, ◌+◌, ◌-◌, ◌≤◌, ◌<◌}
use native.Mathlib.Omega.{arith}
use lib.IntN.{ℤ}
use lib.ListN.{length, take, drop, get_or, drop_of_length-le}
use lib.Seq.{slice, slice_empty, length-take-le, length-slice}
use borrow.Author.Tests.{eq-eqb, ne_eqb}
use Rattle.rules.specs.Terms.{State}
use Rattle.rules.proofs.Lists.{from_index}
use Rattle.line_read.specs.Lines.{line_outcome}
use Rattle.line_read.specs.Machine.{line_of, push, frame, Session, session_of, move, session_after}
use Rattle.line_read.specs.Parts.{closes, state_after, line_alters, some_alters, largest_reply, taken_of}
use Rattle.line_read.specs.Lent.{Took, LineClosed, LinesFed}
use Rattle.line_read.specs.declared.Reader.{Reader}
use Rattle.text.proofs.Slices.{slice_snoc, slice_join, slice_drop, drop_further}
use Rattle.line_read.proofs.Reading.{fresh_read}
use Rattle.line_read.proofs.Program.{run_append, run_snoc}
use Rattle.line_read.proofs.Parts.{run_by_lines, run_unclosed, closes_append, closes_none, alters_append, taken_unclosed, taken_one, taken_none}
use Rattle.line_read.proofs.Parts.{line_lasts}
use Rattle.line_read.proofs.Replies.{reply_room}

-- the bytes before place i of the part are fed: r₀ became what reader, frame buffer, state and the first a bytes of the out buffer hold
pub record Feeding (part : List ℕ) (from : ℕ) (r₀ : Session) (frame : List ℤ) (out₀ out : List ℕ) (i a : ℕ) (r : Reader) (s : State)
    (altered : Bool) : Type 0 where
  pub low : from ≤ i
  pub high : i ≤ length part
  pub moved : session_of r frame s out a ≡ session_after r₀ (slice from i part)
  -- and as many more are taken as from here on
  pub taken : from + taken_of (length out₀) r₀ (drop from part) ≡ i + taken_of (length out₀) (session_of r frame s out a) (drop i part)
  pub told : altered ≡ some_alters r₀.state (closes r₀.line (slice from i part))
  pub most : r.digits ≤ 32768
  pub room : a ≤ length out₀
  pub vars : s.vars ≤ 2048
  pub wide : 4096 ≤ length frame
  pub kept : length out ≡ length out₀
  pub behind : drop a out ≡ drop a out₀

pub feeding_start : (part : List ℕ) (from : ℕ) (r : Reader) (frame : List ℤ) (s : State) (out : List ℕ) (a : ℕ)
    → from ≤ length part → r.digits ≤ 32768 → a ≤ length out → s.vars ≤ 2048 → 4096 ≤ length frame
    → Feeding part from (session_of r frame s out a) frame out out from a r s false
unfolding session_after closes some_alters
feeding_start part from r frame s out a h m k v w = record {
  low = omega arith;
  high = h;
  moved = ap (session_after (session_of r frame s out a)) (sym (slice_empty from part));
  taken = refl;
  told = rw (slice_empty from part);
  most = m;
  room = k;
  vars = v;
  wide = w;
  kept = refl;
  behind = refl;
}

module _ {part : List ℕ} {from : ℕ} {r₀ : Session} {frame₁ : List ℤ} {out₀ out : List ℕ} {i a : ℕ} {r : Reader} {s : State} {altered : Bool}
    (f : Feeding part from r₀ frame₁ out₀ out i a r s altered) where
  abbrev here : Session
  here = session_of r frame₁ s out a

  -- with room for one more reply
  module _ (k : a + largest_reply ≤ length out₀) where
    room_here : length here.out + largest_reply ≤ length out₀
    room_here = omega (arith, length-take-le a out (omega (arith, f.room, f.kept)))

    -- whole words
    pub feeding_words : {i' : ℕ} {r' : Reader} {frame' : List ℤ} → Took part i i' (line_of r frame₁) (line_of r' frame') → length frame' ≡ length frame₁
        → Feeding part from r₀ frame' out₀ out i' a r' s altered
    feeding_words {i'} {r'} {frame'} t l =
        let bs = slice i i' part in
        let on : session_of r' frame' s out a ≡ session_after here bs = ap (λ x. record { line = x; state = s; out = take a out }) t.read
        ∙ sym (run_unclosed bs here t.unclosed) in
        let join = slice_join from i i' part f.low t.low t.high in
        let closed : closes r₀.line (slice from i' part) ≡ closes r₀.line (slice from i part) =
        ap (closes r₀.line) (sym join) ∙ closes_append (slice from i part) bs r₀.line
        ∙ ap (λ x. closes r₀.line (slice from i part) ++ x) (closes_none bs _ t.unclosed) ∙ append-nil (closes r₀.line (slice from i part))
        in
        record {
          low = omega (arith, f.low, t.low);
          high = t.high;
          moved = on ∙ ap (λ x. session_after x bs) f.moved ∙ sym (run_append r₀ (slice from i part) bs) ∙ ap (session_after r₀) join;
          taken =
              let more = ap (taken_of (length out₀) here) (slice_drop i i' part t.low t.high)
              ∙ taken_unclosed bs (drop i' part) (length out₀) here t.unclosed room_here in
              let at : taken_of (length out₀) (session_after here bs) (drop i' part) ≡ taken_of (length out₀) (session_of r' frame' s out a) (drop i' part) = ap
              (λ x. taken_of (length out₀) x (drop i' part)) (sym on) in
              omega (arith, f.taken, more, at, length-slice i i' part t.high, t.low);
          told = f.told ∙ ap (some_alters r₀.state) (sym closed);
          most = t.most;
          room = f.room;
          vars = f.vars;
          wide = omega (arith, f.wide);
          kept = f.kept;
          behind = f.behind;
        }

    -- one byte
    module _ (h : i < length part) where
      abbrev b : ℕ
      b = get_or part i 0

      on : move here b ≡ session_after r₀ (slice from (i + 1) part)
      on = rw (slice_snoc from i part f.low h, run_snoc r₀ (slice from i part) b, ← f.moved)

      taken_on : {x : Session} → x ≡ move here b → from + taken_of (length out₀) r₀ (drop from part) ≡ i + 1 + taken_of (length out₀) x (drop (i + 1) part)
      taken_on e =
          let more = ap (taken_of (length out₀) here) (from_index part i 0 h) ∙ taken_one (length out₀) here b (drop (i + 1) part) room_here in
          let at = ap (λ y. taken_of (length out₀) y (drop (i + 1) part)) e in
          omega (arith, f.taken, more, at)

      -- the lines closed so far, and what the state is after them
      closed_on : closes r₀.line (slice from (i + 1) part) ≡ closes r₀.line (slice from i part) ++ closes (line_of r frame₁) (b ∷ [])
      closed_on =
          ap (closes r₀.line) (slice_snoc from i part f.low h) ∙ closes_append (slice from i part) (b ∷ []) r₀.line
          ∙ ap (λ x. closes r₀.line (slice from i part) ++ closes x (b ∷ []))
          (sym (ap (λ (x : Session). x.line) (f.moved ∙ run_by_lines (slice from i part) r₀)))

      state_here : state_after r₀.state (closes r₀.line (slice from i part)) ≡ s
      state_here = sym (ap (λ (x : Session). x.state) (f.moved ∙ run_by_lines (slice from i part) r₀))

      told_on : some_alters r₀.state (closes r₀.line (slice from (i + 1) part)) ≡ (altered || some_alters s (closes (line_of r frame₁) (b ∷ [])))
      told_on =
          ap (some_alters r₀.state) closed_on ∙ alters_append (closes r₀.line (slice from i part)) (closes (line_of r frame₁) (b ∷ [])) r₀.state
          ∙ ap₂ (λ x y. x || some_alters y (closes (line_of r frame₁) (b ∷ []))) (sym f.told) state_here

      pub feeding_push : {r' : Reader} {frame' : List ℤ} → (b ≡ 10 → ⊥) → r'.digits ≤ 32768
          → line_of r' frame' ≡ push (line_of r frame₁) b → length frame' ≡ length frame₁ → Feeding part from r₀ frame' out₀ out (i + 1) a r' s altered
      unfolding move closes some_alters
      feeding_push {r'} {frame'} n m e l =
          let other = ne_eqb b 10 n in
          let same : session_of r' frame' s out a ≡ record { line = push (line_of r frame₁) b; state = s; out = take a out } = ap
          (λ x. record { line = x; state = s; out = take a out }) e in
          record {
            low = omega (arith, f.low);
            high = omega arith;
            moved = same ∙ rw other at on;
            taken = taken_on (rw other same);
            told = sym (told_on ∙ rw other (or-false altered));
            most = m;
            room = f.room;
            vars = f.vars;
            wide = omega (arith, f.wide);
            kept = f.kept;
            behind = f.behind;
          }

      -- a line closed
      pub feeding_close : {r' : Reader} {s' : State} {out' : List ℕ} {a' : ℕ} → b ≡ 10 → (r'.digits ≡ 0) × (r'.word ≡ 0) × (r'.spoilt ≡ false)
          → LineClosed s (line_of r frame₁) out a s' out' a' → length out' ≡ length out
          → Feeding part from r₀ frame₁ out₀ out' (i + 1) a' r' s' (altered || line_alters s (frame (line_of r frame₁)))
      unfolding move closes some_alters
      feeding_close {r'} {s'} {out'} {a'} e z c l =
          let empty = fresh_read r' frame₁ z in
          let far = reply_room s.vars (line_outcome s (frame (line_of r frame₁))) f.vars c.wrote in
          let last = eq-eqb b 10 e in
          let same : session_of r' frame₁ s' out' a' ≡ move here b = rw (empty, c.wrote.bytes, c.state, last) refl in
          record {
            low = omega (arith, f.low);
            high = omega arith;
            moved = same ∙ on;
            taken = taken_on same;
            told = sym (told_on ∙ rw last (ap (λ x. altered || x) (or-false (line_alters s (frame (line_of r frame₁))))));
            most = omega (arith, z.0);
            room = omega (arith, far);
            vars = omega (arith, ap (λ x. x.vars) c.state, (line_lasts s (frame (line_of r frame₁))).0, f.vars);
            wide = f.wide;
            kept = l ∙ f.kept;
            behind = c.wrote.behind ∙ drop_further a a' out out₀ (omega (arith, c.wrote.place)) f.behind;
          }

  -- no room for one more reply, and the end of the part: nothing more is taken
  fed : taken_of (length out₀) here (drop i part) ≡ 0 → LinesFed part from i r₀ here out₀ out a
  fed e = record { taken = omega (arith, f.taken); moved = f.moved; most = f.most; room = f.room; kept = f.kept; behind = f.behind }

  pub fed_room : length out₀ - a < largest_reply → LinesFed part from i r₀ here out₀ out a
  fed_room h = fed (taken_none (length out₀) here (drop i part) (omega (arith, length-take-le a out (omega (arith, f.room, f.kept)), f.room)))

  pub fed_end : length part ≤ i → LinesFed part from i r₀ here out₀ out a
  unfolding taken_of
  fed_end h = let e = drop_of_length-le part h in fed (rw e)
