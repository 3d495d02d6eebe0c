-- From what loading, feeding and squeezing the working table promise to what a part does to the rows taken in.
use mathlib.Core.Path.{◌≡◌, refl, sym, ap, subst, ◌∙◌}
use mathlib.Core.Bool.{Bool, true, false}
use mathlib.Core.List.{List}
use mathlib.Core.Option.{some-injective, none-ne-some, some-ne-none}
use Prim.Native.Nat.{ℕ}
use native.Mathlib.Omega.{arith}
use lib.IntN.{ℤ}
use lib.ListN.{length, take}
use Rattle.rules.specs.Terms.{State}
use Rattle.table.specs.Spelled as working
use Rattle.table.specs.Spelled.{Row}
use Rattle.table.specs.declared.Table.{Table}
use Rattle.lent.specs.State.{is_state, state_of}
use Rattle.lent.specs.Stored.{PutsBack}
use Rattle.lent.specs.declared.Carried.{Carried}
use Rattle.lent.proofs.Stored.{stored_back, nothing_back}
use Rattle.lent_load.specs.Loads.{Loads}
use Rattle.std.specs.Prelude.{Some}
use Rattle.table_room.specs.Room.{Squeezed}
use Rattle.line_close.specs.Replies.{Altering}
use Rattle.line_read.specs.Machine.{line_of, Session, session_of}
use Rattle.line_read.specs.Parts.{closes, some_alters}
use Rattle.line_read.specs.Lent as lines
use Rattle.line_read.specs.declared.Reader.{Reader}
use Rattle.line_read.proofs.Parts.{run_by_lines, after_entries}
use Rattle.line_feed.specs.declared.Fed.{Fed}
use Rattle.call_give.specs.Running.{RanFrom, RanOn, give_left, give_answered, give_stored}

-- ---- the rows taken in

module _ (n : ℕ) (rows : List Row) (pool : List ℤ) (c : Carried) (r : Reader) (frame : List ℤ) (part out : List ℕ) where
  abbrev own : List Row
  own = take n rows

  pub unloaded : is_state c own pool ≡ false → {rows' : List Row} → RanOn n rows pool c r frame part out (give_left c r) rows' pool frame out
  unloaded f = record {
    answered = rw f;
    bounded = (omega arith, omega arith);
    ran = λ s d. absurd (none-ne-some s (rw f at d));
    left = λ d. (refl, refl, refl, refl);
  }

  -- a state, loaded and fed
  module _ {t : Table} {rows₁ : List Row} (loaded : Loads c own pool (Some t) rows₁) (f : Fed) {rows₂ : List Row} {pool₂ : List ℤ} {stack₂ : List ℕ}
      (frame₂ : List ℤ) {out₂ : List ℕ}
      (fed : lines.LinesFed part 0 f.from (session_of r frame (working.spelled t rows₁ pool c.stack) out 0)
      (session_of f.reader frame₂ (working.spelled f.table rows₂ pool₂ stack₂) out₂ f.at) out out₂ f.at)
      (alters : Altering (some_alters (working.spelled t rows₁ pool c.stack) (closes (line_of r frame) (take f.from part))) f.altered t rows₁ pool
      c.stack f.table rows₂ pool₂ stack₂) where
    abbrev before : State
    before = working.spelled t rows₁ pool c.stack

    abbrev after : State
    after = working.spelled f.table rows₂ pool₂ stack₂

    abbrev told : Bool
    told = some_alters before (closes (line_of r frame) (take f.from part))

    -- whatever goes back
    ran : (k : ℕ) (c' : Carried) (rows' : List Row) → PutsBack told n c pool before k c' rows' pool₂ after →
        RanOn n rows pool c r frame part out (give_answered f c' k) rows' pool₂ frame₂ out₂
    ran k c' rows' back = let is = loaded.0 in record {
      answered = rw is;
      bounded = back.bounded;
      ran =
          λ s d. subst (λ x. RanFrom x n pool c r frame part out (give_answered f c' k) rows' pool₂ frame₂ out₂)
          (loaded.2 ∙ some-injective _ s (rw is at d)) record { after = after; fed = fed; back = back };
      left = λ d. absurd (some-ne-none _ (rw is at d));
    }

    pub ran_kept : f.altered ≡ false → RanOn n rows pool c r frame part out (give_answered f c 0) rows₂ pool₂ frame₂ out₂
    ran_kept e =
        let l = alters.left e in
        let a = l.table in let b = l.same_rows in let p = l.same_pool in let k = l.same_stack in
        ran 0 c rows₂ (nothing_back (sym alters.told_so ∙ e) p (rw (a, b, p, k)))

    pub ran_stored : f.altered ≡ true → length own ≡ n → {u : Table} {rows₃ : List Row} → Squeezed f.table rows₂ pool₂ stack₂ u rows₃ →
        RanOn n rows pool c r frame part out (give_stored f u stack₂) rows₃ pool₂ frame₂ out₂
    unfolding state_of
    ran_stored e l {u} {rows₃} q =
        let bytes = take f.from part in
        let fed-state = ap (λ (x : Session). x.state) (fed.moved ∙ run_by_lines bytes (session_of r frame before out 0)) in
        let sized = ap (λ (x : State). x.entries) fed-state ∙ after_entries (closes (line_of r frame) bytes) before
        ∙ ap (λ (x : State). x.entries) loaded.2
        ∙ l in
        ran u.count _ rows₃ (stored_back q.fit q.none_gone (sym alters.told_so ∙ e) (ap (λ (x : State). x.entries) q.same ∙ sized) q.same)
