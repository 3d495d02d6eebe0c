-- The turns of `add_all`: a call of `next`, then of `add`, over tables that spell what was added.
use mathlib.Core.Path.{◌≡◌, refl, sym, ap, ◌∙◌}
use mathlib.Core.List.{List}
use Prim.Native.Nat.{ℕ, ◌≤◌}
use lib.IntN.{ℤ}
use lib.ListN.{length}
use Rattle.rules.specs.Frames.{ADD}
use Rattle.rules.specs.Answers.{numbers}
use Rattle.rules.specs.Results.{Answer}
use Rattle.rules.specs.Terms.{State}
use Rattle.table.specs.Spelled.{Row, spelled, Fit}
use Rattle.table.specs.declared.Table.{Table}
use Rattle.step_changes.specs.Applied.{Applied}
use Rattle.step_changes.proofs.Passing.{answers, moves}
use Rattle.step_outcome.specs.Told.{changed_with}
use Rattle.rules.specs.declared.Fault.{Fault}
use Rattle.dimacs.specs.Reading.{sound, Cnf, read_text}
use Rattle.dimacs_frames.specs.Yields.{yields_into}
use Rattle.dimacs_frames.specs.declared.Cursor.{Cursor}
use Rattle.dimacs_frames.specs.Yielding.{Yield, yielded}
use Rattle.lrat.specs.Checking.{ask_room, fill, opened_for}
use Rattle.lrat_fill.specs.Filling.{FillAsked, Fills}
use Rattle.std.specs.Prelude.{Result, Ok, Err}
use Rattle.lrat_fill.specs.declared.Unfilled.TheVariants.{Full}
use Rattle.lrat_fill.proofs.Left.{lits_in}
use Rattle.lrat_fill.proofs.Adding.{Adding, Offered, adding_first, adding_frame, adding_none, offered_code, offered_full, offered_passes, offered_added}

-- from the table t over the pool₀, the tables came to this with the clauses before the cursor
pub record Going (text : List ℕ) (t : Table) (pool₀ : List ℤ) (stack : List ℕ) (c : Cursor) (table : Table) (rows : List Row) (pool : List ℤ) : Type 0 where
  pub cnf : Cnf
  pub reads : read_text text ≡ sound cnf
  pub vars : t.vars ≡ cnf.vars
  pub fit : Fit table rows pool stack
  pub kept : length pool ≡ length pool₀
  pub adding : Adding text cnf.vars (fill (opened_for t.entries (length pool₀) cnf) 1 cnf.clauses) c (spelled table rows pool stack)

pub going_first : {text : List ℕ} {t : Table} {rows : List Row} {pool : List ℤ} {stack : List ℕ} → FillAsked text t rows pool stack → (c : Cursor) → c.id ≡ 0
    → Going text t pool stack c t rows pool
going_first {text} {t} {rows} {pool} f c fresh = record {
  cnf = f.cnf;
  reads = f.reads;
  vars = ap (λ (s : State). s.vars) f.opens;
  fit = f.fit;
  kept = refl;
  adding = adding_first text f.cnf f.reads t.entries (length pool) f.fit.entries_lent f.opens c fresh;
}

module _ {text : List ℕ} {t : Table} {pool₀ : List ℤ} {stack : List ℕ} {c : Cursor} {table : Table} {rows : List Row} {pool : List ℤ}
    (g : Going text t pool₀ stack c table rows pool) (frame frame' : List ℤ) (wide : 258 ≤ length frame) where
  -- no frame more
  pub going_end : (r : Yield) → (r, frame') ≡ yields_into text c frame → ((n : ℕ) (d : Cursor) → r ≡ yielded n d → ⊥)
      → Fills t.entries (read_text text) (Ok table) rows pool₀ pool stack
  going_end r q last = let e = g.reads in rw e (record { kept = g.kept; fills = (g.fit, adding_none g.adding frame frame' wide r q last) })

  -- a frame, whose clause was offered to the tables
  module _ (n : ℕ) (d : Cursor) (q : (yielded n d, frame') ≡ yields_into text c frame) where
    abbrev s : State
    s = spelled table rows pool stack

    offered : Offered text g.cnf.vars (fill (opened_for t.entries (length pool₀) g.cnf) 1 g.cnf.clauses) d s (lits_in n frame')
    offered = adding_frame g.adding frame frame' wide n d q

    module _ (r : Result Table Fault) (rows' : List Row) (pool' : List ℤ) (a : Applied table rows pool stack (ADD d.id (lits_in n frame')) r rows' pool' stack)
        (same : length pool' ≡ length pool) where
      told : (numbers (changed_with r table).answer).0 ≡ ask_room s (lits_in n frame') 0
      told = ap (λ (x : Answer). (numbers x).0) (answers table rows pool stack (ADD d.id (lits_in n frame')) rows' pool' stack r a) ∙ offered_code offered

      pub going_full : (code : ℕ) → code ≡ (numbers (changed_with r table).answer).0 → (code ≡ 0 → ⊥)
          → Fills t.entries (read_text text) (Err (Full code t.vars)) rows' pool₀ pool' stack
      going_full code e some =
          let x = g.reads in
          rw x (record { kept = same ∙ g.kept; fills = (offered_full offered code (e ∙ told) some, g.vars) })

      pub going_on : (numbers (changed_with r table).answer).0 ≡ 0 → Going text t pool₀ stack d (changed_with r table).table rows' pool'
      going_on e =
          let room = sym told ∙ e in
          let m = moves table rows pool stack (ADD d.id (lits_in n frame')) rows' pool' stack r a (offered_passes offered room) in
          record {
            cnf = g.cnf;
            reads = g.reads;
            vars = g.vars;
            fit = m.fit;
            kept = same ∙ g.kept;
            adding = offered_added offered room m.state;
          }
