-- What a loop over lines keeps of the working tables: they fit, and while no line was an accepted change they are what they were.
use mathlib.Core.Path.{◌≡◌, refl, sym, ◌∙◌}
use mathlib.Core.Bool.{Bool, false, ◌||◌}
use mathlib.Core.List.{List}
use Prim.Native.Nat.{ℕ}
use lib.IntN.{ℤ}
use Rattle.rules.proofs.Lists.{or-false}
use Rattle.table.specs.Spelled.{Row, Fit, Same}
use Rattle.table.specs.declared.Table.{Table}
use Rattle.line_close.specs.Replies.{Altering}

pub same_none : (t : Table) (rows : List Row) (pool : List ℤ) (stack : List ℕ) → Same t rows pool stack t rows pool stack
same_none t rows pool stack = record { table = refl; same_rows = refl; same_pool = refl; same_stack = refl }

pub same_then : {t t₁ t₂ : Table} {rows rows₁ rows₂ : List Row} {pool pool₁ pool₂ : List ℤ} {stack stack₁ stack₂ : List ℕ}
    → Same t rows pool stack t₁ rows₁ pool₁ stack₁ → Same t₁ rows₁ pool₁ stack₁ t₂ rows₂ pool₂ stack₂ → Same t rows pool stack t₂ rows₂ pool₂ stack₂
same_then p q =
    record {
      table = q.table ∙ p.table;
      same_rows = q.same_rows ∙ p.same_rows;
      same_pool = q.same_pool ∙ p.same_pool;
      same_stack = q.same_stack
          ∙ p.same_stack;
    }

pub record Tables (t₀ : Table) (rows₀ : List Row) (pool₀ : List ℤ) (stack₀ : List ℕ) (altered : Bool) (t : Table) (rows : List Row) (pool : List ℤ)
    (stack : List ℕ) : Type 0 where
  pub fit : Fit t rows pool stack
  pub left : altered ≡ false → Same t₀ rows₀ pool₀ stack₀ t rows pool stack

pub tables_start : {t : Table} {rows : List Row} {pool : List ℤ} {stack : List ℕ} → Fit t rows pool stack → Tables t rows pool stack false t rows pool stack
tables_start {t} {rows} {pool} {stack} f = record { fit = f; left = λ e. same_none t rows pool stack }

-- one line, or a run of lines, more
pub tables_more : {t₀ : Table} {rows₀ : List Row} {pool₀ : List ℤ} {stack₀ : List ℕ} {altered : Bool} {t : Table} {rows : List Row} {pool : List ℤ}
    {stack : List ℕ}
    → Tables t₀ rows₀ pool₀ stack₀ altered t rows pool stack
    → {told more now : Bool} {t' : Table} {rows' : List Row} {pool' : List ℤ} {stack' : List ℕ} → Fit t' rows' pool' stack' →
    Altering told more t rows pool stack t' rows' pool' stack'
    → now ≡ (altered || more) → Tables t₀ rows₀ pool₀ stack₀ now t' rows' pool' stack'
tables_more {altered} k {more} f a either =
    record { fit = f; left = λ e. let b = or-false altered more (sym either ∙ e) in same_then (k.left b.0) (a.left b.1) }
