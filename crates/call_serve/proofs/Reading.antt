-- The input that is read part by part: what was fed since the start, one part more, and what it comes to.
use mathlib.Core.Path.{◌≡◌, subst}
use mathlib.Core.Bool.{Bool, false, ◌||◌}
use mathlib.Core.List.{List, [], ◌++◌}
use Prim.Native.Nat.{ℕ, ◌≤◌}
use native.Mathlib.Omega.{arith}
use lib.IntN.{ℤ}
use lib.ListN.{length, take}
use Rattle.table.specs.Spelled.{Row, Fit, spelled}
use Rattle.table.specs.declared.Table.{Table}
use Rattle.line_read.specs.Machine.{fresh, line_of}
use Rattle.line_read.specs.declared.Reader.{Reader}
use Rattle.line_read.proofs.Reading.{fresh_read}
use Rattle.line_close.specs.Replies.{Feedable}
use Rattle.line_feed.proofs.Tables.{Tables, tables_start, tables_more}
use Rattle.call_serve.specs.Serving.{Attending, Pumping}
use Rattle.call_serve.specs.declared.Pumped.{Pumped}
use Rattle.call_serve.proofs.Onward.{After, after_none, after_both}

-- some bytes were fed since the start
pub record Read (rows₀ : List Row) (pool₀ : List ℤ) (stack₀ : List ℕ) (table₀ : Table) (rows : List Row) (pool : List ℤ) (stack : List ℕ) (frame : List ℤ)
    (reader : Reader) (table : Table) (altered : Bool) : Type 0 where
  pub bytes : List ℕ
  pub after : After bytes fresh (spelled table₀ rows₀ pool₀ stack₀) (line_of reader frame) (spelled table rows pool stack) altered
  pub tables : Tables table₀ rows₀ pool₀ stack₀ altered table rows pool stack
  pub most : reader.digits ≤ 32768

-- none yet
pub none_read : {rows : List Row} {pool : List ℤ} {stack : List ℕ} {t : Table} {r : Reader} (frame : List ℤ) →
    Fit t rows pool stack → (r.digits ≡ 0) × (r.word ≡ 0) × (r.spoilt ≡ false) → Read rows pool stack t rows pool stack frame r t false
none_read {rows} {pool} {stack} {t} {r} frame fit z =
    let s = spelled t rows pool stack in
    record {
      bytes = [];
      after = subst (λ l. After [] l s (line_of r frame) s false) (fresh_read r frame z) (after_none (line_of r frame) s);
      tables = tables_start fit;
      most = omega (arith, z.0);
    }

module _ {rows₀ : List Row} {pool₀ : List ℤ} {stack₀ : List ℕ} {t : Table} {rows : List Row} {pool : List ℤ} {stack : List ℕ} {frame : List ℤ}
    {reader : Reader} {table : Table} {altered : Bool} (d : Read rows₀ pool₀ stack₀ t rows pool stack frame reader table altered) where
  pub read_feeds : 4096 ≤ length frame → Feedable table rows pool stack reader frame
  read_feeds wide = record { fit = d.tables.fit; most = d.most; wide = wide }

  -- a part more
  pub read_more : {part : List ℕ} {q : Pumped} {frame' : List ℤ} {rows' : List Row} {pool' : List ℤ} {stack' : List ℕ} {now : Bool} →
      Pumping part reader frame table rows pool stack q frame' rows' pool' stack' → now ≡ (altered || q.altered) →
      Read rows₀ pool₀ stack₀ t rows' pool' stack' frame' q.reader q.table now
  read_more {part} {q} e told =
      record {
        bytes = d.bytes ++ take q.taken part;
        after = after_both d.after (record { line = e.line; state = e.state; told = e.altered.told_so }) told;
        tables = tables_more d.tables e.feedable.fit e.altered told;
        most = e.feedable.most;
      }

  -- what was fed in all
  pub attended : (bs : List ℕ) × Attending bs t rows₀ pool₀ stack₀ (record { table = table; altered = altered }) rows pool stack
  attended = (d.bytes, record { fit = d.tables.fit; state = d.after.state; altered = record { told_so = d.after.told; left = d.tables.left } })
