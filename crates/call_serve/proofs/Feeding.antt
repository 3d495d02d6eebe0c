-- A part that is fed call by call: what was fed so far, one call more, and what it comes to.
use mathlib.Core.Path.{◌≡◌}
use mathlib.Core.Bool.{Bool, true, ◌||◌}
use mathlib.Core.List.{List}
use Prim.Native.Nat.{ℕ, ◌≤◌}
use native.Mathlib.Omega.{arith}
use lib.IntN.{ℤ}
use lib.ListN.{length, take}
use lib.Seq.{slice}
use Rattle.table.specs.Spelled.{Row, spelled}
use Rattle.table.specs.declared.Table.{Table}
use Rattle.line_read.specs.Machine.{line_of, session_of}
use Rattle.line_read.specs.Parts.{closes, some_alters}
use Rattle.line_read.specs.Lent.{LinesFed}
use Rattle.line_read.specs.declared.Reader.{Reader}
use Rattle.line_close.specs.Replies.{Altering, Feedable}
use Rattle.line_feed.proofs.Tables.{Tables, tables_start, tables_more}
use Rattle.call_serve.specs.Serving.{Pumping}
use Rattle.call_serve.proofs.Onward.{After, after_none, fed_high, fed_more}

-- the part was fed before `from`
pub record Going (part : List ℕ) (frame₀ : List ℤ) (rows₀ : List Row) (pool₀ : List ℤ) (stack₀ : List ℕ) (reader₀ : Reader) (table₀ : Table) (frame : List ℤ)
    (rows : List Row) (pool : List ℤ) (stack : List ℕ) (from : ℕ) (reader : Reader) (table : Table) (altered : Bool) : Type 0 where
  pub high : from ≤ length part
  pub after : After (take from part) (line_of reader₀ frame₀) (spelled table₀ rows₀ pool₀ stack₀) (line_of reader frame) (spelled table rows pool stack) altered
  pub tables : Tables table₀ rows₀ pool₀ stack₀ altered table rows pool stack
  pub most : reader.digits ≤ 32768
  pub wide : 4096 ≤ length frame

module _ {part : List ℕ} {frame₀ : List ℤ} {rows₀ : List Row} {pool₀ : List ℤ} {stack₀ : List ℕ} {reader₀ : Reader} {table₀ : Table} where
  pub going_none : Feedable table₀ rows₀ pool₀ stack₀ reader₀ frame₀ →
      Going part frame₀ rows₀ pool₀ stack₀ reader₀ table₀ frame₀ rows₀ pool₀ stack₀ 0 reader₀ table₀ Bool.false
  going_none p = record { high = omega arith; after = after_none _ _; tables = tables_start p.fit; most = p.most; wide = p.wide }

  module _ {frame : List ℤ} {rows : List Row} {pool : List ℤ} {stack : List ℕ} {from : ℕ} {reader : Reader} {table : Table} {altered : Bool}
      (g : Going part frame₀ rows₀ pool₀ stack₀ reader₀ table₀ frame rows pool stack from reader table altered) where
    pub going_feeds : Feedable table rows pool stack reader frame
    going_feeds = record { fit = g.tables.fit; most = g.most; wide = g.wide }

    pub going_more : {frame' : List ℤ} {rows' : List Row} {pool' : List ℤ} {stack' : List ℕ} {from' : ℕ} {reader' : Reader} {table' : Table}
        {out out' : List ℕ} {at' : ℕ} {told now : Bool}
        → Feedable table' rows' pool' stack' reader' frame'
        → LinesFed part from from' (session_of reader frame (spelled table rows pool stack) out 0)
        (session_of reader' frame' (spelled table' rows' pool' stack') out' at') out out' at'
        → Altering (some_alters (spelled table rows pool stack) (closes (line_of reader frame) (slice from from' part))) told
        table rows pool stack table' rows' pool' stack'
        → now ≡ (altered || told)
        → Going part frame₀ rows₀ pool₀ stack₀ reader₀ table₀ frame' rows' pool' stack' from' reader' table' now
    going_more e fed alters either =
        record {
          high = fed_high fed g.high;
          after = fed_more fed g.high g.after alters.told_so either;
          tables = tables_more g.tables e.fit alters either;
          most = e.most;
          wide = e.wide;
        }

    -- what was fed so far
    pub pumped : (sent : Bool) → (sent ≡ true → length part ≤ from)
        → Pumping part reader₀ frame₀ table₀ rows₀ pool₀ stack₀ (record { taken = from; reader = reader; table = table; altered = altered; sent = sent })
        frame rows pool stack
    pumped sent h = record {
      few = g.high;
      whole = λ e. let z = h e in omega (arith, g.high);
      feedable = record { fit = g.tables.fit; most = g.most; wide = g.wide };
      line = g.after.line;
      state = g.after.state;
      altered = record { told_so = g.after.told; left = g.tables.left };
    }
