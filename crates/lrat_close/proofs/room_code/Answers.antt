use mathlib.Core.Path.{◌≡◌, refl}
use mathlib.Core.List.{List}
use Prim.Native.Nat.{ℕ, ◌+◌, ◌-◌, ◌<◌, ◌≤◌}
use native.Mathlib.Omega.{arith}
use lib.IntN.{ℤ}
use lib.ListN.{length}
use borrow.Author.Tests.{lt-ltb, le-ltb, le-leb, lt-leb}
use Rattle.table.specs.Spelled.{Row, Fit, spelled}
use Rattle.table.specs.declared.Table.{Table}
use Rattle.table.proofs.Readers.{gone_most, count_held, words_held}
use Rattle.lrat.specs.Checking.{ask_room}
use Rattle.lrat_close.proofs.room_code.Goals as goal

-- the rows in use, less those whose clause is gone, are the clauses held
module _ {t : Table} {rows : List Row} {pool : List ℤ} {stack : List ℕ} (f : Fit t rows pool stack) (c : List ℤ) {n : ℕ} (e : length c ≡ n) where
  full : t.entries + t.gone ≤ t.count → 12 ≡ ask_room (spelled t rows pool stack) c 0
  full h = rw (count_held f, le-ltb (t.count - t.gone) t.entries (omega arith)) refl

  module _ (h : t.count < t.entries + t.gone) where
    used_up : length pool < t.words + n → 13 ≡ ask_room (spelled t rows pool stack) c 0
    used_up k =
        rw (count_held f, lt-ltb (t.count - t.gone) t.entries (omega (arith, gone_most f)), words_held f, e, lt-leb (t.words + n) (length pool) k) refl

    left : t.words + n ≤ length pool → 0 ≡ ask_room (spelled t rows pool stack) c 0
    left k =
        rw (count_held f, lt-ltb (t.count - t.gone) t.entries (omega (arith, gone_most f)), words_held f, e, le-leb (t.words + n) (length pool) k) refl

pub returns-then-most-count : goal.returns-then-most-count
returns-then-most-count c k e = full c.requires.0 k e c.if-most-count.true

pub returns-then-pool-words : goal.returns-then-pool-words
returns-then-pool-words c k e = used_up c.requires.0 k e c.if-most-count.false c.if-pool-words.true

pub returns : goal.returns
returns c k e = left c.requires.0 k e c.if-most-count.false c.if-pool-words.false
