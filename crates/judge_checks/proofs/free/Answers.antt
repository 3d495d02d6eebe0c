use mathlib.Core.Path.{◌≡◌, sym, ◌∙◌}
use mathlib.Core.List.{List}
use Prim.Native.Nat.{ℕ, ◌+◌, ◌-◌, ◌<◌, ◌≤◌}
use native.Mathlib.Omega.{arith}
use lib.Dec.{leb}
use lib.IntN.{ℤ}
use lib.ListN.{length}
use borrow.Author.Rules.{rules}
use borrow.Author.Tests.{lt-ltb, le-ltb, le-leb, lt-leb}
use Rattle.rules.specs.Answers.{◌then◌, need, free_entry, free_words}
use Rattle.std.specs.Prelude.{Ok, Err}
use Rattle.rules.specs.declared.Fault.TheVariants.{NoEntry, NoWords}
use Rattle.table.specs.Spelled.{Row, Fit, spelled}
use Rattle.table.specs.declared.Table.{Table}
use Rattle.table.proofs.Readers.{gone_most, free_entry_is, free_words_is}
use Rattle.judge_checks.proofs.Order.{goes_on, stops, met, unmet}
use Rattle.judge_checks.proofs.free.Goals as goal

-- 12: the rows in use, less those whose clause is gone, are the clauses held
module _ {t : Table} {rows : List Row} {pool : List ℤ} {stack : List ℕ} (f : Fit t rows pool stack) where
  full : t.entries + t.gone ≤ t.count → free_entry (spelled t rows pool stack) ≡ Err NoEntry
  full h = free_entry_is f ∙ unmet (le-ltb (t.count - t.gone) t.entries (omega arith)) NoEntry

  -- then 13
  not_full : t.count < t.entries + t.gone → (n : ℕ) →
      (free_entry (spelled t rows pool stack) then free_words (spelled t rows pool stack) n) ≡ need (leb (t.words + n) (length pool)) NoWords
  not_full h n = goes_on (free_entry_is f ∙ met (lt-ltb (t.count - t.gone) t.entries (omega (arith, gone_most f))) NoEntry) _ ∙ free_words_is f n

pub returns-then-most-count : goal.returns-then-most-count
returns-then-most-count c = sym (stops (full c.requires.0 c.if-most-count.true) _)

pub returns-then-pool-words : goal.returns-then-pool-words
returns-then-pool-words c = sym (not_full c.requires.0 (search rules) _ ∙ unmet (lt-leb _ _ c.if-pool-words.true) _)

pub returns : goal.returns
returns c = sym (not_full c.requires.0 c.if-most-count.false _ ∙ met (le-leb _ _ c.if-pool-words.false) _)
