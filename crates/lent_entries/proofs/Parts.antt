-- A part of the pool that may stop short: where its start and its length are cut to what there is, it lies in the pool, and is the same part.
use mathlib.Core.Path.{◌≡◌, sym, ◌∙◌, ap}
use mathlib.Core.List.{List}
use Prim.Native.Nat.{ℕ, ◌+◌, ◌-◌, ◌≤◌, min}
use native.Mathlib.Omega.{arith}
use lib.IntN.{ℤ}
use lib.ListN.{length, take, drop, length-drop}
use Rattle.std.proofs.lemmas.List.{take_min, drop_min}
use Rattle.table.specs.Spelled.{part}
use Rattle.lent_entries.specs.Lent.{Spans}

pub part_least : {A : Type 0} (l : List A) (s n : ℕ) {a b : ℕ} → a ≡ min s (length l) → b ≡ min n (length l - a) → take b (drop a l) ≡ take n (drop s l)
part_least l s n {a} {b} ea eb =
    let cut : b ≡ min n (length (drop a l)) = eb ∙ ap (min n) (sym (length-drop a l)) in
    rw (cut, take_min n (drop a l), ea, drop_min s l)

pub spans_inside : (words from many : ℕ) {a b : ℕ} → Spans words from many a b → a + b ≤ words
spans_inside words from many s = omega (arith, s.starts, s.long)

pub spans_same : (pool : List ℤ) (from many : ℕ) {a b : ℕ} → Spans (length pool) from many a b → part pool a b ≡ part pool from many
spans_same pool from many s = part_least pool from many s.starts s.long
