-- The loop that takes whole words: what holds at its head, and each way on.
use mathlib.Core.Path.{◌≡◌, refl, sym, ap, ◌∙◌}
use mathlib.Core.Bool.{Bool, true, false}
use mathlib.Core.List.{List}
use Prim.Native.Nat.{ℕ, suc, ◌+◌, ◌*◌, ◌/◌, ◌%◌, ◌-◌, ◌≤◌, ◌<◌}
use native.Mathlib.Omega.{arith}
use lib.IntN.{ℤ}
use lib.ListN.{length, take, set, length-set}
use lib.Seq.{slice, slice_empty, take-suc-set}
use Rattle.rules.specs.Lists.{all_pass}
use Rattle.rules.proofs.Lists.{all_nil, all_append}
use Rattle.line_hex.specs.Hex.{beyond, value_at, signed}
use Rattle.line_hex.proofs.Digits.{value_digits}
use Rattle.line_read.specs.Machine.{Line, reads}
use Rattle.line_read.specs.Lent.{Took}
use Rattle.text.specs.Places.{goes_on, Unclosed}
use Rattle.text.proofs.Slices.{slice_join}
use Rattle.line_read.proofs.Reading.{reached, reads_append, reads_spoilt, digits_all, word_read}
use Rattle.line_read.proofs.Parts.{digits_go_on}

-- the line of k whole words in the frame buffer
abbrev words_in : ℕ → List ℤ → Line
words_in d frame = reached d 0 (take (d / 8) frame)

-- k words of the frame buffer are read, and the bytes before i
pub record Words (part : List ℕ) (from d : ℕ) (frame₀ frame : List ℤ) (k i : ℕ) : Type 0 where
  pub low : from ≤ i
  pub high : i ≤ length part
  pub few : k ≤ 4096
  pub whole : 8 * k ≡ d + (i - from)
  pub kept : length frame ≡ length frame₀
  pub unclosed : all_pass goes_on (slice from i part) ≡ true
  pub read : words_in (8 * k) frame ≡ reads (words_in d frame₀) (slice from i part)

pub words_start : (part : List ℕ) (from d : ℕ) (frame : List ℤ) → from ≤ length part → d ≤ 32768 → d % 8 ≡ 0 → Words part from d frame frame (d / 8) from
unfolding reads
words_start part from d frame h m e =
    let whole : 8 * (d / 8) ≡ d = omega arith in
    record {
      low = omega arith;
      high = h;
      few = omega arith;
      whole = omega arith;
      kept = refl;
      unclosed = rw (slice_empty from part) (all_nil goes_on);
      read = rw (slice_empty from part, whole);
    }

pub words_more : {part : List ℕ} {from d : ℕ} {frame₀ frame : List ℤ} {k i : ℕ} → Words part from d frame₀ frame k i
    → k < 4096 → i + 8 ≤ length part → value_at part i 8 < beyond → 4096 ≤ length frame₀
    → Words part from d frame₀ (set frame k (signed (value_at part i 8))) (k + 1) (i + 8)
words_more {part} {from} {d} {frame₀} {frame} {k} {i} w h n v m =
    let x = signed (value_at part i 8) in
    let ds = value_digits part i 8 v in
    let eight = slice i (i + 8) part in
    let join = slice_join from i (i + 8) part w.low (omega arith) n in
    let more : words_in (8 * (k + 1)) (set frame k x) ≡ reads (words_in (8 * k) frame) eight =
    let here : 8 * k / 8 ≡ k = omega arith in
    let next : 8 * (k + 1) / 8 ≡ suc k = omega arith in
    let last : 8 * (k + 1) ≡ 8 * k + 8 = omega arith in
    rw (word_read part i k (take (8 * k / 8) frame) n h ds, here, next, last, take-suc-set frame k x (omega (arith, w.kept)))
    in
    record {
      low = omega (arith, w.low);
      high = n;
      few = omega arith;
      whole = omega (arith, w.whole, w.low);
      kept = length-set frame k x ∙ w.kept;
      unclosed = rw (← join) (all_append goes_on (slice from i part) eight w.unclosed (digits_go_on eight (digits_all part i 8 n ds)));
      read = more ∙ ap (λ l. reads l eight) w.read ∙ sym (reads_append (words_in d frame₀) (slice from i part) eight) ∙ ap (reads (words_in d frame₀)) join;
    }

pub took : {part : List ℕ} {from d : ℕ} {frame₀ frame : List ℤ} {k i : ℕ} → Words part from d frame₀ frame k i → (w : ℕ) (s : Bool) → w ≡ 0 → s ≡ false
    → Took part from i (record { digits = d; word = w; spoilt = s; words = take (d / 8) frame₀ })
    (record { digits = d + (i - from); word = w; spoilt = s; words = take ((d + (i - from)) / 8) frame })
took h w s e f = let n = h.whole in
    record { low = h.low; high = h.high; most = omega (arith, n, h.few); unclosed = h.unclosed; read = rw (e, f, ← n) h.read }

pub took_none : (part : List ℕ) (from : ℕ) (l : Line) → from ≤ length part → l.digits ≤ 32768 → Took part from from l l
unfolding reads
took_none part from l h m =
    record { low = omega arith; high = h; most = m; unclosed = rw (slice_empty from part) (all_nil goes_on); read = rw (slice_empty from part) }

-- ---- a spoilt line

-- no byte mends it
pub took_spoilt : {part : List ℕ} {from i : ℕ} (l : Line) → Unclosed part from i → l.digits ≤ 32768 → l.spoilt ≡ true → Took part from i l l
took_spoilt {part} {from} {i} l u m e =
    record { low = u.low; high = u.high; most = m; unclosed = u.goes; read = sym (reads_spoilt (slice from i part) l e) }
