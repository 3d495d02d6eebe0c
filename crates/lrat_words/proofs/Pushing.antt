-- Bytes of a word, one more at a time.
use mathlib.Core.Path.{◌≡◌, sym, ◌∙◌, ap}
use mathlib.Core.Bool.{false}
use mathlib.Core.List.{List, []}
use Prim.Native.Nat.{ℕ, ◌+◌, ◌≤◌, ◌<◌}
use native.Mathlib.Omega.{arith}
use lib.ListN.{length, get_or}
use lib.Seq.{slice_empty}
use Rattle.rules.proofs.Lists.{all_nil, all_cons, all_append}
use Rattle.text.specs.Words.{is_blank}
use Rattle.text.proofs.Slices.{slice_snoc}
use Rattle.lrat.specs.Machine.{push, pushes}
use Rattle.lrat.specs.declared.ProofWord.{ProofWord}
use Rattle.lrat.proofs.Heard.{pushes_last}
use Rattle.lrat_words.specs.Taken.{in_word, Pushed}

pub pushed_none : (part : List ℕ) (from : ℕ) (w : ProofWord) → from ≤ length part → Pushed part from w from w
unfolding pushes
pushed_none part from w h =
    record { low = omega arith; high = h; no_blank = rw (slice_empty from part) (all_nil in_word); read = rw (slice_empty from part) }

pub pushed_more : {part : List ℕ} {from i : ℕ} {w v : ProofWord} → Pushed part from w i v → i < length part → is_blank (get_or part i 0) ≡ false →
    {u : ProofWord} → u ≡ push v (get_or part i 0) → Pushed part from w (i + 1) u
pushed_more {part} {from} {i} {w} p h n q =
    let more = slice_snoc from i part p.low h in
    record {
      low = omega (arith, p.low);
      high = omega arith;
      no_blank = rw more (all_append in_word _ _ p.no_blank (all_cons in_word _ [] (rw n) (all_nil in_word)));
      read = q ∙ ap (λ x. push x (get_or part i 0)) p.read ∙ sym (pushes_last _ w _) ∙ rw more;
    }
