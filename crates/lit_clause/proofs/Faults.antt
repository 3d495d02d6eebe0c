-- Words checked one after the other, each by what is kept of those before it, up to the first that is faulty; refusal 3.
use mathlib.Core.Path.{◌≡◌, refl, sym, ◌∙◌, ap}
use mathlib.Core.Bool.{Bool, true, false, not, ◌&&◌}
use mathlib.Core.List.{List, [], ◌∷◌}
use Prim.Native.Nat.{ℕ, ◌+◌, ◌≤◌, ◌<◌}
use native.Mathlib.Omega.{arith}
use lib.ListN.{length, get_or, drop, drop_of_length-le}
use lib.IntN.{ℤ, pos, negsuc, nat_abs}
use lib.Dec.{ltb}
use mir.Syntax.{w32}
use mir.Val.{SFits}
use borrow.Author.Tests.{le-ltb}
use Rattle.rules.specs.Lists.{all_pass}
use Rattle.rules.specs.Terms.{in_range, upd}
use Rattle.rules.specs.Frames.{number}
use Rattle.rules.specs.Answers.{need, ◌then◌, flaw, unseen, ranged, is_above, ascending}
use Rattle.rules.specs.declared.Fault.{Fault}
use Rattle.rules.specs.declared.Fault.TheVariants.{Literal}
use Rattle.rules.specs.Results.{Check}
use Rattle.std.specs.Prelude.{Ok, Err}
use Rattle.rules.proofs.Lists.{from_index, all_nil, all_cons}
use Rattle.rules.proofs.Checks.{then_left, then_right, need_true, flawless}
use Rattle.lit.proofs.Signed.{back, said, wider, all_wider}

pub record Scan (S : Type 0) : Type 0 where
  pub run : S → ℕ → List ℤ → Check
  pub sound : S → ℤ → Bool
  pub keep : S → ℤ → S
  pub fault : ℕ → Fault
  pub at_end : (s : S) (n : ℕ) → run s n [] ≡ Ok tt
  pub at_word : (s : S) (n : ℕ) (l : ℤ) (c : List ℤ) → run s n (l ∷ c) ≡ (need (sound s l) (fault n) then run (keep s l) (n + 1) c)

-- a loop that checks the words of c, the first of which has the index at
module _ {S : Type 0} (scan : Scan S) (whole : Check) (s : S) (at : ℕ) (c : List ℤ) (i : ℕ) (far : whole ≡ scan.run s (at + i) (drop i c)) where
  pub all_sound : length c ≤ i → Ok tt ≡ whole
  all_sound le = let q = drop_of_length-le c le in sym ((rw q at far) ∙ scan.at_end s (at + i))

  module _ (lt : i < length c) where
    word : let l = get_or c i (pos 0) in whole ≡ (need (scan.sound s l) (scan.fault (at + i)) then scan.run (scan.keep s l) (at + i + 1) (drop (i + 1) c))
    word = let q = from_index c i (pos 0) lt in (rw q at far) ∙ scan.at_word s (at + i) (get_or c i (pos 0)) (drop (i + 1) c)

    pub faulty : scan.sound s (get_or c i (pos 0)) ≡ false → Err (scan.fault (at + i)) ≡ whole
    unfolding need ◌then◌
    faulty f = let q = word in sym (rw f at q)

    pub sound_on : scan.sound s (get_or c i (pos 0)) ≡ true → (t : S) → t ≡ scan.keep s (get_or c i (pos 0)) → whole ≡ scan.run t (at + (i + 1)) (drop (i + 1) c)
    unfolding need ◌then◌
    sound_on k t e = let n : at + (i + 1) ≡ at + i + 1 = omega arith in let q = word in rw (n, e) (rw k at q)

module _ (vars : ℕ) where
  -- clauses and witnesses: the variables before are kept
  pub flaw_end : (seen : ℕ → Bool) (n : ℕ) → flaw vars seen n [] ≡ Ok tt
  unfolding flaw
  flaw_end seen n = refl

  pub flaw_word : (seen : ℕ → Bool) (n : ℕ) (l : ℤ) (c : List ℤ) →
      flaw vars seen n (l ∷ c) ≡ (need (in_range vars l && not (seen (nat_abs l))) (Literal n) then flaw vars (upd seen (nat_abs l) true) (n + 1) c)
  unfolding flaw
  flaw_word seen n l c = refl

  abbrev pub flaws : Scan (ℕ → Bool)
  flaws =
      record {
        run = flaw vars;
        sound = λ seen l. in_range vars l && not (seen (nat_abs l));
        keep = λ seen l. upd seen (nat_abs l) true;
        fault = Literal;
        at_end = flaw_end;
        at_word = flaw_word;
      }

  -- assumptions: nothing is kept
  pub ranged_end : (s : Unit {0}) (n : ℕ) → ranged vars n [] ≡ Ok tt
  unfolding ranged
  ranged_end s n = refl

  pub ranged_word : (s : Unit {0}) (n : ℕ) (l : ℤ) (c : List ℤ) → ranged vars n (l ∷ c) ≡ (need (in_range vars l) (Literal n) then ranged vars (n + 1) c)
  unfolding ranged
  ranged_word s n l c = refl

  abbrev pub ranges : Scan (Unit {0})
  ranges = record { run = λ s. ranged vars; sound = λ s. in_range vars; keep = λ s l. s; fault = Literal; at_end = ranged_end; at_word = ranged_word }

  -- true variables: the last one is kept
  pub ascending_end : (last n : ℕ) → ascending vars last n [] ≡ Ok tt
  unfolding ascending
  ascending_end last n = refl

  pub ascending_word : (last n : ℕ) (x : ℤ) (vs : List ℤ) →
      ascending vars last n (x ∷ vs) ≡ (need (in_range vars x && is_above last x) (Literal n) then ascending vars (number x) (n + 1) vs)
  unfolding ascending
  ascending_word last n x vs = refl

  abbrev pub ascents : Scan ℕ
  ascents =
      record {
        run = ascending vars;
        sound = λ last x. in_range vars x && is_above last x;
        keep = λ last x. number x;
        fault = Literal;
        at_end = ascending_end;
        at_word = ascending_word;
      }

-- a negative word counts as 0, which is above nothing
above_is : (last : ℕ) (x : ℤ) → is_above last x ≡ ltb last (number x)
above_is last (pos n) = refl
above_is last (negsuc n) = sym (le-ltb last 0 (omega arith))

-- ---- a word, as the code's tests read it

module _ (vars : ℕ) {word : ℤ} (fits : SFits w32 word) {in_it : Bool} (tested : in_it ≡ in_range vars (back word)) where
  pub range_is : in_range vars word ≡ in_it
  range_is = sym (said (in_range vars) fits tested)

  pub out : in_it ≡ false → (b : Bool) → (in_range vars word && b) ≡ false
  out f b = let e = range_is ∙ f in rw e

  module _ (t : in_it ≡ true) where
    pub seen_is : {v : ℕ} (seen : ℕ → Bool) {there : Bool} → v ≡ nat_abs (back word) → there ≡ seen v → (in_range vars word && not (seen (nat_abs word))) ≡ not there
    seen_is seen e s = let q = range_is ∙ t in let u = ap seen (said nat_abs fits e) in rw (q, s, u)

    pub rises : {v : ℕ} (last : ℕ) → v ≡ number (back word) → (in_range vars word && is_above last word) ≡ ltb last v
    rises last e = let q = range_is ∙ t in rw q (above_is last word ∙ ap (ltb last) (sym (said number fits e)))

-- ---- what is known of words that pass

pub flaw_in : (vars at : ℕ) (c : List ℤ) → vars ≤ 2048 → flaw vars unseen at c ≡ Ok tt → all_pass (in_range 2048) c ≡ true
flaw_in vars at c h e = all_wider vars c h (flawless vars unseen at c e).range

pub ranged_in : (vars at : ℕ) (c : List ℤ) → vars ≤ 2048 → ranged vars at c ≡ Ok tt → all_pass (in_range 2048) c ≡ true
unfolding ranged
ranged_in vars at [] h e = all_nil (in_range 2048)
ranged_in vars at (l ∷ c) h e = all_cons (in_range 2048) l c (wider vars l h (need_true _ _ (then_left _ _ e))) (ranged_in vars (at + 1) c h (then_right _ _ e))
