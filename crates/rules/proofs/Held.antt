-- Laws of places, and of the walk down the stack.
use mathlib.Core.Path.{◌≡◌, refl, ◌∙◌}
use mathlib.Core.Bool.{Bool, true, false, false≢true}
use mathlib.Core.List.{List, [], ◌∷◌, Memᴰ}
use Prim.Native.Nat.{ℕ}
use lib.Dec.{eqb, ltb}
use lib.IntN.{ℤ}
use Rattle.rules.specs.Lists.{any_passes, all_pass}
use Rattle.rules.specs.Terms.{Assignment, lit, sat, clean, mentions, Held, has, fetch}
use Rattle.rules.specs.Frames.{without, above, place, repair, mend}
use Rattle.rules.specs.Histories.{models}
use Rattle.rules.proofs.Lists.{by_cases, not-true, or-false, any_in, any_find, all_at, all_cons, all_head, all_tail}
use Rattle.rules.proofs.Literals.{make_keeps, make_other}

-- ---- a test that all of a place pass, when a clause comes or goes

module _ (p : Held → Bool) where
  pub fetch_all : (hs : List Held) (i : ℕ) → has hs i ≡ true → all_pass p hs ≡ true → p (fetch hs i) ≡ true
  unfolding fetch any_passes
  fetch_all [] i m h = absurd (false≢true m)
  fetch_all (x ∷ hs) i m h = by_cases (eqb x.id i) (λ e. rw e (all_head p _ _ h)) (λ e. rw e (fetch_all hs i (rw e at m) (all_tail p _ _ h)))

  pub without_all : (hs : List Held) (i : ℕ) → all_pass p hs ≡ true → all_pass p (without hs i) ≡ true
  unfolding without
  without_all [] i h = h
  without_all (x ∷ hs) i h = by_cases (eqb x.id i)
      (λ e. rw e (all_tail p _ _ h))
      (λ e. rw e (all_cons p _ _ (all_head p _ _ h) (without_all hs i (all_tail p _ _ h))))

  -- what was taken out, put back
  pub with_fetch : (hs : List Held) (i : ℕ) → p (fetch hs i) ≡ true → all_pass p (without hs i) ≡ true → all_pass p hs ≡ true
  unfolding fetch without
  with_fetch [] i q h = h
  with_fetch (x ∷ hs) i q h = by_cases (eqb x.id i)
      (λ e. all_cons p _ _ (rw e at q) (rw e at h))
      (λ e. let k : all_pass p (x ∷ without hs i) ≡ true = rw e at h in all_cons p _ _ (all_head p _ _ k) (with_fetch hs i (rw e at q) (all_tail p _ _ k)))

  pub place_all : (x : Held) (hs : List Held) → p x ≡ true → all_pass p hs ≡ true → all_pass p (place x hs) ≡ true
  unfolding place
  place_all x [] q h = all_cons p _ _ q h
  place_all x (y ∷ hs) q h = by_cases (ltb x.id y.id)
      (λ e. rw e (all_cons p _ _ q h))
      (λ e. rw e (all_cons p _ _ (all_head p _ _ h) (place_all x hs q (all_tail p _ _ h))))

  pub place_each : (x : Held) (hs : List Held) → all_pass p (place x hs) ≡ true → (p x ≡ true) × (all_pass p hs ≡ true)
  unfolding place
  place_each x [] h = (all_head p _ _ h, all_tail p _ _ h)
  place_each x (y ∷ hs) h = by_cases (ltb x.id y.id)
      (λ e. let k : all_pass p (x ∷ y ∷ hs) ≡ true = rw e at h in (all_head p _ _ k, all_tail p _ _ k))
      (λ e.
      let k : all_pass p (y ∷ place x hs) ≡ true = rw e at h in
      let r = place_each x hs (all_tail p _ _ k) in
      (r.0, all_cons p _ _ (all_head p _ _ k) r.1))

-- ---- the walk

-- the held clause has a true literal
abbrev pub meets : Assignment → Held → Bool
meets α h = sat α h.lits

abbrev pub clean_of : List ℤ → Held → Bool
clean_of c r = clean c r.witness

-- clean against every record
abbrev pub clean_all : List ℤ → List Held → Bool
clean_all c rs = all_pass (clean_of c) rs

-- a true literal of a clause that is clean against the record stays true
repair_keeps : (α : Assignment) (c : List ℤ) (r : Held) (l : ℤ) → Memᴰ l c → clean_of c r ≡ true → lit α l ≡ true → lit (repair α r) l ≡ true
repair_keeps α c r l m k h = by_cases (sat α r.lits) (λ e. rw e h) (λ e. rw e (make_keeps r.witness α l (not-true (all_at _ k m)) h))

repair_clean : (α : Assignment) (c : List ℤ) (r : Held) → clean_of c r ≡ true → sat α c ≡ true → sat (repair α r) c ≡ true
repair_clean α c r k h = let x = any_find (lit α) c h in any_in _ x.1 (repair_keeps α c r x.0 x.1 k x.2)

-- a true literal of a clause that is clean against every record is true after the walk; so is the clause
pub mend_keeps : (rs : List Held) (α : Assignment) (c : List ℤ) (l : ℤ) → Memᴰ l c → clean_all c rs ≡ true → lit α l ≡ true → lit (mend α rs) l ≡ true
unfolding mend
mend_keeps [] α c l m k h = h
mend_keeps (r ∷ rs) α c l m k h = mend_keeps rs (repair α r) c l m (all_tail (clean_of c) _ _ k) (repair_keeps α c r l m (all_head (clean_of c) _ _ k) h)

pub mend_clean : (rs : List Held) (α : Assignment) (c : List ℤ) → clean_all c rs ≡ true → sat α c ≡ true → sat (mend α rs) c ≡ true
mend_clean rs α c k h = let x = any_find (lit α) c h in any_in _ x.1 (mend_keeps rs α c x.0 x.1 k x.2)

-- the walk changes only variables of witnesses
pub mend_other : (rs : List Held) (α : Assignment) (v : ℕ) → any_passes (λ r. mentions r.witness v) rs ≡ false → mend α rs v ≡ α v
unfolding mend any_passes
mend_other [] α v h = refl
mend_other (r ∷ rs) α v h =
    let k = or-false (mentions r.witness v) (any_passes (λ x. mentions x.witness v) rs) h in
    mend_other rs (repair α r) v k.1 ∙ by_cases (sat α r.lits) (λ e. rw e) (λ e. rw e (make_other r.witness α v k.0))

-- where every record's clause is true the walk changes nothing
pub mend_models : (rs : List Held) (α : Assignment) → models α rs ≡ true → mend α rs ≡ α
unfolding mend
mend_models [] α h = refl
mend_models (r ∷ rs) α h = let t = all_head (meets α) _ _ h in rw t (mend_models rs α (all_tail (meets α) _ _ h))

-- a true clause that is clean against the records above its own may leave the stack: the walk is the same
pub mend_without : (rs : List Held) (i : ℕ) (α : Assignment) → clean_all (fetch rs i).lits (above rs i) ≡ true → sat α (fetch rs i).lits ≡ true →
    mend α (without rs i) ≡ mend α rs
unfolding mend without fetch above
mend_without [] i α k h = refl
mend_without (r ∷ rs) i α k h = by_cases (eqb r.id i)
    (λ e. let t : sat α r.lits ≡ true = rw e at h in rw (e, t))
    (λ e.
    let c = (fetch rs i).lits in
    let k2 : clean_all c (r ∷ above rs i) ≡ true = rw e at k in
    rw e (mend_without rs i (repair α r) (all_tail (clean_of c) _ _ k2) (repair_clean α c r (all_head (clean_of c) _ _ k2) (rw e at h))))
