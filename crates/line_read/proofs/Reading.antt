-- The machine over a line: what spoils it, and that eight digits are a word.
use mathlib.Core.Path.{◌≡◌, refl, sym, ap, ap₂, ◌∙◌}
use mathlib.Core.Bool.{Bool, true, false, not, cond, ◌&&◌, and-false}
use mathlib.Core.Logic.{◌⊎◌, ⊎_elim}
use mathlib.Core.List.{List, [], ◌∷◌, ◌++◌}
use Prim.Native.Nat.{ℕ, zero, suc, ◌+◌, ◌*◌, ◌/◌, ◌%◌, ◌≤◌, ◌<◌}
use native.Mathlib.Omega.{arith}
use native.Mathlib.Nat.{add-zero, zero-add}
use lib.Dec.{eqb, ltb, leb}
use lib.IntN.{ℤ}
use lib.ListN.{length, get_or, take}
use lib.Seq.{slice, slice_empty, take_all}
use lib.Pow.{pow_mono}
use borrow.Author.Tests.{lt-ltb, le-ltb, le-leb, lt-leb, leb-true, ltb-true, ltb-false, eq-eqb, ne_eqb, eqb-true}
use Rattle.rules.specs.Lists.{all_pass}
use Rattle.rules.proofs.Lists.{by_cases, and_left, and_right, and_both, true-false, all_nil, all_cons, all_append, all_index}
use Rattle.line_hex.specs.Hex.{digit, is_digit, value_at, signed}
use Rattle.line_hex.proofs.Digits.{Digits, value_below}
use Rattle.line_read.specs.Lines.{words_of, frame_of, ending}
use Rattle.line_read.specs.Machine.{Line, fresh, line_of, spoil, roll, grow, push, reads, frame, end_reply}
use Rattle.line_read.specs.declared.Reader.{Reader}
use Rattle.text.proofs.Slices.{slice_snoc, slice_join}

pub reads_append : (l : Line) (xs ys : List ℕ) → reads l (xs ++ ys) ≡ reads (reads l xs) ys
unfolding reads
reads_append l [] ys = refl
reads_append l (x ∷ xs) ys = reads_append (push l x) xs ys

pub reads_snoc : (l : Line) (xs : List ℕ) (b : ℕ) → reads l (xs ++ (b ∷ [])) ≡ push (reads l xs) b
unfolding reads
reads_snoc l xs b = reads_append l xs (b ∷ [])

-- a reader that has read nothing
pub fresh_read : (r : Reader) (frame : List ℤ) → (r.digits ≡ 0) × (r.word ≡ 0) × (r.spoilt ≡ false) → line_of r frame ≡ fresh
fresh_read r frame z = of r.digits r.word r.spoilt z
  where
    of : (d w : ℕ) (t : Bool) → (d ≡ 0) × (w ≡ 0) × (t ≡ false) → record { digits = d; word = w; spoilt = t; words = take (d / 8) frame } ≡ fresh
    of d w t z = rw (z.0, z.1, z.2)

-- a line that is not spoilt
abbrev pub reached : ℕ → ℕ → List ℤ → Line
reached d w ws = record { digits = d; word = w; spoilt = false; words = ws }

-- ---- what spoils a line

-- a byte that a line of d digits can take
abbrev takes : ℕ → ℕ → Bool
takes d b = is_digit b && ltb d 32768

-- push by its two tests
pushed : (l : Line) (b : ℕ) {s t : Bool} → l.spoilt ≡ s → takes l.digits b ≡ t →
    push l b ≡ cond s l (cond t (grow (eqb (l.digits % 8) 7) l (digit b)) (spoil l))
unfolding push
pushed l b e f = ap₂ (λ (s t : Bool). cond s l (cond t (grow (eqb (l.digits % 8) 7) l (digit b)) (spoil l))) e f

pub reads_spoilt : (bs : List ℕ) (l : Line) → l.spoilt ≡ true → reads l bs ≡ l
unfolding reads
reads_spoilt [] l e = refl
reads_spoilt (b ∷ bs) l e = rw (pushed l b e refl) (reads_spoilt bs l e)

grown : (last : Bool) (l : Line) (v : ℕ) → ((grow last l v).digits ≡ l.digits + 1) × ((grow last l v).spoilt ≡ false)
grown true l v = (refl, refl)
grown false l v = (refl, refl)

-- bytes that a line of d digits can take
abbrev fits : ℕ → List ℕ → Bool
fits d bs = all_pass is_digit bs && leb (d + length bs) 32768

fits_more : (d b : ℕ) (bs : List ℕ) → takes d b ≡ true → fits d (b ∷ bs) ≡ fits (d + 1) bs
unfolding all_pass
fits_more d b bs t =
    let n : d + suc (length bs) ≡ d + 1 + length bs = omega arith in
    rw (and_left (is_digit b) (ltb d 32768) t, n)

fits_not : (d b : ℕ) (bs : List ℕ) → takes d b ≡ false → fits d (b ∷ bs) ≡ false
unfolding all_pass
fits_not d b bs t = by_cases (is_digit b)
    (λ e. let k = ltb-false d 32768 (rw e at t) in rw (e, lt-leb (d + suc (length bs)) 32768 (omega arith)) (and-false (all_pass is_digit bs)))
    (λ e. rw e)

-- what reading bytes does to a line that is not spoilt
record Reads (l : Line) (bs : List ℕ) : Type 0 where
  spoils : (reads l bs).spoilt ≡ not (fits l.digits bs)
  counts : fits l.digits bs ≡ true → (reads l bs).digits ≡ l.digits + length bs

reading : (bs : List ℕ) (l : Line) → l.spoilt ≡ false → l.digits ≤ 32768 → Reads l bs
unfolding reads all_pass
reading [] l e h = record { spoils = e ∙ ap not (sym (le-leb (l.digits + 0) 32768 (omega arith))); counts = λ f. omega arith }
reading (b ∷ bs) l e h = by_cases (takes l.digits b)
    (λ t.
    let last = eqb (l.digits % 8) 7 in
    let g = grown last l (digit b) in
    let r = reading bs (grow last l (digit b)) g.1 (let k = ltb-true l.digits 32768 (and_right (is_digit b) (ltb l.digits 32768) t) in
    omega (arith, g.0)) in
    let f : fits l.digits (b ∷ bs) ≡ fits (grow last l (digit b)).digits bs = fits_more l.digits b bs t ∙ ap (λ d. fits d bs) (sym g.0) in
    let p = pushed l b e t in
    record {
      spoils = ap (λ m. (reads m bs).spoilt) p ∙ r.spoils ∙ ap not (sym f);
      counts = λ k. ap (λ m. (reads m bs).digits) p ∙ r.counts (sym f ∙ k) ∙ omega (arith, g.0);
    })
    (λ t.
    let f = fits_not l.digits b bs t in
    record {
      spoils = ap (λ m. (reads m bs).spoilt) (pushed l b e t) ∙ ap (λ m. m.spoilt) (reads_spoilt bs (spoil l) refl) ∙ ap not (sym f);
      counts = λ k. true-false k f;
    })

-- ---- one byte

pub push_spoilt : (l : Line) (b : ℕ) → l.spoilt ≡ true → l ≡ push l b
push_spoilt l b e = sym (pushed l b e refl)

module _ (l : Line) (b : ℕ) {v : ℕ} (d : v ≡ digit b) (e : l.spoilt ≡ false) where
  pub push_spoils : (16 ≤ v) ⊎ (l.digits ≡ 32768) → spoil l ≡ push l b
  push_spoils f =
      let t : takes l.digits b ≡ false = ⊎_elim (λ h. rw (le-ltb (digit b) 16 (omega arith)))
      (λ h. rw (le-ltb l.digits 32768 (omega arith)) (and-false (is_digit b))) f in
      sym (pushed l b e t)

  module _ (small : v < 16) (few : l.digits < 32768) where
    taken : push l b ≡ grow (eqb (l.digits % 8) 7) l v
    taken = rw d (pushed l b e (and_both (lt-ltb (digit b) 16 (omega arith)) (lt-ltb l.digits 32768 few)))

    pub push_digit : (l.digits % 8 ≡ 7 → ⊥) → record { digits = l.digits + 1; word = roll l.word v; spoilt = l.spoilt; words = l.words } ≡ push l b
    push_digit n =
        ap (λ s. record { digits = l.digits + 1; word = roll l.word v; spoilt = s; words = l.words }) e ∙ sym (taken ∙ rw (ne_eqb (l.digits % 8) 7 n))

    pub push_eighth : l.digits % 8 ≡ 7 → record { digits = l.digits + 1; word = 0; spoilt = l.spoilt; words = l.words ++ (signed (roll l.word v) ∷ []) } ≡ push l b
    push_eighth n =
        ap (λ s. record { digits = l.digits + 1; word = 0; spoilt = s; words = l.words ++ (signed (roll l.word v) ∷ []) }) e
        ∙ sym (taken ∙ rw (eq-eqb (l.digits % 8) 7 n))

-- ---- eight digits are a word

pub digits_all : (l : List ℕ) (i k : ℕ) → i + k ≤ length l → Digits l i k → all_pass is_digit (slice i (i + k) l) ≡ true
digits_all l i zero h ds = rw (add-zero, slice_empty i l) (all_nil is_digit)
digits_all l i (suc k) h ds =
    let n : i + suc k ≡ i + k + 1 = omega arith in
    rw (n, slice_snoc i (i + k) l (omega arith) (omega arith))
    (all_append is_digit (slice i (i + k) l) _ (digits_all l i k (omega arith) (λ j m. ds j (omega arith)))
    (all_cons is_digit _ [] (lt-ltb _ 16 (ds k (omega arith))) (all_nil is_digit)))

module _ (l : List ℕ) (i k : ℕ) (ws : List ℤ) (inside : i + 8 ≤ length l) (few : k < 4096) (ds : Digits l i 8) where
  -- the first j digits of a word leave room for one more
  rolled : (j : ℕ) → j ≤ 7 → roll (value_at l i j) (digit (get_or l (i + j) 0)) ≡ value_at l i (suc j)
  unfolding value_at
  rolled j h = omega (arith, value_below l i j (λ n m. ds n (omega arith)), pow_mono {i = 4 * j} {j = 28} (omega arith))

  part_read : (j : ℕ) → j ≤ 7 → reads (reached (8 * k) 0 ws) (slice i (i + j) l) ≡ reached (8 * k + j) (value_at l i j) ws
  unfolding reads value_at
  part_read zero h = rw (add-zero i, add-zero (8 * k), slice_empty i l)
  part_read (suc j) h =
      let n : i + suc j ≡ i + j + 1 = omega arith in
      let d : 8 * k + suc j ≡ 8 * k + j + 1 = omega arith in
      rw (
        n,
        d,
        slice_snoc i (i + j) l (omega arith) (omega arith),
        reads_snoc (reached (8 * k) 0 ws) (slice i (i + j) l) (get_or l (i + j) 0),
        part_read j (omega arith),
      )
      (sym (push_digit (reached (8 * k + j) (value_at l i j) ws) (get_or l (i + j) 0) refl refl (ds j (omega arith)) (omega arith) (λ e. omega arith))
      ∙ ap (λ w. reached (8 * k + j + 1) w ws) (rolled j (omega arith)))

  pub word_read : reads (reached (8 * k) 0 ws) (slice i (i + 8) l) ≡ reached (8 * k + 8) 0 (ws ++ (signed (value_at l i 8) ∷ []))
  word_read =
      let n : i + 8 ≡ i + 7 + 1 = omega arith in
      let d : 8 * k + 8 ≡ 8 * k + 7 + 1 = omega arith in
      rw (
        n,
        d,
        slice_snoc i (i + 7) l (omega arith) (omega arith),
        reads_snoc (reached (8 * k) 0 ws) (slice i (i + 7) l) (get_or l (i + 7) 0),
        part_read 7 (omega arith),
      )
      (sym (push_eighth (reached (8 * k + 7) (value_at l i 7) ws) (get_or l (i + 7) 0) refl refl (ds 7 (omega arith)) (omega arith) (omega arith))
      ∙ ap (λ w. reached (8 * k + 7 + 1) 0 (ws ++ (signed w ∷ []))) (rolled 7 (omega arith)))

-- ---- so the machine says of a line what its bytes say

words_read : (l : List ℕ) (k : ℕ) → 8 * k ≤ length l → k ≤ 4096 → all_pass is_digit l ≡ true → reads fresh (take (8 * k) l) ≡ reached (8 * k) 0 (words_of l k)
unfolding reads words_of
words_read l zero h m a = refl
words_read l (suc k) h m a =
    let n : 8 * suc k ≡ 8 * k + 8 = omega arith in
    let j = slice_join 0 (8 * k) (8 * k + 8) l (omega arith) (omega arith) (omega arith) in
    rw (n, ← j, reads_append fresh (take (8 * k) l) (slice (8 * k) (8 * k + 8) l), words_read l k (omega arith) (omega arith) a)
    (word_read l (8 * k) k (words_of l k) (omega arith) (omega arith) (λ j g. ltb-true _ 16 (all_index is_digit l (8 * k + j) 0 (omega arith) a)))

-- a line of whole words
whole_read : (l : List ℕ) → fits 0 l ≡ true → length l % 8 ≡ 0 → reads fresh l ≡ reached (8 * (length l / 8)) 0 (words_of l (length l / 8))
whole_read l t e =
    let k = leb-true (0 + length l) 32768 (and_right (all_pass is_digit l) (leb (0 + length l) 32768) t) in
    ap (reads fresh) (sym (take_all (8 * (length l / 8)) l (omega arith)))
    ∙ words_read l (length l / 8) (omega arith) (omega arith) (and_left (all_pass is_digit l) (leb (0 + length l) 32768) t)

pub frame_read : (l : List ℕ) → frame (reads fresh l) ≡ frame_of l
unfolding frame_of
frame_read l =
    let r = reading l fresh refl (omega arith) in
    let n : fits 0 l ≡ (all_pass is_digit l && leb (length l) 32768) = ap (λ d. all_pass is_digit l && leb d 32768) (zero-add (length l)) in
    by_cases (fits 0 l)
    (λ t. by_cases (eqb (length l % 8) 0)
    (λ e.
    let w = whole_read l t (eqb-true (length l % 8) 0 e) in
    let m : 8 * (length l / 8) % 8 ≡ 0 = omega arith in
    rw (w, m, ← n, t, e))
    (λ e. let s = r.spoils ∙ ap not t in let d = r.counts t ∙ zero-add (length l) in rw (s, d, ← n, t, e)))
    (λ f. let s = r.spoils ∙ ap not f in rw (s, ← n, f))

pub ended_read : (l : List ℕ) → end_reply (reads fresh l).digits (reads fresh l).spoilt ≡ ending l
unfolding reads
ended_read [] = refl
ended_read (b ∷ bs) = let r = reading (b ∷ bs) fresh refl (omega arith) in by_cases (fits 0 (b ∷ bs))
    (λ t. let s = r.spoils ∙ ap not t in let d = r.counts t in rw (s, d, ne_eqb (fresh.digits + length (b ∷ bs)) 0 (λ e. omega arith)))
    (λ f. let s = r.spoils ∙ ap not f in rw s)
