-- A target made false literal by literal comes to the paper's test and its false literals, also in two parts, and with the two signs changed over.
use mathlib.Core.Path.{◌≡◌, refl, sym, ◌∙◌, ap, fun_ext}
use mathlib.Core.Bool.{Bool, true, false, not, cond, ◌||◌, or-false, or_assoc, or_comm, false≢true}
use mathlib.Core.List.{List, [], ◌∷◌, ◌++◌, map}
use Prim.Native.Nat.{ℕ, zero, suc, ◌+◌, ◌≤◌, ◌<◌}
use native.Mathlib.Omega.{arith}
use lib.Dec.{eqb-suc-suc}
use lib.IntN.{ℤ, pos, negsuc, neg_ℤ}
use lib.ListN.{length, get_or, drop, drop_of_length-le}
use borrow.Author.Tests.{ne_eqb}
use Rattle.rules.specs.Lists.{any_passes, all_pass, only}
use Rattle.rules.specs.Terms.{Literals, same, in_range, holds, opposes}
use Rattle.rules.specs.Propagation.{Allowed, also, proves}
use Rattle.rules.specs.declared.Verdict.{Verdict}
use Rattle.rules.proofs.Lists.{from_index, by_cases, all_head, all_tail}
use Rattle.rules.proofs.Literals.{clash, clash_sym, opposes_also, opposes_none}
use Rattle.judge_hints.specs.Target.{Made, opposed, falses, none_false, deny, make_false, verdict_on}

abbrev none : Literals
none l = false

make_false_append : (m : Made) (c d : List ℤ) → make_false m (c ++ d) ≡ make_false (make_false m c) d
unfolding make_false
make_false_append m [] d = refl
make_false_append m (l ∷ c) d = make_false_append (deny m l) c d

-- a target in two parts
pub in_two_parts : (c d : List ℤ) {m n : Made} → m ≡ make_false none_false c → n ≡ make_false m d → n ≡ make_false none_false (c ++ d)
in_two_parts c d e f = f ∙ ap (λ m. make_false m d) e ∙ sym (make_false_append none_false c d)

pub make_false_opposed : (c : List ℤ) → make_false opposed c ≡ opposed
unfolding make_false
make_false_opposed [] = refl
make_false_opposed (l ∷ c) = make_false_opposed c

-- ---- what it comes to

any_or : (p q : ℤ → Bool) (c : List ℤ) → any_passes (λ l. p l || q l) c ≡ (any_passes p c || any_passes q c)
unfolding any_passes
any_or p q [] = refl
any_or p q (l ∷ c) = ap (λ b. (p l || q l) || b) (any_or p q c) ∙ middle (p l) (q l) (any_passes p c) (any_passes q c)
  where
    middle : (a b x y : Bool) → ((a || b) || (x || y)) ≡ ((a || x) || (b || y))
    middle true b x y = refl
    middle false true true y = refl
    middle false true false y = refl
    middle false false x y = refl

any_never : (c : List ℤ) → any_passes none c ≡ false
unfolding any_passes
any_never [] = refl
any_never (l ∷ c) = any_never c

-- l is the opposite of a literal of c
any_clash : (l : ℤ) (c : List ℤ) → opposes (holds c) l ≡ any_passes (clash l) c
unfolding any_passes
any_clash l [] = opposes_none l
any_clash l (m ∷ c) = opposes_also m (holds c) l ∙ rw (clash_sym m l, any_clash l c)

clash_self : (l : ℤ) → clash l l ≡ false
clash_self (pos zero) = refl
clash_self (pos (suc n)) = refl
clash_self (negsuc n) = refl

-- a literal of c meets its opposite in F or in c
abbrev meets : List ℤ → Literals → Bool
meets c F = any_passes (opposes F) c || any_passes (opposes (holds c)) c

-- the literals of c are false too
abbrev joined : List ℤ → Literals → Literals
joined c F l = holds c l || F l

meets_first : (l : ℤ) (c : List ℤ) (F : Literals) → meets (l ∷ c) F ≡ (opposes F l || meets c (also l F))
unfolding any_passes
meets_first l c F =
    let s : opposes (holds (l ∷ c)) l ≡ any_passes (clash l) c = any_clash l (l ∷ c) ∙ rw (clash_self l) in
    let o : any_passes (opposes (holds (l ∷ c))) c ≡ (any_passes (clash l) c || any_passes (opposes (holds c)) c) = any_opposes l (holds c) in
    let b : any_passes (opposes (also l F)) c ≡ (any_passes (clash l) c || any_passes (opposes F) c) = any_opposes l F in
    rw (s, o, b) (shuffle (opposes F l) (any_passes (clash l) c) (any_passes (opposes F) c) (any_passes (opposes (holds c)) c))
  where
    any_opposes : (l : ℤ) (S : Literals) → any_passes (opposes (also l S)) c ≡ (any_passes (clash l) c || any_passes (opposes S) c)
    any_opposes l S = ap (λ p. any_passes p c) (fun_ext (opposes_also l S)) ∙ any_or (clash l) (opposes S) c

    shuffle : (d a b o : Bool) → ((d || b) || (a || (a || o))) ≡ (d || ((a || b) || o))
    shuffle true a b o = refl
    shuffle false true true o = refl
    shuffle false true false o = refl
    shuffle false false b o = refl

joined_first : (l : ℤ) (c : List ℤ) (F : Literals) → joined c (also l F) ≡ joined (l ∷ c) F
unfolding any_passes
joined_first l c F = fun_ext (λ m. sym (or_assoc (holds c m) (same l m) (F m)) ∙ ap (λ b. b || F m) (or_comm (holds c m) (same l m)))

make_false_is : (F : Literals) (c : List ℤ) → make_false (falses F) c ≡ cond (meets c F) opposed (falses (joined c F))
unfolding make_false any_passes
make_false_is F [] = refl
make_false_is F (l ∷ c) =
    rw (meets_first l c F) (by_cases (opposes F l) (λ t. rw t (make_false_opposed c)) (λ f. rw (f, make_false_is (also l F) c, joined_first l c F)))

proves_is : (A : Allowed) (target hints : List ℤ) → proves A target hints ≡ verdict_on A (make_false none_false target) hints
unfolding proves
proves_is A target hints =
    let m : joined target none ≡ holds target = fun_ext (λ l. or-false (holds target l)) in
    let e : any_passes (opposes none) target ≡ false = ap (λ p. any_passes p target) (fun_ext opposes_none) ∙ any_never target in
    rw (make_false_is none target, e, m) (by_cases (any_passes (opposes (holds target)) target) (λ t. rw t) (λ f. rw f))

pub proved : (A : Allowed) (target hints : List ℤ) {m : Made} {r : Verdict} → m ≡ make_false none_false target → r ≡ verdict_on A m hints →
    r ≡ proves A target hints
proved A target hints e f = f ∙ ap (λ m. verdict_on A m hints) e ∙ sym (proves_is A target hints)

-- less the opposites of no literal, from no literal
pub less_nothing : (S : Literals) (c : List ℤ) → S ≡ none → make_false (falses S) (only (λ l. not (opposes S l)) c) ≡ make_false none_false c
unfolding only
less_nothing S c e = rw e (ap (make_false none_false) (all_kept c))
  where
    all_kept : (c : List ℤ) → only (λ l. not (opposes none l)) c ≡ c
    all_kept [] = refl
    all_kept (l ∷ c) = rw (opposes_none l, all_kept c)

-- a literal that a test finds opposed, or not
pub deny_opposed : (F : Literals) (l : ℤ) {r : Bool} → r ≡ opposes F l → r ≡ true → deny (falses F) l ≡ opposed
deny_opposed F l e t = let q = sym e ∙ t in rw q

pub deny_more : (F : Literals) (l : ℤ) {r : Bool} {G : Literals} → r ≡ opposes F l → r ≡ false → G ≡ also l F → deny (falses F) l ≡ falses G
deny_more F l e f g = let q = sym e ∙ f in rw (q, g)

-- ---- as a loop makes it, over the literals of c that pass a test

module _ (p : ℤ → Bool) (c : List ℤ) where
  -- from index i on, of what is to be made
  pub record Making (whole m : Made) (i : ℕ) : Type 0 where
    pub left : whole ≡ make_false m (only p (drop i c))

  module _ {whole m : Made} {i : ℕ} (s : Making whole m i) where
    pub making_opposed : m ≡ opposed → opposed ≡ whole
    making_opposed e = sym (s.left ∙ rw e (make_false_opposed (only p (drop i c))))

    pub making_end : length c ≤ i → m ≡ whole
    unfolding make_false only
    making_end e = let q = drop_of_length-le c e in sym (rw q at s.left)

    module _ (lt : i < length c) where
      here : whole ≡ make_false m (only p (get_or c i (pos 0) ∷ drop (i + 1) c))
      here = let q = from_index c i (pos 0) lt in rw q at s.left

      pub making_gone : p (get_or c i (pos 0)) ≡ false → Making whole m (i + 1)
      unfolding only
      making_gone e = record { left = here ∙ rw e }

      pub making_kept : p (get_or c i (pos 0)) ≡ true → {n : Made} → deny m (get_or c i (pos 0)) ≡ n → Making whole n (i + 1)
      unfolding only make_false
      making_kept e d = record { left = here ∙ rw e (ap (λ x. make_false x (only p (drop (i + 1) c))) d) }

-- ---- UNSAT's target: the opposites of the assumptions

abbrev pub swapped : Made → Made
swapped opposed = opposed
swapped (falses F) = falses (opposes F)

same_opposite : (n : ℕ) (l m : ℤ) → in_range n l ≡ true → same (neg_ℤ l) m ≡ clash l m
same_opposite n (pos zero) m h = absurd (false≢true h)
same_opposite n (pos (suc a)) (pos zero) h = refl
same_opposite n (pos (suc a)) (pos (suc b)) h = refl
same_opposite n (pos (suc a)) (negsuc b) h = sym (eqb-suc-suc a b)
same_opposite n (negsuc a) (pos zero) h = ne_eqb (suc a) 0 (λ e. omega arith)
same_opposite n (negsuc a) (pos (suc b)) h = eqb-suc-suc a b
same_opposite n (negsuc a) (negsuc b) h = refl

opposes_twice : (F : Literals) (l : ℤ) → opposes (opposes F) (neg_ℤ l) ≡ opposes F l
opposes_twice F (pos zero) = refl
opposes_twice F (pos (suc n)) = refl
opposes_twice F (negsuc n) = refl

deny_swapped : (n : ℕ) (m : Made) (l : ℤ) → in_range n l ≡ true → deny (swapped m) (neg_ℤ l) ≡ swapped (deny m l)
deny_swapped n opposed l h = refl
deny_swapped n (falses F) l h =
    let a : also (neg_ℤ l) (opposes F) ≡ opposes (also l F) = fun_ext (λ m. ap (λ b. b || opposes F m) (same_opposite n l m h) ∙ sym (opposes_also l F m)) in
    rw (opposes_twice F l, a) (by_cases (opposes F l) (λ t. rw t) (λ f. rw f))

make_false_swapped : (n : ℕ) (m : Made) (c : List ℤ) → all_pass (in_range n) c ≡ true → make_false (swapped m) (map neg_ℤ c) ≡ swapped (make_false m c)
unfolding make_false
make_false_swapped n m [] h = refl
make_false_swapped n m (l ∷ c) h =
    ap (λ x. make_false x (map neg_ℤ c)) (deny_swapped n m l (all_head (in_range n) l c h)) ∙ make_false_swapped n (deny m l) c (all_tail (in_range n) l c h)

pub refuted : (n : ℕ) (A : Allowed) (assumed hints : List ℤ) → all_pass (in_range n) assumed ≡ true
    → {m : Made} {r : Verdict} → m ≡ swapped (make_false none_false assumed) → r ≡ verdict_on A m hints → r ≡ proves A (map neg_ℤ assumed) hints
refuted n A assumed hints h e =
    let none_swapped : swapped none_false ≡ none_false = ap falses (fun_ext opposes_none) in
    proved A (map neg_ℤ assumed) hints (e ∙ sym (make_false_swapped n none_false assumed h) ∙ ap (λ m. make_false m (map neg_ℤ assumed)) none_swapped)
