-- Document 01, "Terms".
use Rattle.std.specs.Prelude.{◌≡◌, Bool, true, false, not, cond, ◌&&◌, List, [], ◌∷◌, ◌++◌, ℕ, zero, suc, ◌+◌, ◌≤◌, eqb, ltb, leb, ℤ, pos, negsuc, nat_abs, length}
use Rattle.rules.specs.Lists.{any_passes, all_pass}

-- ---- literals and clauses

-- "Variables are 1 to V. .. A literal is v or -v." A literal is a word, its variable nat_abs. 0 is no literal: no assignment makes it true, and it has no
-- opposite.
abbrev pub same : ℤ → ℤ → Bool
same (pos a) (pos b) = eqb a b
same (pos a) (negsuc b) = false
same (negsuc a) (pos b) = false
same (negsuc a) (negsuc b) = eqb a b

abbrev pub is_variable : ℕ → ℕ → Bool
is_variable vars v = ltb 0 v && leb v vars

abbrev pub in_range : ℕ → ℤ → Bool
in_range vars (pos zero) = false
in_range vars (pos (suc n)) = ltb n vars
in_range vars (negsuc n) = ltb n vars

-- a set of literals, as a test
abbrev pub Literals : Type 0
Literals = ℤ → Bool

-- the literals of a list
abbrev pub holds : List ℤ → Literals
holds c l = any_passes (λ m. same m l) c

-- the literals whose opposite is in the set
abbrev pub opposes : Literals → Literals
opposes S (pos zero) = false
opposes S (pos (suc n)) = S (negsuc n)
opposes S (negsuc n) = S (pos (suc n))

-- v is the variable of a literal of the list
abbrev pub mentions : List ℤ → ℕ → Bool
mentions c v = any_passes (λ l. eqb (nat_abs l) v) c

-- "no variable occurs twice, with either sign"
unfoldable pub distinct : List ℤ → Bool
distinct [] = true
distinct (l ∷ c) = not (mentions c (nat_abs l)) && distinct c

-- "A clause is a list of 0 to 256 literals in which no variable occurs twice, with either sign."
unfoldable pub is_clause : ℕ → List ℤ → Bool
is_clause vars c = leb (length c) 256 && (all_pass (in_range vars) c && distinct c)

-- a record's "witness: 1 to 256 literals, no variable twice, at least one of them in the clause"; so it is not empty
unfoldable pub is_witness : ℕ → List ℤ → List ℤ → Bool
is_witness vars c w = is_clause vars w && any_passes (holds w) c

-- "A clause is *clean* against a record when it holds no literal whose opposite is in the witness. A single literal is judged as a clause of one."
abbrev pub clean : List ℤ → List ℤ → Bool
clean c w = all_pass (λ l. not (opposes (holds w) l)) c

-- ---- assignments

-- "An assignment gives every variable true or false." (How 32 words hold it is the crate words'.)
abbrev pub Assignment : Type 0
Assignment = ℕ → Bool

-- the assignment with v set anew
unfoldable pub upd : Assignment → ℕ → Bool → Assignment
upd α v b u = cond (eqb v u) b (α u)

unfoldable pub lit : Assignment → Literals
lit α (pos zero) = false
lit α (pos (suc n)) = α (suc n)
lit α (negsuc n) = not (α (suc n))

-- the clause holds a true literal
abbrev pub sat : Assignment → List ℤ → Bool
sat α c = any_passes (lit α) c

-- ---- states

-- "Every clause has an id"; the witness of a clause that is not stacked is empty
pub record Held : Type 0 where
  pub id : ℕ
  pub lits : List ℤ
  pub witness : List ℤ

-- "A state has three places": irredundant and learned are kept by rising id, the stack from its top. V, the highest id accepted and the lent sizes go with
-- them.
pub record State : Type 0 where
  pub vars : ℕ
  pub highest : ℕ
  pub entries : ℕ
  pub words : ℕ
  pub irredundant : List Held
  pub learned : List Held
  pub stack : List Held

-- a clause of this id is in the place, and which
abbrev pub has : List Held → ℕ → Bool
has hs i = any_passes (λ h. eqb h.id i) hs

abbrev pub nothing : Held
nothing = record { id = 0; lits = []; witness = [] }

unfoldable pub fetch : List Held → ℕ → Held
fetch [] i = nothing
fetch (h ∷ hs) i = cond (eqb h.id i) h (fetch hs i)

-- "clauses in the three places", and "literals and witness literals held"
abbrev pub everything : State → List Held
everything s = s.irredundant ++ (s.learned ++ s.stack)

unfoldable pub room : List Held → ℕ
room [] = 0
room (h ∷ hs) = length h.lits + length h.witness + room hs

-- ---- what a state obeys

abbrev pub null : List ℤ → Bool
null [] = true
null (l ∷ c) = false

-- how many of the clauses have the id
unfoldable pub tally : ℕ → List Held → ℕ
tally i [] = 0
tally i (h ∷ hs) = cond (eqb h.id i) 1 0 + tally i hs

-- by rising id
unfoldable pub rising : List Held → Bool
rising [] = true
rising (h ∷ hs) = all_pass (λ x. ltb h.id x.id) hs && rising hs

-- "positive and not above the highest accepted"
unfoldable pub is_id : ℕ → Held → Bool
is_id highest h = ltb 0 h.id && leb h.id highest

-- "every clause and witness obeys Terms within V, only stacked clauses have witnesses": a clause that is not stacked, and a record
unfoldable pub is_plain : ℕ → Held → Bool
is_plain vars h = is_clause vars h.lits && null h.witness

unfoldable pub is_record : ℕ → Held → Bool
is_record vars r = is_clause vars r.lits && is_witness vars r.lits r.witness

-- what makes a state one; the places are in order besides, and all is within the lent sizes
pub record Terms (s : State) : Type 0 where
  pub vars_in_range : (ltb 0 s.vars && leb s.vars 2048) ≡ true
  pub ids_distinct : (i : ℕ) → tally i (everything s) ≤ 1
  pub ids_in_range : all_pass (is_id s.highest) (everything s) ≡ true
  pub irredundant : all_pass (is_plain s.vars) s.irredundant ≡ true
  pub learned : all_pass (is_plain s.vars) s.learned ≡ true
  pub stack : all_pass (is_record s.vars) s.stack ≡ true
  pub irredundant_rising : rising s.irredundant ≡ true
  pub learned_rising : rising s.learned ≡ true
  pub within_entries : length (everything s) ≤ s.entries
  pub within_words : room (everything s) ≤ s.words
