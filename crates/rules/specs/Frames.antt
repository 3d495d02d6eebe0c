-- Document 01, "The nine frames": from words to a frame, and what an accepted one does.
use Rattle.std.specs.Prelude.{Bool, true, false, not, cond, ◌&&◌, List, [], ◌∷◌, ◌++◌, ℕ, zero, suc, ◌+◌, ◌-◌, eqb, ltb, leb, ℤ, pos, negsuc, length, get_or, take, drop}
use Rattle.rules.specs.Lists.{any_passes, only}
use Rattle.rules.specs.Terms.{Literals, opposes, Assignment, upd, sat, holds, Held, State, fetch}

-- ---- the table of the nine frames

pub data Frame : Type 0 where
  ADD : ℕ → List ℤ → Frame
  LEARN : ℕ → List ℤ → List ℤ → Frame
  FORGET : ℕ → Frame
  PROMOTE : ℕ → Frame
  DROP : ℕ → List ℤ → Frame
  WEAKEN : ℕ → List ℤ → List ℤ → Frame
  RESTORE : ℕ → Frame
  SAT : List ℤ → List ℤ → Frame
  UNSAT : List ℤ → List ℤ → Frame

-- refusal 2, or a frame
pub data Parsed : Type 0 where
  malformed : Parsed
  framed : Frame → Parsed

unfoldable pub framed_if : Bool → Frame → Parsed
framed_if true f = framed f
framed_if false f = malformed

abbrev pub word : List ℤ → ℕ → ℤ
word ws k = get_or ws k (pos 0)

-- a word as an id or a count
abbrev pub number : ℤ → ℕ
number (pos n) = n
number (negsuc n) = 0

abbrev pub positive : ℤ → Bool
positive (pos n) = ltb 0 n
positive (negsuc n) = false

-- a word that counts from least to 256 of the words that are left
abbrev pub counts : ℕ → ℤ → ℕ → Bool
counts least (pos n) left = leb least n && (leb n 256 && leb n left)
counts least (negsuc n) left = false

-- "id, literals"; "ADD's literals are 0 to 256"
abbrev pub add_row : List ℤ → Parsed
add_row ws = framed_if (positive (word ws 1) && leb (length ws - 2) 256) (ADD (number (word ws 1)) (drop 2 ws))

-- "FORGET, PROMOTE and RESTORE have exactly 2" words
abbrev pub id_row : (ℕ → Frame) → List ℤ → Parsed
id_row f ws = framed_if (positive (word ws 1) && eqb (length ws) 2) (f (number (word ws 1)))

-- "id, hints"
abbrev pub drop_row : List ℤ → Parsed
drop_row ws = framed_if (positive (word ws 1)) (DROP (number (word ws 1)) (drop 2 ws))

-- "id, n, n literals, hints"; "id, w, w witness literals, groups"
abbrev pub listed_row : ℕ → (ℕ → List ℤ → List ℤ → Frame) → List ℤ → Parsed
listed_row least f ws =
    let n = number (word ws 2) in
    framed_if (positive (word ws 1) && counts least (word ws 2) (length ws - 3)) (f (number (word ws 1)) (take n (drop 3 ws)) (drop (3 + n) ws))

-- "a, a assumptions, true variables ascending"; "a, a assumptions, hints"
abbrev pub assuming_row : (List ℤ → List ℤ → Frame) → List ℤ → Parsed
assuming_row f ws = let a = number (word ws 1) in framed_if (counts 0 (word ws 1) (length ws - 2)) (f (take a (drop 2 ws)) (drop (2 + a) ws))

-- by the operation's number; there is no operation 0
abbrev pub rows : List (List ℤ → Parsed)
rows =
    (λ ws. malformed) ∷ add_row ∷ listed_row 0 LEARN ∷ id_row FORGET ∷ id_row PROMOTE ∷ drop_row ∷ listed_row 1 WEAKEN ∷ id_row RESTORE ∷ assuming_row SAT ∷
    assuming_row UNSAT ∷ []

-- "The least word counts are 2, 3, 2, 2, 2, 3, 2, 2, 2": of the operations 1 to 9
abbrev pub least_words : List ℕ
least_words = 2 ∷ 3 ∷ 2 ∷ 2 ∷ 2 ∷ 3 ∷ 2 ∷ 2 ∷ 2 ∷ []

-- "A frame is 1 to 4,096 words .. Word 0 is the operation."
unfoldable pub parse : List ℤ → Parsed
parse ws =
    let op = number (word ws 0) in
    cond (leb (get_or least_words (op - 1) 0) (length ws) && leb (length ws) 4096) (get_or rows op (λ ws. malformed) ws) malformed

-- ---- places

-- the clause of this id goes
unfoldable pub without : List Held → ℕ → List Held
without [] i = []
without (h ∷ hs) i = cond (eqb h.id i) hs (h ∷ without hs i)

-- the records above that of this id
unfoldable pub above : List Held → ℕ → List Held
above [] i = []
above (r ∷ rs) i = cond (eqb r.id i) [] (r ∷ above rs i)

-- h at its place by rising id
unfoldable pub place : Held → List Held → List Held
place h [] = h ∷ []
place h (x ∷ xs) = cond (ltb h.id x.id) (h ∷ x ∷ xs) (x ∷ place h xs)

-- ---- WEAKEN

-- D "holds the opposite of a literal of W and holds no literal of W"
abbrev pub needs_group : Literals → Held → Bool
needs_group W D = any_passes (opposes W) D.lits && not (any_passes W D.lits)

-- "The target is C together with D less the opposites of W"
abbrev pub target : List ℤ → Literals → List ℤ → List ℤ
target c W D = c ++ only (λ l. not (opposes W l)) D

-- ---- SAT

-- the offered assignment, by its true variables
abbrev pub offered : List ℤ → Assignment
offered vs v = holds vs (pos v)

-- the literal becomes true
unfoldable pub put : Assignment → ℤ → Assignment
put α (pos zero) = α
put α (pos (suc n)) = upd α (suc n) true
put α (negsuc n) = upd α (suc n) false

unfoldable pub make : Assignment → List ℤ → Assignment
make α [] = α
make α (l ∷ w) = make (put α l) w

-- "where the record's clause has no true literal, make all its witness literals true"
abbrev pub repair : Assignment → Held → Assignment
repair α r = cond (sat α r.lits) α (make α r.witness)

-- "Then walk the records from top to bottom"
unfoldable pub mend : Assignment → List Held → Assignment
mend α [] = α
mend α (r ∷ rs) = mend (repair α r) rs

-- ---- the state after an accepted frame

abbrev pub plain : ℕ → List ℤ → Held
plain i c = record { id = i; lits = c; witness = [] }

abbrev pub with_places : State → ℕ → List Held → List Held → List Held → State
with_places s top irr lrn stk = record { vars = s.vars; highest = top; entries = s.entries; words = s.words; irredundant = irr; learned = lrn; stack = stk }

abbrev pub next : State → Frame → State
next s (ADD i c) = with_places s i (place (plain i c) s.irredundant) s.learned s.stack
next s (LEARN i c hints) = with_places s i s.irredundant (place (plain i c) s.learned) s.stack
next s (FORGET i) = with_places s s.highest s.irredundant (without s.learned i) s.stack
next s (PROMOTE i) = with_places s s.highest (place (plain i (fetch s.learned i).lits) s.irredundant) (without s.learned i) s.stack
next s (DROP i hints) = with_places s s.highest (without s.irredundant i) s.learned s.stack
next s (WEAKEN i w groups) =
    with_places s s.highest (without s.irredundant i) s.learned (record { id = i; lits = (fetch s.irredundant i).lits; witness = w } ∷ s.stack)
next s (RESTORE i) = with_places s s.highest (place (plain i (fetch s.stack i).lits) s.irredundant) s.learned (without s.stack i)
next s (SAT assumed vs) = s
next s (UNSAT assumed hints) = s
