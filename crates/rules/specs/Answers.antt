-- Document 01, "Numbered answers": what each frame asks, in its order, and the numbers.
use Rattle.std.specs.Prelude.{Bool, true, false, not, cond, ◌&&◌, List, [], ◌∷◌, ◌++◌, map, ℕ, zero, suc, ◌+◌, ltb, leb, ℤ, pos, negsuc, neg_ℤ, nat_abs, length, take, drop}
use Rattle.std.specs.Bool.{xor}
use Rattle.rules.specs.Lists.{any_passes, only}
use Rattle.rules.specs.Terms.{Literals, same, in_range, holds, clean, Assignment, upd, lit, sat, Held, State, has, fetch, everything, room}
use Rattle.rules.specs.Propagation.{Allowed, among, proves}
use Rattle.rules.specs.Frames.{Frame, ADD, LEARN, FORGET, PROMOTE, DROP, WEAKEN, RESTORE, SAT, UNSAT, Parsed, malformed, framed, parse, number, without}
use Rattle.rules.specs.Frames.{above, needs_group, target, offered, mend, next}
use Rattle.rules.specs.declared.Verdict.{Verdict}
use Rattle.rules.specs.declared.Verdict.TheVariants.{Proved, BadHint, UsedUp}
use Rattle.rules.specs.declared.Fault.{Fault}
use Rattle.rules.specs.declared.Fault.TheVariants.{NoState, Malformed, Literal, Id, Unclean, NoWitness, Hint, Unproved, Group, Falsified, Assumption}
use Rattle.rules.specs.declared.Fault.TheVariants.{NoEntry, NoWords}
use Rattle.rules.specs.Results.{Check}
use Rattle.std.specs.Prelude.{Ok, Err}
use Rattle.rules.specs.Results.{Answer}

-- ---- "Each answer is a code and a detail."

abbrev pub numbers : Answer → ℕ × ℕ
numbers (Ok changed) = (0, changed)
numbers (Err NoState) = (1, 0)
numbers (Err Malformed) = (2, 0)
numbers (Err (Literal index)) = (3, index)
numbers (Err (Id i)) = (4, i)
numbers (Err (Unclean i)) = (5, i)
numbers (Err NoWitness) = (6, 0)
numbers (Err (Hint index)) = (7, index)
numbers (Err (Unproved i)) = (8, i)
numbers (Err (Group index)) = (9, index)
numbers (Err (Falsified i)) = (10, i)
numbers (Err (Assumption index)) = (11, index)
numbers (Err NoEntry) = (12, 0)
numbers (Err NoWords) = (13, 0)

-- ---- checks in order: the first that fails decides

infixr 20 ◌then◌
unfoldable pub ◌then◌ : Check → Check → Check
Ok tt then b = b
Err f then b = Err f

unfoldable pub need : Bool → Fault → Check
need true f = Ok tt
need false f = Err f

-- ---- 3: "index of first such word"; at is the index of the list's first word

-- "literal zero or past V, variable repeated in clause or witness"; seen are the variables before
unfoldable pub flaw : ℕ → (ℕ → Bool) → ℕ → List ℤ → Check
flaw vars seen at [] = Ok tt
flaw vars seen at (l ∷ c) =
    need (in_range vars l && not (seen (nat_abs l))) (Literal at) then
    flaw vars (upd seen (nat_abs l) true) (at + 1) c

abbrev pub unseen : ℕ → Bool
unseen v = false

-- "literal zero or past V": "Assumptions may repeat or oppose each other."
unfoldable pub ranged : ℕ → ℕ → List ℤ → Check
ranged vars at [] = Ok tt
ranged vars at (l ∷ c) = need (in_range vars l) (Literal at) then ranged vars (at + 1) c

abbrev pub is_above : ℕ → ℤ → Bool
is_above last (pos n) = ltb last n
is_above last (negsuc n) = false

-- "true variables not in 1 to V and rising"
unfoldable pub ascending : ℕ → ℕ → ℕ → List ℤ → Check
ascending vars last at [] = Ok tt
ascending vars last at (x ∷ vs) = need (in_range vars x && is_above last x) (Literal at) then ascending vars (number x) (at + 1) vs

-- ---- 4: "ADD, LEARN: id not new; else clause not in the place its row names"

abbrev pub new_id : State → ℕ → Check
new_id s i = need (ltb s.highest i) (Id i)

abbrev pub held_in : List Held → ℕ → Check
held_in hs i = need (has hs i) (Id i)

-- ---- 5: "id of the topmost offending record"

unfoldable pub cleanly : List ℤ → List Held → Check
cleanly c [] = Ok tt
cleanly c (r ∷ rs) = need (clean c r.witness) (Unclean r.id) then cleanly c rs

-- ---- 7 and 8: at is the index of the first hint, d the detail of 8

abbrev pub decided : ℕ → ℕ → Verdict → Check
decided at d (Proved n) = Ok tt
decided at d (BadHint n) = Err (Hint (at + n))
decided at d UsedUp = Err (Unproved d)

-- ---- 9: "a group missing, of the wrong id, with k missing, negative or past the end, or words left over"

abbrev pub fits : ℤ → ℕ → Bool
fits (pos k) left = leb k left
fits (negsuc n) left = false

-- "Each needs one group: D's id, k, then k hints."
unfoldable pub groups : Allowed → List ℤ → Literals → List Held → ℕ → List ℤ → Check
groups A c W [] at [] = Ok tt
groups A c W [] at (x ∷ ws) = Err (Group at)
groups A c W (D ∷ ds) at [] = Err (Group at)
groups A c W (D ∷ ds) at (x ∷ []) = need (same x (pos D.id)) (Group at) then Err (Group (at + 1))
groups A c W (D ∷ ds) at (x ∷ k ∷ ws) =
    need (same x (pos D.id)) (Group at) then
    need (fits k (length ws)) (Group (at + 1)) then
    decided (at + 2) D.id (proves A (target c W D.lits) (take (number k) ws)) then
    groups A c W ds (at + 2 + number k) (drop (number k) ws)

-- ---- 10 and 11

-- "the least such id"
unfoldable pub satisfied : Assignment → List Held → Check
satisfied α [] = Ok tt
satisfied α (h ∷ hs) = need (sat α h.lits) (Falsified h.id) then satisfied α hs

-- "word index of the first such"
unfoldable pub assumed_true : Assignment → ℕ → List ℤ → Check
assumed_true α at [] = Ok tt
assumed_true α at (l ∷ c) = need (lit α l) (Assumption at) then assumed_true α (at + 1) c

-- ---- 12 and 13

abbrev pub free_entry : State → Check
free_entry s = need (ltb (length (everything s)) s.entries) NoEntry

abbrev pub free_words : State → ℕ → Check
free_words s n = need (leb (room (everything s) + n) s.words) NoWords

-- ---- "Order: 1, 2, 3, 4; then .."

-- "ADD 5, 12, 13"
abbrev pub check_add : State → ℕ → List ℤ → Check
check_add s i c =
    flaw s.vars unseen 2 c then
    new_id s i then
    cleanly c s.stack then
    free_entry s then
    free_words s (length c)

-- "LEARN 12, 13, 7 or 8". Document 02, request 2: "A stacked clause follows from what was added, so LEARN and UNSAT may name it as a hint from now on."
abbrev pub check_learn : State → ℕ → List ℤ → List ℤ → Check
check_learn s i c hints =
    flaw s.vars unseen 3 c then
    new_id s i then
    free_entry s then
    free_words s (length c) then
    decided (3 + length c) 0 (proves (among (everything s)) c hints)

-- "DROP 7 or 8": "proved from the *other* irredundant clauses"
abbrev pub check_drop : State → ℕ → List ℤ → Check
check_drop s i hints =
    held_in s.irredundant i then
    decided 2 0 (proves (among (without s.irredundant i)) (fetch s.irredundant i).lits hints)

-- "WEAKEN 6, 13, then groups in order, the first of 9, 7, 8": "the allowed set is the irredundant clauses other than C"
abbrev pub check_weaken : State → ℕ → List ℤ → List ℤ → Check
check_weaken s i w ws =
    let c = (fetch s.irredundant i).lits in
    let others = without s.irredundant i in
    flaw s.vars unseen 3 w then
    held_in s.irredundant i then
    need (any_passes (holds w) c) NoWitness then
    free_words s (length w) then
    groups (among others) c (holds w) (only (needs_group (holds w)) others) (3 + length w) ws

-- "RESTORE 5": "clean against every record above it"
abbrev pub check_restore : State → ℕ → Check
check_restore s i =
    held_in s.stack i then
    cleanly (fetch s.stack i).lits (above s.stack i)

-- "SAT 11, 5, 10"
abbrev pub check_sat : State → List ℤ → List ℤ → Check
check_sat s assumed vs =
    ranged s.vars 2 assumed then
    ascending s.vars 0 (2 + length assumed) vs then
    assumed_true (offered vs) 2 assumed then
    cleanly assumed s.stack then
    satisfied (offered vs) s.irredundant

-- "UNSAT 7 or 8": "the opposites of the assumptions, as target, proved from irredundant and learned"; since request 2 from stacked clauses too
abbrev pub check_unsat : State → List ℤ → List ℤ → Check
check_unsat s assumed hints =
    ranged s.vars 2 assumed then
    decided (2 + length assumed) 0 (proves (among (everything s)) (map neg_ℤ assumed) hints)

unfoldable pub check : State → Frame → Check
check s (ADD i c) = check_add s i c
check s (LEARN i c hints) = check_learn s i c hints
check s (FORGET i) = held_in s.learned i
check s (PROMOTE i) = held_in s.learned i
check s (DROP i hints) = check_drop s i hints
check s (WEAKEN i w ws) = check_weaken s i w ws
check s (RESTORE i) = check_restore s i
check s (SAT assumed vs) = check_sat s assumed vs
check s (UNSAT assumed hints) = check_unsat s assumed hints

-- ---- the outcome of a frame's words: the answer, the state after them, and the model that is handed out

-- an accepted SAT hands out the mended assignment, beside the offered one; "only an accepted SAT writes the model buffer"
pub data Handed : Type 0 where
  untouched : Handed
  mended : Assignment → Assignment → Handed

abbrev pub hands : State → Frame → Handed
hands s (ADD i c) = untouched
hands s (LEARN i c hints) = untouched
hands s (FORGET i) = untouched
hands s (PROMOTE i) = untouched
hands s (DROP i hints) = untouched
hands s (WEAKEN i w ws) = untouched
hands s (RESTORE i) = untouched
hands s (SAT assumed vs) = mended (offered vs) (mend (offered vs) s.stack)
hands s (UNSAT assumed hints) = untouched

-- how many of the variables 1 to n differ
unfoldable pub differing : Assignment → Assignment → ℕ → ℕ
differing α β zero = 0
differing α β (suc n) = cond (xor (α (suc n)) (β (suc n))) 1 0 + differing α β n

-- "SAT: variables changed; else 0"
abbrev pub changed : ℕ → Handed → ℕ
changed vars untouched = 0
changed vars (mended α β) = differing α β vars

pub record Outcome : Type 0 where
  pub answer : Answer
  pub state : State
  pub handed : Handed

-- "Every code but 0 leaves all tables, V, the highest id and the model buffer as found."
abbrev pub settled : State → Frame → Check → Outcome
settled s f (Ok tt) = record { answer = Ok (changed s.vars (hands s f)); state = next s f; handed = hands s f }
settled s f (Err e) = record { answer = Err e; state = s; handed = untouched }

abbrev pub outcome_parsed : State → Parsed → Outcome
outcome_parsed s malformed = record { answer = Err Malformed; state = s; handed = untouched }
outcome_parsed s (framed f) = settled s f (check s f)

unfoldable pub outcome : State → List ℤ → Outcome
outcome s ws = outcome_parsed s (parse ws)

-- ---- what was written

-- "SAT and UNSAT never write the tables"; the operations 1 to 7 do
abbrev pub alters : Frame → Bool
alters (ADD i c) = true
alters (LEARN i c hints) = true
alters (FORGET i) = true
alters (PROMOTE i) = true
alters (DROP i hints) = true
alters (WEAKEN i w ws) = true
alters (RESTORE i) = true
alters (SAT assumed vs) = false
alters (UNSAT assumed hints) = false

-- a frame that writes the tables where it is accepted
abbrev pub is_change : Parsed → Bool
is_change malformed = false
is_change (framed f) = alters f

-- an accepted change
abbrev pub altered : Parsed → Answer → Bool
altered p (Ok n) = is_change p
altered p (Err e) = false

-- ---- opening

-- "Opening .. gives 1 for lent sizes only and then 3, both writing nothing; else 0, detail 0, and an empty state with highest id 0"
abbrev pub lent : ℕ → ℕ → Bool
lent entries words = (ltb 0 entries && leb entries 1024) && (ltb 0 words && leb words 8192)

unfoldable pub check_open : ℕ → ℕ → ℕ → Check
check_open vars entries words =
    need (lent entries words) NoState then
    need (ltb 0 vars && leb vars 2048) (Literal 0)

abbrev pub opened : ℕ → ℕ → ℕ → State
opened vars entries words = record { vars = vars; highest = 0; entries = entries; words = words; irredundant = []; learned = []; stack = [] }
