-- What is lent and carried, where it is a state: the state obeys Terms, and settles every number that is carried and the ids that the stack lists. A working
-- table is made of what is lent, as loading would: then the laws of the working table say it.
use mathlib.Core.Path.{◌≡◌, refl, sym, ◌∙◌, ap, subst}
use mathlib.Core.Bool.{true}
use mathlib.Core.List.{List, ◌++◌, map, reverse, reverse-reverse}
use mathlib.Core.Option.{Option, none, some}
use Prim.Native.Nat.{ℕ, ◌-◌, ◌≤◌}
use native.Mathlib.Omega.{arith}
use lib.Dec.{leb}
use lib.IntN.{ℤ}
use lib.ListN.{length, take, replicate, length-append, length-map, length-replicate}
use lib.Seq.{take-append-le, take_all}
use borrow.Author.Tests.{ltb-true, leb-true, leb-false, eqb-true}
use Rattle.rules.specs.Terms.{Held, State, everything, room, Terms}
use Rattle.rules.specs.Answers.{lent}
use Rattle.rules.proofs.Lists.{by_cases, true-false}
use Rattle.table.specs.Spelled as working
use Rattle.table.specs.Spelled.{Row, Rising, Fit}
use Rattle.table.specs.declared.Table.{Table}
use Rattle.table.proofs.Readers.{count_held, words_held, depth_is}
use Rattle.table.proofs.Stacked.{listed_ids}
use Rattle.table.proofs.Obeys.{spelled_terms}
use Rattle.lent.specs.State.{is_state, state_of, state_carried, Alike}
use Rattle.lent.specs.declared.Carried.{Carried}
use Rattle.lent.proofs.Sizes.{lent_most}
use Rattle.lent.proofs.Listing.{lists_many}
use Rattle.lent_order.specs.Orders.{Shuffled, same, tidied}
use Rattle.lent_order.proofs.Alike.{arranged_state, arranged_count, arranged_tidy}
use Rattle.lent_order.proofs.Arranged.{arranged_rows}
use Rattle.std.specs.Prelude.{Some}
use Rattle.lent_load.proofs.States.{Parts, parts_of, rights, rights_inside, stacked_few, Tested, table, loads}
use Rattle.lent_load.proofs.Held.{too_many, same_state, front_count, arranged_loads, all_rows, widened, front_loads}

-- ---- a working table

pub record Made (c : Carried) (rows : List Row) (pool : List ℤ) : Type 0 where
  pub table : Table
  pub working_rows : List Row
  pub fit : Fit table working_rows pool c.stack
  pub spells : working.spelled table working_rows pool c.stack ≡ state_of c rows pool
  pub counts : (table.count - table.gone ≡ c.count) × (table.words ≡ c.words) × (table.depth ≡ c.depth)

module _ (c : Carried) (rows : List Row) (pool : List ℤ) (few : length rows ≤ 1024) (short : length pool ≤ 8192) (is : is_state c rows pool ≡ true) where
  held_most : c.count ≤ length rows
  held_most = by_cases (leb c.count (length rows)) (λ e. leb-true c.count (length rows) e)
      (λ e. true-false is (too_many c rows pool (leb-false c.count (length rows) e)))

  -- the rows held, tidied and by rising id
  abbrev front : List Row
  front = take c.count rows

  count_is : c.count ≡ length front
  count_is = front_count c rows pool held_most

  front_is : is_state c front pool ≡ true
  front_is = sym (same_state c rows pool held_most) ∙ is

  module _ {ys : List Row} (s : Shuffled (map tidied front) ys) where
    parts : Parts c ys pool
    parts = parts_of c ys pool (arranged_count c pool front count_is s) (sym (arranged_state c pool front count_is s) ∙ front_is)

  -- as many ids are listed as the stack is deep
  listed_all : length (take c.depth c.stack) ≡ c.depth
  listed_all = let p = parts (same (map tidied front)) in lists_many (take c.depth c.stack) _ p.stack_lists ∙ sym (eqb-true c.depth _ p.depth_is)

  deep : c.depth ≤ 1024
  deep =
      let neat = map tidied front in
      let d = eqb-true c.depth _ (parts (same neat)).depth_is in
      omega (arith, stacked_few pool neat, length-map front tidied, count_is, held_most)

  module _ (stack-room : length c.stack ≡ 1024) (ys : List Row) (s : Shuffled (map tidied front) ys) (rising : Rising ys) where
    ys_count : c.count ≡ length ys
    ys_count = arranged_count c pool front count_is s

    tested : Tested c ys pool (length pool)
    tested =
        let p = parts s in
        let right = rights c ys pool ys_count (arranged_tidy front s) p in
        record {
          counted = ys_count;
          rising = rising;
          few = omega (arith, ys_count, held_most);
          short = short;
          room = stack-room;
          low = λ (z : c.vars ≡ 0). let l = ltb-true 0 c.vars p.vars_low in omega arith;
          high = leb-true c.vars 2048 p.vars_high;
          highest = leb-true c.highest 2147483647 p.highest_fits;
          right_are = right;
          words = eqb-true c.words _ p.words_are;
          clear_are = p.rows_clear;
          deep = deep;
          listed = p.stack_lists;
          before = rights_inside c.vars c.highest pool ys right;
          within = omega arith;
        }

    made_of : Made c rows pool
    made_of =
        let k : length ys ≡ length front = sym ys_count ∙ count_is in
        let l = front_loads c rows pool held_most few stack-room ys k (table tested)
        (arranged_loads c front pool count_is s rising (Some (table tested)) (loads tested)) in
        record {
          table = widened c rows pool held_most few stack-room ys k (table tested);
          working_rows = all_rows c rows pool held_most few stack-room ys k;
          fit = l.1;
          spells = l.2;
          counts = (omega arith, refl, refl);
        }

  made : length c.stack ≡ 1024 → Made c rows pool
  made stack-room =
      let a = arranged_rows (map tidied front) (parts (same (map tidied front))).ids_differ in
      made_of stack-room a.0 a.1 a.2

-- ---- the ids behind those that are listed do not count: the stack may be given room for 1,024

abbrev roomy : Carried → Carried
roomy c = record {
  vars = c.vars;
  highest = c.highest;
  count = c.count;
  words = c.words;
  depth = c.depth;
  stack = take c.depth c.stack ++ replicate (1024 - c.depth) 0;
}

module _ (c : Carried) (rows : List Row) (pool : List ℤ) (few : length rows ≤ 1024) (short : length pool ≤ 8192) (is : is_state c rows pool ≡ true) where
  roomy_ids : take c.depth (roomy c).stack ≡ take c.depth c.stack
  roomy_ids =
      let n = listed_all c rows pool few short is in
      take-append-le c.depth (take c.depth c.stack) _ (omega arith) ∙ take_all c.depth (take c.depth c.stack) (omega arith)

  roomy_is : is_state (roomy c) rows pool ≡ true
  unfolding is_state
  roomy_is = let e = roomy_ids in rw e is

  roomy_spells : state_of (roomy c) rows pool ≡ state_of c rows pool
  unfolding state_of
  roomy_spells = let e = roomy_ids in rw e

  roomy_long : length (roomy c).stack ≡ 1024
  roomy_long =
      omega (
        arith,
        length-append (take c.depth c.stack) (replicate (1024 - c.depth) 0),
        listed_all c rows pool few short is,
        length-replicate {A = ℕ} (1024 - c.depth) 0,
        deep c rows pool few short is,
      )

  a_table : Made (roomy c) rows pool
  a_table = made (roomy c) rows pool few short roomy_is roomy_long

-- ---- what the state settles

-- what is carried beside a table that spells the state: all but where entries and literals lie, and the ids behind those listed
pub record Carries (c : Carried) (s : State) : Type 0 where
  pub vars : c.vars ≡ s.vars
  pub highest : c.highest ≡ s.highest
  pub count : c.count ≡ length (everything s)
  pub words : c.words ≡ room (everything s)
  pub depth : c.depth ≡ length s.stack
  pub listed : take c.depth c.stack ≡ reverse (map (λ (h : Held). h.id) s.stack)

-- so what is carried beside any two that spell it is alike
pub carries_alike : {c d : Carried} {s : State} → Carries c s → Carries d s → Alike c d
carries_alike a b = record {
  vars = a.vars ∙ sym b.vars;
  highest = a.highest ∙ sym b.highest;
  count = a.count ∙ sym b.count;
  words = a.words ∙ sym b.words;
  depth = a.depth ∙ sym b.depth;
  listed = a.listed ∙ sym b.listed;
}

pub same_alike : {c d : Carried} → c ≡ d → Alike c d
same_alike e = record {
  vars = ap (λ (x : Carried). x.vars) e;
  highest = ap (λ (x : Carried). x.highest) e;
  count = ap (λ (x : Carried). x.count) e;
  words = ap (λ (x : Carried). x.words) e;
  depth = ap (λ (x : Carried). x.depth) e;
  listed = ap (λ (x : Carried). take x.depth x.stack) e;
}

module _ (c : Carried) (rows : List Row) (pool : List ℤ) (is : is_state c rows pool ≡ true) (sizes : lent (length rows) (length pool) ≡ true) where
  few : length rows ≤ 1024
  few = (lent_most (length rows) (length pool) sizes).0

  short : length pool ≤ 8192
  short = (lent_most (length rows) (length pool) sizes).1

  m : Made (roomy c) rows pool
  m = a_table c rows pool few short is

  spells : working.spelled m.table m.working_rows pool (roomy c).stack ≡ state_of c rows pool
  spells = m.spells ∙ roomy_spells c rows pool few short is

  -- tables that are a state spell one that obeys Terms
  pub state_obeys_terms : Terms (state_of c rows pool)
  state_obeys_terms = subst Terms spells (spelled_terms m.fit)

  ids_are : map (λ (h : Held). h.id) (state_of c rows pool).stack ≡ reverse (take c.depth c.stack)
  ids_are =
      let e = m.counts.2 in
      ap (λ (s : State). map (λ (h : Held). h.id) s.stack) (sym spells) ∙ listed_ids m.fit.core.listed
      ∙ ap (λ n. reverse (take n (roomy c).stack)) e ∙ ap reverse (roomy_ids c rows pool few short is)

  pub state_carries : Carries c (state_of c rows pool)
  unfolding state_of
  state_carries = record {
    vars = refl;
    highest = refl;
    count = sym m.counts.0 ∙ sym (count_held m.fit) ∙ ap (λ (s : State). length (everything s)) spells;
    words = sym m.counts.1 ∙ sym (words_held m.fit) ∙ ap (λ (s : State). room (everything s)) spells;
    depth = sym m.counts.2 ∙ sym (depth_is m.fit) ∙ ap (λ (s : State). length s.stack) spells;
    listed = sym (reverse-reverse (take c.depth c.stack)) ∙ ap reverse (sym ids_are);
  }

-- the same, of what spells a state
module _ (c : Carried) (rows : List Row) (pool : List ℤ) {s : State} (e : state_carried c rows pool ≡ some s) where
  spelled_state : (is_state c rows pool ≡ true) × (state_of c rows pool ≡ s)
  spelled_state = by_cases (is_state c rows pool)
      (λ t. let q : ◌≡◌ {A = Option State} (some (state_of c rows pool)) (some s) = rw t at e in (t, cc))
      (λ f. let q : ◌≡◌ {A = Option State} none (some s) = rw f at e in let z : ◌≡◌ {A = ℕ} 0 1 = cc in absurd (omega arith))

  pub spelled_obeys : lent (length rows) (length pool) ≡ true → Terms s
  spelled_obeys sizes = subst Terms spelled_state.1 (state_obeys_terms c rows pool spelled_state.0 sizes)

  pub spelled_carries : lent (length rows) (length pool) ≡ true → Carries c s
  spelled_carries sizes = subst (Carries c) spelled_state.1 (state_carries c rows pool spelled_state.0 sizes)
