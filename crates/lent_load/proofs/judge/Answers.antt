-- `lent_load::judge` meets its contract: a test that fails says that there is no state, and where all pass the working table fits.
use mathlib.Core.Path.{◌≡◌, sym, ◌∙◌, ap}
use Prim.Native.Nat.{ℕ, ◌≤◌}
use native.Mathlib.Omega.{arith}
use lib.ListN.{length, take}
use Rattle.rules.specs.Lists.{all_pass}
use Rattle.table.specs.Facts.{All}
use Rattle.table.specs.Spelled.{Inside, clauses}
use Rattle.table.proofs.Facts.{all_more}
use Rattle.lent.specs.State.{lists}
use Rattle.lent.proofs.Tests.{all_test}
use Rattle.lent.proofs.Judged.{inside_test}
use Rattle.lent_lawful.specs.Rights.{right}
use Rattle.lent_load.proofs.States.{no_vars, vars_past, highest_past, row_wrong, words_differ, some_overlap, not_listed, rights_inside, loads}
use Rattle.lent_load.proofs.judge.Goals as goal

pub returns-then-vars-eq0 : goal.returns-then-vars-eq0
returns-then-vars-eq0 c = no_vars c.args.c c.args.rows.now c.args.pool.now c.requires.3 (omega (arith, c.if-vars-eq0.true, c.wide-vars.ensures.0))

pub returns-then-vars-gt2048 : goal.returns-then-vars-gt2048
returns-then-vars-gt2048 c = vars_past c.args.c c.args.rows.now c.args.pool.now c.requires.3 (omega (arith, c.if-vars-gt2048.true, c.wide-vars.ensures.0))

pub returns-then-c-gt2147483647 : goal.returns-then-c-gt2147483647
returns-then-c-gt2147483647 c = highest_past c.args.c c.args.rows.now c.args.pool.now c.requires.3 c.if-c-gt2147483647.true

pub returns-then-not-are_right : goal.returns-then-not-are_right
returns-then-not-are_right c =
    let vars_are : c.wide-vars.result ≡ c.args.c.vars = c.wide-vars.ensures.0 in
    let asked : all_pass (right c.args.c.vars c.args.c.highest c.args.pool.now) c.args.rows.now ≡ c.are_right.result = ap (λ (v : ℕ). all_pass (right v c.args.c.highest c.args.pool.now) c.args.rows.now) (sym vars_are) ∙ sym c.are_right.ensures in
    row_wrong c.args.c c.args.rows.now c.args.pool.now c.requires.3 c.requires.1 (asked ∙ c.if-not-are_right.true)

pub words_of-requires : goal.words_of-requires
words_of-requires c =
    let vars_are : c.wide-vars.result ≡ c.args.c.vars = c.wide-vars.ensures.0 in
    let asked : all_pass (right c.args.c.vars c.args.c.highest c.args.pool.now) c.args.rows.now ≡ c.are_right.result = ap (λ (v : ℕ). all_pass (right v c.args.c.highest c.args.pool.now) c.args.rows.now) (sym vars_are) ∙ sym c.are_right.ensures in
    let inside_are : All (Inside (length c.args.pool.now)) c.args.rows.now = rights_inside c.args.c.vars c.args.c.highest c.args.pool.now c.args.rows.now (asked ∙ c.if-not-are_right.false) in
    (all_more (λ r h. omega (arith, c.requires.5)) inside_are, c.requires.4)

pub returns-then-words_of-wide : goal.returns-then-words_of-wide
returns-then-words_of-wide c =
    words_differ c.args.c c.args.rows.now c.args.pool.now c.requires.3
    (λ e. c.if-words_of-wide.true (c.words_of.ensures ∙ sym e ∙ sym c.wide.ensures.0))

pub are_apart-requires : goal.are_apart-requires
are_apart-requires c =
    let vars_are : c.wide-vars.result ≡ c.args.c.vars = c.wide-vars.ensures.0 in
    let asked : all_pass (right c.args.c.vars c.args.c.highest c.args.pool.now) c.args.rows.now ≡ c.are_right.result = ap (λ (v : ℕ). all_pass (right v c.args.c.highest c.args.pool.now) c.args.rows.now) (sym vars_are) ∙ sym c.are_right.ensures in
    let inside_are : All (Inside (length c.args.pool.now)) c.args.rows.now = rights_inside c.args.c.vars c.args.c.highest c.args.pool.now c.args.rows.now (asked ∙ c.if-not-are_right.false) in
    (all_test (λ r h. inside_test (length c.args.pool.now) (length c.args.pool.now) r (omega arith) h) inside_are, c.requires.5)

pub returns-then-not-are_apart : goal.returns-then-not-are_apart
returns-then-not-are_apart c = some_overlap c.args.c c.args.rows.now c.args.pool.now c.requires.3 (sym c.are_apart.ensures ∙ c.if-not-are_apart.true)

pub returns-then-not-lists_each_once : goal.returns-then-not-lists_each_once
returns-then-not-lists_each_once c =
    let listing : lists (take c.args.c.depth c.args.c.stack) (clauses 2 c.args.pool.now c.args.rows.now) ≡ c.lists_each_once.result = ap (λ (d : ℕ). lists (take d c.args.c.stack) (clauses 2 c.args.pool.now c.args.rows.now)) (sym c.wide-depth.ensures.0) ∙ sym (c.lists_each_once.ensures c.args.pool.now) in
    not_listed c.args.c c.args.rows.now c.args.pool.now c.requires.3 (listing ∙ c.if-not-lists_each_once.true)

pub overflow_cast-top : goal.overflow_cast-top
overflow_cast-top c =
    let vars_are : c.wide-vars.result ≡ c.args.c.vars = c.wide-vars.ensures.0 in
    let asked : all_pass (right c.args.c.vars c.args.c.highest c.args.pool.now) c.args.rows.now ≡ c.are_right.result = ap (λ (v : ℕ). all_pass (right v c.args.c.highest c.args.pool.now) c.args.rows.now) (sym vars_are) ∙ sym c.are_right.ensures in
    let inside_are : All (Inside (length c.args.pool.now)) c.args.rows.now = rights_inside c.args.c.vars c.args.c.highest c.args.pool.now c.args.rows.now (asked ∙ c.if-not-are_right.false) in
    let ends : c.end_of-top.result ≤ length c.args.pool.now = c.end_of-top.ensures.no_later (length c.args.pool.now) inside_are in
    omega (arith, ends, c.requires.5)

pub returns : goal.returns
returns c =
    let vars_are : c.wide-vars.result ≡ c.args.c.vars = c.wide-vars.ensures.0 in
    let asked : all_pass (right c.args.c.vars c.args.c.highest c.args.pool.now) c.args.rows.now ≡ c.are_right.result = ap (λ (v : ℕ). all_pass (right v c.args.c.highest c.args.pool.now) c.args.rows.now) (sym vars_are) ∙ sym c.are_right.ensures in
    let inside_are : All (Inside (length c.args.pool.now)) c.args.rows.now = rights_inside c.args.c.vars c.args.c.highest c.args.pool.now c.args.rows.now (asked ∙ c.if-not-are_right.false) in
    let listing : lists (take c.args.c.depth c.args.c.stack) (clauses 2 c.args.pool.now c.args.rows.now) ≡ c.lists_each_once.result = ap (λ (d : ℕ). lists (take d c.args.c.stack) (clauses 2 c.args.pool.now c.args.rows.now)) (sym c.wide-depth.ensures.0) ∙ sym (c.lists_each_once.ensures c.args.pool.now) in
    let ends : c.end_of-top.result ≤ length c.args.pool.now = c.end_of-top.ensures.no_later (length c.args.pool.now) inside_are in
    loads record {
      counted = c.requires.3;
      rising = c.requires.0;
      few = c.requires.4;
      short = c.requires.5;
      room = c.requires.2.0;
      low = λ (e : c.args.c.vars ≡ 0). c.if-vars-eq0.false (vars_are ∙ e);
      high = omega (arith, c.if-vars-gt2048.false, vars_are);
      highest = c.if-c-gt2147483647.false;
      right_are = asked ∙ c.if-not-are_right.false;
      words = omega (arith, c.if-words_of-wide.false, c.wide.ensures.0, c.words_of.ensures);
      clear_are = sym c.are_apart.ensures ∙ c.if-not-are_apart.false;
      deep = c.requires.2.1;
      listed = listing ∙ c.if-not-lists_each_once.false;
      before = c.end_of-top.ensures.all_before;
      within = ends;
    }
