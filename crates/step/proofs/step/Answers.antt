-- `step::step` meets its contract: one section an operation, by the head that was read.
use mathlib.Core.Path.{refl}
use mathlib.Core.List.{List}
use lib.IntN.{ℤ}
use Rattle.std.specs.Prelude.{Some}
use Rattle.rules.specs.Frames.{ADD, LEARN, DROP, WEAKEN, SAT, UNSAT, parse}
use Rattle.step_frame.specs.Head.{Reads}
use Rattle.step_frame.specs.declared.Head.TheVariants as head
use Rattle.step.proofs.Stepping.{one_list, two_lists, no_frame, applied, asked, answered_only}
use Rattle.step.proofs.step.Goals as goal

pub returns-in_default : goal.returns-in_default
returns-in_default c = rw c.refused.ensures (no_frame c.requires (rw c.in_default.is at c.parse.ensures).frame)

pub returns-in-Add : goal.returns-in-Add
returns-in-Add c =
    let ws : List ℤ = c.args.frame.now in
    let read : Reads (parse ws) ws (Some (head.Add c.in-Add.id)) = rw c.in-Add.is at c.in-Some.ensures in
    rw c.changed.ensures (applied c.requires (one_list 2 _ (ADD c.in-Add.id) read.frame) refl refl _ c.add.ensures)

pub returns-in-Learn : goal.returns-in-Learn
returns-in-Learn c =
    let ws : List ℤ = c.args.frame.now in
    let read : Reads (parse ws) ws (Some (head.Learn c.in-Learn.id c.in-Learn.n)) = rw c.in-Learn.is at c.in-Some.ensures in
    rw c.changed-in-Learn.ensures (applied c.requires (two_lists 3 _ c.in-Learn.n (LEARN c.in-Learn.id) read.frame) refl refl _ c.learn.ensures)

pub returns-in-Forget : goal.returns-in-Forget
returns-in-Forget c =
    let ws : List ℤ = c.args.frame.now in
    let read : Reads (parse ws) ws (Some (head.Forget c.in-Forget.id)) = rw c.in-Forget.is at c.in-Some.ensures in
    rw c.changed-in-Forget.ensures (applied c.requires read.frame refl refl _ c.forget.ensures)

pub returns-in-Promote : goal.returns-in-Promote
returns-in-Promote c =
    let ws : List ℤ = c.args.frame.now in
    let read : Reads (parse ws) ws (Some (head.Promote c.in-Promote.id)) = rw c.in-Promote.is at c.in-Some.ensures in
    rw c.changed-in-Promote.ensures (applied c.requires read.frame refl refl _ c.promote.ensures)

pub returns-in-Drop : goal.returns-in-Drop
returns-in-Drop c =
    let ws : List ℤ = c.args.frame.now in
    let read : Reads (parse ws) ws (Some (head.Drop c.in-Drop.id)) = rw c.in-Drop.is at c.in-Some.ensures in
    rw c.changed-in-Drop.ensures (applied c.requires (one_list 2 _ (DROP c.in-Drop.id) read.frame) refl refl _ c.drop_clause.ensures)

pub returns-in-Weaken : goal.returns-in-Weaken
returns-in-Weaken c =
    let ws : List ℤ = c.args.frame.now in
    let read : Reads (parse ws) ws (Some (head.Weaken c.in-Weaken.id c.in-Weaken.n)) = rw c.in-Weaken.is at c.in-Some.ensures in
    rw c.changed-in-Weaken.ensures (applied c.requires (two_lists 3 _ c.in-Weaken.n (WEAKEN c.in-Weaken.id) read.frame) refl refl _ c.weaken.ensures)

pub returns-in-Restore : goal.returns-in-Restore
returns-in-Restore c =
    let ws : List ℤ = c.args.frame.now in
    let read : Reads (parse ws) ws (Some (head.Restore c.in-Restore.id)) = rw c.in-Restore.is at c.in-Some.ensures in
    rw c.changed-in-Restore.ensures (applied c.requires read.frame refl refl _ c.restore.ensures)

pub returns-in-Sat : goal.returns-in-Sat
returns-in-Sat c =
    let ws : List ℤ = c.args.frame.now in
    let read : Reads (parse ws) ws (Some (head.Sat c.in-Sat.n)) = rw c.in-Sat.is at c.in-Some.ensures in
    rw c.answered.ensures (asked c.requires (two_lists 2 _ c.in-Sat.n SAT read.frame) refl _ refl c.sat-answer.ensures)

pub returns-in-Unsat : goal.returns-in-Unsat
returns-in-Unsat c =
    let ws : List ℤ = c.args.frame.now in
    let read : Reads (parse ws) ws (Some (head.Unsat c.in-Unsat.n)) = rw c.in-Unsat.is at c.in-Some.ensures in
    rw c.answered-in-Unsat.ensures (asked c.requires (two_lists 2 _ c.in-Unsat.n UNSAT read.frame) refl _ refl
    (answered_only c.requires refl c.unsat-answer.ensures))
