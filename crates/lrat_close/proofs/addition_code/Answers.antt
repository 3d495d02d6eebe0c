use mathlib.Core.Path.{◌≡◌, refl, ◌∙◌}
use mathlib.Core.List.{List}
use Prim.Native.Nat.{ℕ}
use native.Mathlib.Omega.{arith}
use lib.Dec.{eqb}
use lib.IntN.{ℤ}
use lib.ListN.{length, take}
use lib.Seq.{length-take-le}
use borrow.Author.Tests.{ne_eqb}
use Rattle.rules.specs.Terms.{Literals, State}
use Rattle.table.specs.Spelled.{spelled}
use Rattle.lrat.specs.Checking.{ask}
use Rattle.lrat.specs.Kept.{read_with}
use Rattle.lrat.specs.Machine.{addition_code}
use Rattle.lrat_close.proofs.Codes.{fault_decides, room_decides, proof_decides}
use Rattle.lrat_close.proofs.addition_code.Goals as goal

pub returns-then-fault-lt37 : goal.returns-then-fault-lt37
returns-then-fault-lt37 c =
    let state : State = spelled c.args.t c.args.rows.now c.args.pool.now c.args.stack.now in
    let lits : List ℤ = take c.args.l.count c.args.lits.now in
    λ F. fault_decides state c.args.l lits F (c.addition_fault-fault.ensures state F refl refl) c.if-fault-lt37.true

pub returns-then-spare-ne0 : goal.returns-then-spare-ne0
returns-then-spare-ne0 c =
    let state : State = spelled c.args.t c.args.rows.now c.args.pool.now c.args.stack.now in
    let lits : List ℤ = take c.args.l.count c.args.lits.now in
    let kept : length lits ≡ c.args.l.count = length-take-le c.args.l.count c.args.lits.now (omega (arith, c.requires.1.long, c.requires.1.few)) in
    λ F. room_decides state c.args.l lits F (c.addition_fault-fault.ensures state F refl refl) (omega (arith, c.if-fault-lt37.false))
    (c.room_code-spare.ensures lits kept) c.if-spare-ne0.true

pub returns-then-l-ne1 : goal.returns-then-l-ne1
returns-then-l-ne1 c =
    let state : State = spelled c.args.t c.args.rows.now c.args.pool.now c.args.stack.now in
    let lits : List ℤ = take c.args.l.count c.args.lits.now in
    let kept : length lits ≡ c.args.l.count = length-take-le c.args.l.count c.args.lits.now (omega (arith, c.requires.1.long, c.requires.1.few)) in
    let proof_left : (F : Literals) → ask (eqb c.args.l.proof 1) 37 0 ≡ addition_code state (read_with c.args.l lits F) = λ F. proof_decides state c.args.l lits F (c.addition_fault-fault.ensures state F refl refl) (omega (arith, c.if-fault-lt37.false)) (c.room_code-spare.ensures lits kept) c.if-spare-ne0.false in
    λ F. let e : ◌≡◌ {A = ℕ} 37 (ask (eqb c.args.l.proof 1) 37 0) = rw (ne_eqb c.args.l.proof 1 c.if-l-ne1.true) refl in
    e ∙ proof_left F

pub returns : goal.returns
returns c =
    let state : State = spelled c.args.t c.args.rows.now c.args.pool.now c.args.stack.now in
    let lits : List ℤ = take c.args.l.count c.args.lits.now in
    let kept : length lits ≡ c.args.l.count = length-take-le c.args.l.count c.args.lits.now (omega (arith, c.requires.1.long, c.requires.1.few)) in
    let proof_left : (F : Literals) → ask (eqb c.args.l.proof 1) 37 0 ≡ addition_code state (read_with c.args.l lits F) = λ F. proof_decides state c.args.l lits F (c.addition_fault-fault.ensures state F refl refl) (omega (arith, c.if-fault-lt37.false)) (c.room_code-spare.ensures lits kept) c.if-spare-ne0.false in
    λ F. let e : ◌≡◌ {A = ℕ} 0 (ask (eqb c.args.l.proof 1) 37 0) = rw c.if-l-ne1.false refl in
    e ∙ proof_left F
