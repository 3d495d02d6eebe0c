-- Invariant: the whole check is the check of the words left, with the variables seen so far.
use mathlib.Core.Path.{◌∙◌, ap}
use mathlib.Core.Bool.{true, not}
use Prim.Native.Nat.{ℕ}
use native.Mathlib.Nat.{add-zero}
use borrow.Author.Rules.{rules}
use lib.IntN.{pos, nat_abs}
use lib.ListN.{get_or}
use mir.Syntax.{w32}
use mir.Val.{SFits}
use Rattle.rules.specs.Terms.{upd}
use Rattle.lit.proofs.Signed.{said}
use Rattle.lit_sets.specs.Words.{assigned}
use Rattle.lit_sets.proofs.Assigned.{zeros_unset}
use Rattle.lit_clause.proofs.Faults.{flaws, faulty, sound_on, all_sound, out, seen_is}
use Rattle.lit_clause.proofs.flaw.Goals as goal

pub loop-i-init : goal.loop-i-init
loop-i-init c = rw (add-zero, zeros_unset)

pub returns-then-not-in_range : goal.returns-then-not-in_range
returns-then-not-in_range c =
    let fits : SFits w32 (get_or c.args.c.now c.loop-i.i (pos 0)) = search rules in
    faulty (flaws _) _ _ _ _ _ c.loop-i.invariant c.loop-i-test.true (out _ fits c.in_range.ensures c.if-not-in_range.true _)

pub returns-then-value : goal.returns-then-value
returns-then-value c =
    let fits : SFits w32 (get_or c.args.c.now c.loop-i.i (pos 0)) = search rules in
    let again = seen_is _ fits c.in_range.ensures c.if-not-in_range.false (assigned c.loop-i.seen) c.variable-v.ensures c.value.ensures in
    faulty (flaws _) _ _ _ _ _ c.loop-i.invariant c.loop-i-test.true (again ∙ ap not c.if-value.true)

pub loop-i-preserved : goal.loop-i-preserved
loop-i-preserved c =
    let fits : SFits w32 (get_or c.args.c.now c.loop-i.i (pos 0)) = search rules in
    let new = seen_is _ fits c.in_range.ensures c.if-not-in_range.false (assigned c.loop-i.seen) c.variable-v.ensures c.value.ensures in
    let kept = c.set_to.ensures ∙ ap (λ (n : ℕ). upd (assigned c.loop-i.seen) n true) (said nat_abs fits c.variable-v.ensures) in
    sound_on (flaws _) _ _ _ _ _ c.loop-i.invariant c.loop-i-test.true (new ∙ ap not c.if-value.false) _ kept

pub returns : goal.returns
returns c = all_sound (flaws _) _ _ _ _ _ c.loop-i.invariant c.loop-i-test.false
