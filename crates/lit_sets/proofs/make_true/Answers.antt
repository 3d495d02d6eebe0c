-- Invariant: the literals that are left, made true from here, give the whole.
use mathlib.Core.Path.{◌≡◌, ◌∙◌, ap₂}
use mathlib.Core.Bool.{true}
use borrow.Author.Rules.{rules}
use lib.IntN.{pos, nat_abs}
use lib.ListN.{get_or}
use mir.Syntax.{w32}
use mir.Val.{SFits}
use Rattle.rules.specs.Terms.{in_range, upd}
use Rattle.rules.proofs.Lists.{all_index}
use Rattle.lit.specs.Signs.{is_natural}
use Rattle.lit.proofs.Signed.{variable_asked, variable_bounds, said}
use Rattle.lit_sets.specs.Words.{assigned}
use Rattle.lit_sets.proofs.Made.{made_on, made_end}
use Rattle.lit_sets.proofs.make_true.Goals as goal

pub variable-requires : goal.variable-requires
variable-requires c =
    let fits : SFits w32 (get_or c.args.w.now c.loop-l.l-index (pos 0)) = search rules in
    variable_asked fits (all_index (in_range 2048) _ _ _ c.loop-l-test.true c.requires)

pub set_to-requires : goal.set_to-requires
set_to-requires c =
    let fits : SFits w32 (get_or c.args.w.now c.loop-l.l-index (pos 0)) = search rules in
    variable_bounds fits (all_index (in_range 2048) _ _ _ c.loop-l-test.true c.requires) c.variable.ensures

pub loop-l-preserved : goal.loop-l-preserved
loop-l-preserved c =
    let fits : SFits w32 (get_or c.args.w.now c.loop-l.l-index (pos 0)) = search rules in
    let ranged : in_range 2048 (get_or c.args.w.now c.loop-l.l-index (pos 0)) ≡ true = all_index (in_range 2048) _ _ _ c.loop-l-test.true c.requires in
    let said-both = ap₂ (upd (assigned c.loop-l.out)) (said nat_abs fits c.variable.ensures) (said is_natural fits c.is_not_negative.ensures) in
    made_on _ c.args.w.now _ c.loop-l.l-index c.loop-l.invariant c.loop-l-test.true ranged _ (c.set_to.ensures ∙ said-both)

pub returns : goal.returns
returns c = made_end _ _ _ _ c.loop-l.invariant c.loop-l-test.false
