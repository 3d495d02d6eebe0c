-- Each return is one law of Literals.
use Prim.Native.Nat.{◌≤◌}
use Rattle.lrat_line.proofs.Literals.{kept_behind}
use Rattle.lrat_line.proofs.take_literal.Goals as goal

pub returns : goal.returns
returns c =
    let within : c.args.v ≤ c.args.vars = c.if-vars-v.false in
    kept_behind _ _ _ _ _ c.requires.1 c.enter-r.ensures c.if-v-eq0.false within c.if-n-eq256.false c.requires.0
    c.literal_of.ensures
