use Rattle.std.proofs.Common.{rules}
use Rattle.line_hex.proofs.values.Goals as goal

pub returns : goal.returns
returns c = record { each = λ b h. let w = (c.from_fn.ensures.items.at b 0 h).2 in search (rules, w) }
