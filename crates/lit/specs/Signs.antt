-- The polarity of a literal.
use Rattle.std.specs.Prelude.{Bool, true, false, ℤ, pos, negsuc}

-- "sign decides the polarity"
abbrev pub is_natural : ℤ → Bool
is_natural (pos n) = true
is_natural (negsuc n) = false
