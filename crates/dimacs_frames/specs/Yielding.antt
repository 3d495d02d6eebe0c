-- What a call of `next` tells: Rust's own Result, with an Option in it.
use Rattle.std.specs.Prelude.{ℕ, Option, Some, Result, Ok}
use Rattle.dimacs_frames.specs.declared.Cursor.{Cursor}
use Rattle.dimacs_frames.specs.declared.Yielded.{Yielded}
use Rattle.dimacs_frames.specs.declared.YieldError.{YieldError}

-- a frame and the cursor behind it, or that no clause is left; or why nothing is handed out
abbrev pub Yield : Type 0
Yield = Result (Option Yielded) YieldError

-- a frame of n words
abbrev pub yielded : ℕ → Cursor → Yield
yielded n d = Ok (Some (record { words = n; behind = d }))
