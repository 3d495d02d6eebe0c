-- What is told of the input that was read. What stands in it is no value here: a read may put any bytes.
use Rattle.std.specs.Prelude.{◌≡◌, List, ℕ, ◌≤◌, length, Result, IfOk}
use Rattle.text_input.specs.declared.InputError.{InputError}

-- all of it are the first n bytes of the buffer
abbrev pub InsideInput : List ℕ → Result ℕ InputError → Type 0
InsideInput buf r = IfOk r (λ n. n ≤ length buf)

-- it has k bytes
abbrev pub Long : ℕ → Result ℕ InputError → Type 0
Long k r = IfOk r (λ n. n ≡ k)
