-- For the code and its proofs alone: a line's numbers field by field, and an operation as a line's numbers.
use Rattle.std.specs.Prelude.{ℕ, ◌+◌, Bool, List, [], ◌∷◌, length, replicate, Option, Some, None}
use Rattle.types.specs.Names.{over}
use Rattle.machine.specs.Names.{Operation}
use Rattle.lines.specs.Fields.{flag}
use Rattle.lines.specs.{Writing.numbers_of, declared.line.Line.Line}

-- n fields are in the list, and more go behind them
unfoldable pub with_fields : ℕ → ℕ → List ℕ → List ℕ → Line
with_fields code n list l = record { code = code; count = n + length l; list = over list n l }

-- likewise the rest of a line, where it is fields
unfoldable pub filled : ℕ → ℕ → List ℕ → Option (List ℕ) → Option Line
filled code n list None = None
filled code n list (Some l) = Some (with_fields code n list l)

-- an operation as a line's numbers
unfoldable pub back_of : Operation → Line
back_of op = with_fields (numbers_of op).code 0 (replicate 8 0) (numbers_of op).fields

-- the making of a machine as a line's numbers
unfoldable pub making_back : Bool → ℕ → Line
making_back metering copied = with_fields 0x00 0 (replicate 8 0) (flag metering ∷ copied ∷ [])
