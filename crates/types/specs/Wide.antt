-- Document 01, "What must change shape": bounds that do not fit 64 bits are two 64-bit halves.
use Rattle.std.specs.Prelude.{ℕ, ◌+◌, ◌*◌, ◌/◌, ◌%◌}
use Rattle.types.specs.{Numbers.word64, declared.wide.Wide.Wide}

-- the number that two halves stand for
unfoldable pub whole : Wide → ℕ
whole w = w.high * word64 + w.low

-- the two halves of a number
unfoldable pub halves : ℕ → Wide
halves n = record { high = n / word64; low = n % word64 }
