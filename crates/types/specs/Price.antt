-- Document 01, "Fuel": the price of a byte length.
use Rattle.std.specs.Prelude.{ℕ, ◌/◌, min, eqb}
use Rattle.types.specs.{Numbers.max_word, Pick.pick}

-- at most 2^64-1
unfoldable pub capped : ℕ → ℕ
capped n = min n max_word

-- the byte length, capped at 2^64-1, divided by B, rounded down; with B = 0 it is 2^64-1 at every length
unfoldable pub price : ℕ → ℕ → ℕ
price b len = pick (eqb b 0) max_word (capped len / b)
