-- Document 01, "Access", "Fuel" and "Operation lines": how many values a byte and numbers of 32 and 64 bits have.
use Rattle.std.specs.Prelude.{ℕ, ◌-◌, ◌^◌}

-- every byte is below this
abbrev pub word8 : ℕ
word8 = 256

-- every number of 32 bits is
abbrev pub word32 : ℕ
word32 = 2 ^ 32

-- every number of 64 bits is
abbrev pub word64 : ℕ
word64 = 2 ^ 64

-- the largest number of 64 bits
abbrev pub max_word : ℕ
max_word = word64 - 1
