-- Document 01, "Numbers given back": an answer's number, and its value or amount; "Access": float bits stay, NaN payloads too.
use Rattle.std.specs.Prelude.{ℕ, Result, Ok, Err}
use Rattle.std.specs.Float.{binary32, binary64}
use Rattle.std.specs.Float.Ieee.{of_bits, to_bits, nan_bits}
use Rattle.std.specs.Int.{w32, w64}
use Rattle.std.proofs.Common.{of_z}
use Rattle.types.specs.{Pick.pick, declared.answer.Value.Value, declared.answer.Reason.Reason, declared.answer.Refusal.Refusal}

-- an answer is a value with its kind, or a refusal with its number and amount
abbrev pub Answer : Type 0
Answer = Result Value Refusal

-- the float of its bits, or the bits themselves where they are a NaN's
unfoldable pub float32 : ℕ → Value
float32 n = pick (nan_bits binary32 n) (Value.Nan32 n) (Value.F32 (of_bits binary32 n))

-- the same of 64 bits
unfoldable pub float64 : ℕ → Value
float64 n = pick (nan_bits binary64 n) (Value.Nan64 n) (Value.F64 (of_bits binary64 n))

-- the bits of a value: of a signed number its two's complement
unfoldable pub bits_of : Value → ℕ
bits_of (Value.I32 z) = of_z w32 z
bits_of (Value.I64 z) = of_z w64 z
bits_of (Value.F32 x) = to_bits binary32 x
bits_of (Value.F64 x) = to_bits binary64 x
bits_of (Value.Nan32 n) = n
bits_of (Value.Nan64 n) = n
bits_of (Value.Number n) = n

-- document 01's number of a reason to refuse
abbrev pub number_for : Reason → ℕ
number_for Reason.TypeInvalid = 1
number_for Reason.MinimumTooLarge = 2
number_for Reason.CreationDenied = 3
number_for Reason.LimiterFailed = 4
number_for Reason.RoomTooSmall = 5
number_for Reason.GrowthDenied = 6
number_for Reason.FuelShort = 7
number_for Reason.BeyondRoom = 8
number_for Reason.AccessOutside = 9
number_for Reason.SetOutside = 10
number_for Reason.FillOutside = 11
number_for Reason.CopyOutside = 12
number_for Reason.InitOutside = 13
number_for Reason.KindsDiffer = 14
number_for Reason.MeteringOff = 15
number_for Reason.NumberUnknown = 16
number_for Reason.NoPlace = 17
number_for Reason.Malformed = 18
number_for Reason.Unsound = 19

-- a refusal with its number and amount
abbrev pub refusal : ℕ → ℕ → Refusal
refusal number amount = record { number = number; amount = amount }

-- the answer of such a refusal
abbrev pub refuse : ℕ → ℕ → Answer
refuse number amount = Err (refusal number amount)

-- an accepted operation that answers a number
abbrev pub accept : ℕ → Answer
accept n = Ok (Value.Number n)

-- document 01's number
unfoldable pub number_of : Answer → ℕ
number_of (Ok v) = 0
number_of (Err r) = r.number

-- document 01's value or amount
unfoldable pub shown_of : Answer → ℕ
unfolding bits_of
shown_of (Ok v) = bits_of v
shown_of (Err r) = r.amount
