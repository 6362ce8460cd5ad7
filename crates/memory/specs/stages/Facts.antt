-- What the inner functions of this crate ask of each other, as records of plain facts; no public function asks any.
use Rattle.std.specs.Prelude.{ℕ, ◌+◌, ◌*◌, ◌^◌, ◌≤◌, ◌<◌, ◌≡◌, List}
use Rattle.types.specs.Span.{cut}
use Rattle.memory.specs.LittleEndian.{le_value}
use Rattle.memory.specs.declared.memory.Memory.{Memory}

-- an access of n bytes, at most 8
pub record Reach (at n len : ℕ) : Type 0 where
  pub inside : at + n ≤ len
  pub few : n ≤ 8

-- what a read of n bytes answers
pub record Read (bs : List ℕ) (at n r : ℕ) : Type 0 where
  pub value : r ≡ le_value (cut bs at n)
  pub small : r < 2 ^ (8 * n)

-- a size no less than before that lies in the room, and the room in the buffer
pub record Roomy (m : Memory) (size len : ℕ) : Type 0 where
  pub more : m.size ≤ size
  pub room : m.start + size ≤ len

-- a size no less than before, of a memory whose room lies in the buffer
pub record Held (m : Memory) (size len : ℕ) : Type 0 where
  pub more : m.size ≤ size
  pub inside : m.start + m.room ≤ len
