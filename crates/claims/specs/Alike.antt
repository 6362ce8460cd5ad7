-- Document 01, "The machine": answers, later ones too, depend on the instances named, and on others only through fuel, script, room, numbers and segments.
use Rattle.std.specs.Prelude.{ℕ, ◌-◌, ◌<◌, ◌≡◌, Bool, true, List, [], ◌∷◌, length}
use Rattle.types.specs.Names.{both, cut}
use Rattle.machine.specs.Names.{Buffers, memory_at, table_at, next_byte, next_cell, Stepped, Machine, Operation}
use Rattle.machine.specs.Step.{Ran}

-- a memory of two machines: its type, room, size and bytes, wherever it stands
pub record SameMemory (m : Machine) (b : Buffers) (m' : Machine) (b' : Buffers) (i : ℕ) : Type 0 where
  pub ty : (memory_at m i).ty ≡ (memory_at m' i).ty
  pub room : (memory_at m i).room ≡ (memory_at m' i).room
  pub size : (memory_at m i).size ≡ (memory_at m' i).size
  pub bytes : cut b.bytes (memory_at m i).start (memory_at m i).size ≡ cut b'.bytes (memory_at m' i).start (memory_at m' i).size

-- a table of two machines
pub record SameTable (m : Machine) (b : Buffers) (m' : Machine) (b' : Buffers) (i : ℕ) : Type 0 where
  pub ty : (table_at m i).ty ≡ (table_at m' i).ty
  pub room : (table_at m i).room ≡ (table_at m' i).room
  pub size : (table_at m i).size ≡ (table_at m' i).size
  pub cells : cut b.cells (table_at m i).start (table_at m i).size ≡ cut b'.cells (table_at m' i).start (table_at m' i).size

-- fuel, script, numbers, room left, segments
pub record SameRest (m : Machine) (b : Buffers) (m' : Machine) (b' : Buffers) : Type 0 where
  pub fuel : m.fuel ≡ m'.fuel
  pub limiter : m.limiter ≡ m'.limiter
  pub counts : m.counts ≡ m'.counts
  pub bytes : length b.bytes - next_byte m ≡ length b'.bytes - next_byte m'
  pub cells : length b.cells - next_cell m ≡ length b'.cells - next_cell m'
  pub segments : m.segments ≡ m'.segments
  pub items : b.items ≡ b'.items

-- memories and tables chosen by their numbers
pub record Watched : Type 0 where
  pub memory : ℕ → Bool
  pub table : ℕ → Bool

-- an operation names watched instances only: of a copy both tables; what is made is not named
unfoldable pub names_only : Watched → Operation → Bool
names_only w (Operation.Fuel o) = true
names_only w (Operation.NewMemory room wanted) = true
names_only w (Operation.Memory number o) = w.memory number
names_only w (Operation.NewTable room wanted initial) = true
names_only w (Operation.Table number o) = w.table number
names_only w (Operation.TableCopy into source span) = both (w.table into) (w.table source)
names_only w (Operation.TableInit table segment span) = w.table table
names_only w (Operation.DropSegment segment) = true
names_only w (Operation.NewSegment element items) = true

-- each operation of a list does
unfoldable pub all_name_only : Watched → List Operation → Bool
all_name_only w [] = true
all_name_only w (op ∷ ops) = both (names_only w op) (all_name_only w ops)

-- two machines that agree: on fuel, script, numbers, room left, segments, and on every watched instance in use
pub record Agree (w : Watched) (m : Machine) (b : Buffers) (m' : Machine) (b' : Buffers) : Type 0 where
  pub rest : SameRest m b m' b'
  pub memory : (i : ℕ) → w.memory i ≡ true → i < m.counts.memories → SameMemory m b m' b' i
  pub table : (i : ℕ) → w.table i ≡ true → i < m.counts.tables → SameTable m b m' b' i

-- two steps that a host of the watched instances cannot tell apart: the same answer, and machines that agree
pub record SameStep (w : Watched) (s s' : Stepped) : Type 0 where
  pub answer : s.answer ≡ s'.answer
  pub machines : Agree w s.machine s.buffers s'.machine s'.buffers

-- two runs: every answer the same, and machines that agree
pub record SameRun (w : Watched) (s s' : Ran) : Type 0 where
  pub answers : s.answers ≡ s'.answers
  pub machines : Agree w s.machine s.buffers s'.machine s'.buffers
