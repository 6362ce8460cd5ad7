-- Document 01, "The machine": an operation changes cells and size of one instance at most (in a table copy, the destination).
use Rattle.std.specs.Prelude.{ℕ, ◌<◌, ◌≡◌, ◌⊎◌}
use Rattle.types.specs.Names.{cut}
use Rattle.memory.specs.Names.{resized as resized_memory}
use Rattle.table.specs.Names.{resized as resized_table, dropped}
use Rattle.machine.specs.{Machine.Buffers, Machine.memory_at, Machine.table_at, Machine.segment_at, Step.Stepped}
use Rattle.machine.specs.declared.{records.Machine.Machine, operation.Operation.Operation}

-- the instance that an operation may change: the one it names or makes
pub data Target : Type 0 where
  None : Target
  InMemory : ℕ → Target
  InTable : ℕ → Target
  InSegment : ℕ → Target
  NewItems : Target

-- an operation by number the one it names, a creation the next one, a copy its destination
unfoldable pub target_of : Machine → Operation → Target
target_of m (Operation.Fuel o) = None
target_of m (Operation.NewMemory room wanted) = InMemory m.counts.memories
target_of m (Operation.Memory number o) = InMemory number
target_of m (Operation.NewTable room wanted initial) = InTable m.counts.tables
target_of m (Operation.Table number o) = InTable number
target_of m (Operation.TableCopy into source span) = InTable into
target_of m (Operation.TableInit table segment span) = InTable table
target_of m (Operation.DropSegment segment) = InSegment segment
target_of m (Operation.NewSegment element items) = NewItems

-- every instance but the target has its record and the cells of its room as before; items change only where a segment is made
pub record OthersStay (m : Machine) (b : Buffers) (op : Operation) (s : Stepped) : Type 0 where
  pub memory : (i : ℕ) → i < m.counts.memories → (target_of m op ≡ InMemory i → ⊥) → memory_at s.machine i ≡ memory_at m i
  pub bytes : (i : ℕ) → i < m.counts.memories → (target_of m op ≡ InMemory i → ⊥)
      → cut s.buffers.bytes (memory_at m i).start (memory_at m i).room ≡ cut b.bytes (memory_at m i).start (memory_at m i).room
  pub table : (i : ℕ) → i < m.counts.tables → (target_of m op ≡ InTable i → ⊥) → table_at s.machine i ≡ table_at m i
  pub cells : (i : ℕ) → i < m.counts.tables → (target_of m op ≡ InTable i → ⊥)
      → cut s.buffers.cells (table_at m i).start (table_at m i).room ≡ cut b.cells (table_at m i).start (table_at m i).room
  pub segment : (i : ℕ) → i < m.counts.segments → (target_of m op ≡ InSegment i → ⊥) → segment_at s.machine i ≡ segment_at m i
  pub items : (i : ℕ) → i < m.counts.segments
      → cut s.buffers.items (segment_at m i).start (segment_at m i).places ≡ cut b.items (segment_at m i).start (segment_at m i).places
  pub kept : (target_of m op ≡ NewItems → ⊥) → s.buffers.items ≡ b.items

-- no operation changes more of a record in use than its size: type, kind, place, room and places stay
pub record OnlySizes (m : Machine) (s : Stepped) : Type 0 where
  pub memory : (i : ℕ) → i < m.counts.memories → memory_at s.machine i ≡ resized_memory (memory_at m i) (memory_at s.machine i).size
  pub table : (i : ℕ) → i < m.counts.tables → table_at s.machine i ≡ resized_table (table_at m i) (table_at s.machine i).size
  pub segment : (i : ℕ) → i < m.counts.segments → (segment_at s.machine i ≡ segment_at m i) ⊎ (segment_at s.machine i ≡ dropped (segment_at m i))
