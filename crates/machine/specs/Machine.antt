-- Document 01, "The machine": its records by number, and where the next room starts.
use Rattle.std.specs.Prelude.{ℕ, ◌+◌, ◌-◌, Bool, false, List, eqb, get_or, replicate}
use Rattle.types.specs.Names.{pick, new_fuel, no_limiter, FuelCosts, IndexType, PageSize, RefType, Limits}
use Rattle.memory.specs.Names.{Memory}
use Rattle.table.specs.Names.{Table, ElementSegment}
use Rattle.machine.specs.declared.records.Machine.{Machine}

-- a machine has places for so many memories, tables and segments
abbrev pub capacity : ℕ
capacity = 8

-- what stands where no instance does: a type without limits
abbrev pub no_limits : Limits
no_limits = record { minimum = 0; bounded = false; maximum = 0 }

-- no memory
abbrev pub no_memory : Memory
no_memory =
    record { ty = record { index = IndexType.I32; page = PageSize.One; limits = no_limits }; start = 0; room = 0; size = 0 }

-- no table
abbrev pub no_table : Table
no_table =
    record { ty = record { element = RefType.Func; index = IndexType.I32; limits = no_limits }; start = 0; room = 0; size = 0 }

-- no segment
abbrev pub no_segment : ElementSegment
no_segment = record { ty = RefType.Func; start = 0; places = 0; size = 0 }

-- a memory by its number: instances are numbered from 0 in order of creation
abbrev pub memory_at : Machine → ℕ → Memory
memory_at m i = get_or m.memories i no_memory

-- a table by its number
abbrev pub table_at : Machine → ℕ → Table
table_at m i = get_or m.tables i no_table

-- a segment by its number
abbrev pub segment_at : Machine → ℕ → ElementSegment
segment_at m i = get_or m.segments i no_segment

-- where a memory's room ends
abbrev pub memory_end : Memory → ℕ
memory_end r = r.start + r.room

-- where a table's room ends
abbrev pub table_end : Table → ℕ
table_end r = r.start + r.room

-- where a segment's places end
abbrev pub segment_end : ElementSegment → ℕ
segment_end r = r.start + r.places

-- where the next memory's room starts: directly after the previous one
unfoldable pub next_byte : Machine → ℕ
next_byte m = pick (eqb m.counts.memories 0) 0 (memory_end (memory_at m (m.counts.memories - 1)))

-- the next table's room
unfoldable pub next_cell : Machine → ℕ
next_cell m = pick (eqb m.counts.tables 0) 0 (table_end (table_at m (m.counts.tables - 1)))

-- the next segment's places
unfoldable pub next_item : Machine → ℕ
next_item m = pick (eqb m.counts.segments 0) 0 (segment_end (segment_at m (m.counts.segments - 1)))

-- the contents of what is lent: bytes of memories, cells of tables, items of segments
pub record Buffers : Type 0 where
  pub bytes : List ℕ
  pub cells : List ℕ
  pub items : List ℕ

-- the three of them
abbrev pub buffers : List ℕ → List ℕ → List ℕ → Buffers
buffers bytes cells items = record { bytes = bytes; cells = cells; items = items }

-- making a machine: fuel 0, no limiter, no instances
unfoldable pub fresh_machine : Bool → FuelCosts → Machine
fresh_machine metering costs =
    record {
      memories = replicate capacity no_memory;
      tables = replicate capacity no_table;
      segments = replicate capacity no_segment;
      counts = record { memories = 0; tables = 0; segments = 0 };
      fuel = new_fuel metering costs;
      limiter = no_limiter;
    }
