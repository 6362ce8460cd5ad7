-- For the code alone: what is written to a row, and an operation on a row whose form and soundness its caller carries.
use Rattle.std.specs.Prelude.{ℕ, ◌+◌, ◌*◌, ◌≤◌, ◌<◌, ◌≡◌, Bool, true, List, [], ◌∷◌, leb, ltb, length, get_or}
use Rattle.types.specs.Numbers.{word8, word32}
use Rattle.types.specs.Limiter.{longest_script}
use Rattle.types.specs.Pick.{pick, unless, both}
use Rattle.types.specs.Span.{over}
use Rattle.types.specs.Raw.{raw_bytes}
use Rattle.types.specs.declared.fuel.Fuel.{Fuel}
use Rattle.types.specs.declared.limiter.Limiter.{Limiter}
use Rattle.machine.specs.Machine.{capacity, Buffers, next_byte, next_cell, next_item}
use Rattle.machine.specs.Sound.{sound_over}
use Rattle.machine.specs.Operation.{well_formed}
use Rattle.machine.specs.Step.{Performed, Stepped, perform, step}
use Rattle.machine.specs.Words.{record_length, segment_length, tables_at, segments_at, counts_at, fuel_at, row_length, memory_words, table_words, segment_words, standing_words, state_words, words_of, machine_from}
use Rattle.machine.specs.Row.{InRow, row_keeps, row_after}
use Rattle.machine.specs.declared.records.Machine.{Machine}
use Rattle.machine.specs.declared.outcome.Outcome.{Outcome}
use Rattle.machine.specs.declared.outcome.Change.{Change}
use Rattle.machine.specs.declared.outcome.Change.TheVariants as change
use Rattle.machine.specs.declared.operation.Writes.{Writes}
use Rattle.machine.specs.declared.operation.Writes.TheVariants as writes
use Rattle.machine.specs.declared.operation.FuelOp.{FuelOp}
use Rattle.machine.specs.declared.operation.FuelOp.TheVariants as fuel
use Rattle.machine.specs.declared.operation.MemoryOp.{MemoryOp}
use Rattle.machine.specs.declared.operation.MemoryOp.TheVariants as memory
use Rattle.machine.specs.declared.operation.TableOp.{TableOp}
use Rattle.machine.specs.declared.operation.TableOp.TheVariants as table
use Rattle.machine.specs.declared.operation.Operation.{Operation}
use Rattle.machine.specs.declared.operation.Operation.TheVariants as op

-- no count passes the places, and the next rooms start inside their buffers
pub record Inside (m : Machine) (bytes cells items : ℕ) : Type 0 where
  pub memories : m.counts.memories ≤ capacity
  pub tables : m.counts.tables ≤ capacity
  pub segments : m.counts.segments ≤ capacity
  pub byte : next_byte m ≤ bytes
  pub cell : next_cell m ≤ cells
  pub item : next_item m ≤ items

-- the same as a test
unfoldable pub ends_inside : Machine → ℕ → ℕ → ℕ → Bool
ends_inside m bytes cells items =
    both (both (leb m.counts.memories capacity) (leb (next_byte m) bytes))
    (both (both (leb m.counts.tables capacity) (leb (next_cell m) cells))
    (both (leb m.counts.segments capacity) (leb (next_item m) items)))

-- what every fuel and limiter that a program holds is: costs of 32 bits, a script of 16 places with answers of 8 bits
pub record Fits (f : Fuel) (p : Limiter) : Type 0 where
  pub script : length p.script ≡ longest_script
  pub copied : f.costs.copied < word32
  pub translated : f.costs.translated < word32
  pub validated : f.costs.validated < word32
  pub answers : (i : ℕ) → get_or p.script i 0 < word8

-- and every machine: 8 places of each kind
pub record Shaped (m : Machine) : Type 0 where
  pub memories : length m.memories ≡ capacity
  pub tables : length m.tables ≡ capacity
  pub segments : length m.segments ≡ capacity
  pub fits : Fits m.fuel m.limiter

-- the record at a place is another; past the eighth place there is none
unfoldable pub changed_row : List ℕ → Change → List ℕ
changed_row l change.Nothing = l
changed_row l (change.Memory i r) = pick (ltb i capacity) (over l (record_length * i) (memory_words r)) l
changed_row l (change.Table i r) = pick (ltb i capacity) (over l (tables_at + record_length * i) (table_words r)) l
changed_row l (change.Segment i r) = pick (ltb i capacity) (over l (segments_at + segment_length * i) (segment_words r)) l

-- what an operation may write besides the fuel left: a record by a creation, a growth or a drop, a script by 04
unfoldable pub fuel_writes : FuelOp → Writes
fuel_writes (fuel.SetFuel amount) = writes.Nothing
fuel_writes fuel.GetFuel = writes.Nothing
fuel_writes (fuel.Charge units) = writes.Nothing
fuel_writes (fuel.SetLimiter script) = writes.Script

-- of a memory, a growth alone
unfoldable pub memory_writes : MemoryOp → Writes
memory_writes (memory.Grow pages) = writes.Record
memory_writes memory.Size = writes.Nothing
memory_writes (memory.Load kind pointer offset) = writes.Nothing
memory_writes (memory.Store kind pointer offset bits) = writes.Nothing
memory_writes (memory.LinkCheck wanted) = writes.Nothing

-- of a table, a growth alone
unfoldable pub table_writes : TableOp → Writes
table_writes (table.Grow cells value) = writes.Record
table_writes table.Size = writes.Nothing
table_writes (table.Get index) = writes.Nothing
table_writes (table.Set index value) = writes.Nothing
table_writes (table.Fill start value len) = writes.Nothing

-- of any operation
unfoldable pub writes_of : Operation → Writes
writes_of (op.Fuel o) = fuel_writes o
writes_of (op.NewMemory room wanted) = writes.Record
writes_of (op.Memory number o) = memory_writes o
writes_of (op.NewTable room wanted initial) = writes.Record
writes_of (op.Table number o) = table_writes o
writes_of (op.TableCopy into source span) = writes.Nothing
writes_of (op.TableInit into segment span) = writes.Nothing
writes_of (op.DropSegment segment) = writes.Record
writes_of (op.NewSegment element items) = writes.Record

-- the row after an operation: the fuel left alone, or with a record or a script the numbers, all of fuel and the script's place too
unfoldable pub settled_row : List ℕ → Writes → Outcome → List ℕ
settled_row l writes.Nothing o = over l fuel_at (o.fuel.remaining ∷ [])
settled_row l writes.Record o = over (changed_row l o.change) counts_at (standing_words o.counts o.fuel o.limiter)
settled_row l writes.Script o = over l counts_at (state_words o.counts o.fuel o.limiter)

-- what settling a row leaves
pub record Settles (l : List ℕ) (w : Writes) (o : Outcome) (after : List ℕ) : Type 0 where
  pub row : after ≡ settled_row l w o
  pub fits : Fits o.fuel o.limiter

-- an operation's answer, row and buffers
abbrev pub row_settled : List ℕ → Operation → Performed → InRow
row_settled l o p = record { answer = p.out.answer; words = settled_row l (writes_of o) p.out; buffers = p.buffers }

-- what an operation leaves, of which only the counts and the next rooms' starts were tested
pub record Goes (l : List ℕ) (b : Buffers) (op : Operation) (x : InRow) : Type 0 where
  pub is : x ≡ row_settled l op (perform raw_bytes (machine_from l) b op)
  pub fits : Fits (perform raw_bytes (machine_from l) b op).out.fuel (perform raw_bytes (machine_from l) b op).out.limiter

-- a row holds the words of the machine that it says
abbrev pub Holds : List ℕ → Type 0
Holds l = l ≡ over l 0 (words_of (machine_from l))

-- an operation on a row of which only the length, the counts and the next rooms' starts are tested; on a sound row in form it is the step
unfoldable pub proceed_row : ℕ → List ℕ → Buffers → Operation → InRow
proceed_row r l b op =
    unless (well_formed op) (row_keeps l b 18)
    (unless (both (leb row_length (length l)) (ends_inside (machine_from l) (length b.bytes) (length b.cells) (length b.items))) (row_keeps l b 19)
    (row_settled l op (perform r (machine_from l) b op)))

-- what a step in place leaves, and that the row says the machine after it
pub record Steps (l : List ℕ) (x : InRow) (s : Stepped) : Type 0 where
  pub row : x ≡ row_after l s
  pub says : machine_from x.words ≡ s.machine

-- the same of an operation whose caller carries form and soundness
pub record Proceeds (l : List ℕ) (b : Buffers) (op : Operation) (x : InRow) : Type 0 where
  pub is : x ≡ proceed_row raw_bytes l b op
  pub steps : row_length ≤ length l → Holds l → sound_over (machine_from l) b ≡ true → Steps l x (step raw_bytes (machine_from l) b op)
