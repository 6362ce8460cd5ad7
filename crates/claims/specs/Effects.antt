-- Document 01, "First check wins", "Fuel" and "Operation lines": what an accepted operation answers, changes, takes and writes.
use Rattle.std.specs.Prelude.{ℕ, ◌+◌, ◌-◌, List, length, get_or, replicate}
use Rattle.types.specs.Names.{pick, cut, accept, left, paid, limiter_of, moved, match_memory, Answer, Fuel, Limiter}
use Rattle.memory.specs.Names.{loaded_of, le_bytes, width_bytes, store_width, resized as resized_memory, pages_of, memory_of, grown_size}
use Rattle.memory.specs.Names.{wanted as type_of, least_bytes as least_of, Memory}
use Rattle.table.specs.Names.{resized as resized_table, wanted as table_type_of, table_of, dropped, Table}
use Rattle.machine.specs.{Outcome.settled, Fueling.fueled, declared.outcome.Outcome.Outcome, declared.fueling.Fueled.Fueled}
use Rattle.machine.specs.Names.{Buffers, memory_at, table_at, segment_at, next_byte, next_cell, next_item, script_of, items_of}
use Rattle.machine.specs.Names.{one_memory_more, one_table_more, one_segment_more, Stepped, Machine, Counts, Change, Operation, FuelOp, MemoryOp, TableOp}
use Rattle.claims.specs.{Metered.metering, Metered.price_of, Occasions.question}
use Rattle.claims.specs.Spans.{Span, Nowhere, InBytes, InCells, InItems, put}

-- what an accepted operation on one memory or table answers, the size after it, and the span that it writes
pub record OnOne : Type 0 where
  pub answer : Answer
  pub size : ℕ
  pub span : Span

-- from its three parts
abbrev pub on_one : Answer → ℕ → Span → OnOne
on_one a n s = record { answer = a; size = n; span = s }

-- on a memory: a growth and 12 answer the pages before; a growth writes zeros, a store its bytes
unfoldable pub memory_effect : Memory → List ℕ → MemoryOp → OnOne
memory_effect x bytes (MemoryOp.Grow pages) =
    on_one (accept (pages_of x)) (grown_size x pages) (InBytes (x.start + x.size) (replicate (grown_size x pages - x.size) 0))
memory_effect x bytes MemoryOp.Size = on_one (accept (pages_of x)) x.size Nowhere
memory_effect x bytes (MemoryOp.Load kind pointer offset) = on_one (loaded_of kind bytes (x.start + (pointer + offset))) x.size Nowhere
memory_effect x bytes (MemoryOp.Store kind pointer offset bits) =
    on_one (accept 0) x.size (InBytes (x.start + (pointer + offset)) (le_bytes (width_bytes (store_width kind)) bits))
memory_effect x bytes (MemoryOp.LinkCheck wanted) = on_one (accept (pick (match_memory x.ty (type_of wanted)) 1 0)) x.size Nowhere

-- on a table: a growth and 22 answer the size before; a growth writes its cells, 24 one cell, a fill its span
unfoldable pub table_effect : Table → List ℕ → TableOp → OnOne
table_effect x cells (TableOp.Grow n value) = on_one (accept x.size) (x.size + n) (InCells (x.start + x.size) (replicate n value.raw.bits))
table_effect x cells TableOp.Size = on_one (accept x.size) x.size Nowhere
table_effect x cells (TableOp.Get index) = on_one (accept (get_or cells (x.start + index) 0)) x.size Nowhere
table_effect x cells (TableOp.Set index value) = on_one (accept 0) x.size (InCells (x.start + index) (replicate 1 value.raw.bits))
table_effect x cells (TableOp.Fill start value len) = on_one (accept 0) x.size (InCells (x.start + start) (replicate len value.raw.bits))

-- on fuel and limiter: 01 sets the fuel, 03 takes from it, 02 and 03 answer what is left, 04 hands over its script
unfoldable pub fuel_effect : Fuel → Limiter → FuelOp → Fueled
fuel_effect f l (FuelOp.SetFuel amount) = fueled (accept 0) (left f amount) l
fuel_effect f l FuelOp.GetFuel = fueled (accept f.remaining) f l
fuel_effect f l (FuelOp.Charge units) = fueled (accept (f.remaining - units)) (left f (f.remaining - units)) l
fuel_effect f l (FuelOp.SetLimiter script) = fueled (accept 0) f (limiter_of (script_of script))

-- what any accepted operation gives back (its answer, the record that it makes or names, the numbers in use, fuel and limiter), and the span that it writes
pub record Effect : Type 0 where
  pub out : Outcome
  pub span : Span

-- from all its parts
abbrev pub effect : Answer → Change → Counts → Fuel → Limiter → Span → Effect
effect a c k f l s = record { out = record { answer = a; change = c; counts = k; fuel = f; limiter = l }; span = s }

-- with the fuel after the fuel step and the limiter after its question: a creation takes the next number and answers it; of a record in use only the
-- size may be another; a copy and an init write what their source held before
unfoldable pub effect_of : Machine → Buffers → Fuel → Limiter → Operation → Effect
effect_of m b f l (Operation.Fuel o) =
    let d = fuel_effect f l o in
    effect d.answer Change.Nothing m.counts d.fuel d.limiter Nowhere
effect_of m b f l (Operation.NewMemory room wanted) =
    effect (accept m.counts.memories) (Change.Memory m.counts.memories (memory_of (type_of wanted) (next_byte m) room (least_of wanted)))
    (one_memory_more m.counts) f l (InBytes (next_byte m) (replicate (least_of wanted) 0))
effect_of m b f l (Operation.Memory number o) =
    let x = memory_at m number in
    let d = memory_effect x b.bytes o in
    effect d.answer (Change.Memory number (resized_memory x d.size)) m.counts f l d.span
effect_of m b f l (Operation.NewTable room wanted initial) =
    effect (accept m.counts.tables) (Change.Table m.counts.tables (table_of (table_type_of wanted) (next_cell m) room wanted.limits.minimum))
    (one_table_more m.counts) f l (InCells (next_cell m) (replicate wanted.limits.minimum initial.raw.bits))
effect_of m b f l (Operation.Table number o) =
    let x = table_at m number in
    let d = table_effect x b.cells o in
    effect d.answer (Change.Table number (resized_table x d.size)) m.counts f l d.span
effect_of m b f l (Operation.TableCopy into source span) =
    effect (accept 0) Change.Nothing m.counts f l
    (InCells ((table_at m into).start + span.to) (cut b.cells ((table_at m source).start + span.from) span.len))
effect_of m b f l (Operation.TableInit table segment span) =
    effect (accept 0) Change.Nothing m.counts f l
    (InCells ((table_at m table).start + span.to) (cut b.items ((segment_at m segment).start + span.from) span.len))
effect_of m b f l (Operation.DropSegment segment) = effect (accept 0) (Change.Segment segment (dropped (segment_at m segment))) m.counts f l Nowhere
effect_of m b f l (Operation.NewSegment element items) =
    let n = length (items_of items) in
    effect (accept m.counts.segments) (Change.Segment m.counts.segments (record { ty = element; start = next_item m; places = n; size = n }))
    (one_segment_more m.counts) f l (InItems (next_item m) (items_of items))

-- the fuel after the fuel step, where an operation meets it
abbrev pub spent : ℕ → Machine → Operation → Fuel
spent r m op = pick (metering r m op).meets (paid m.fuel (price_of r m op)) m.fuel

-- the limiter after its question, where the operation comes to it
abbrev pub asked : ℕ → Machine → Buffers → Operation → Limiter
asked r m b op = pick (question r m b op) (moved m.limiter) m.limiter

-- what an operation does where a machine accepts it
abbrev pub effects : ℕ → Machine → Buffers → Operation → Effect
effects r m b op = effect_of m b (spent r m op) (asked r m b op) op

-- an accepted operation, whole
unfoldable pub accepted_step : ℕ → Machine → Buffers → Operation → Stepped
unfolding settled
accepted_step r m b op =
    let e = effects r m b op in
    record { answer = e.out.answer; machine = settled m e.out; buffers = put b e.span }
