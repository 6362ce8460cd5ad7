-- Document 01, "First check wins" and "Operation lines": one operation on a machine. 18, 19, then 16 or 17, then the operation's own checks.
-- R, the bytes that a reference counts, is the first argument throughout.
use Rattle.std.specs.Prelude.{ℕ, List, [], ◌∷◌}
use Rattle.types.specs.Names.{unless, Done, refuse, Answer}
use Rattle.machine.specs.{Machine.Buffers, Machine.buffers, Sound.sound_over, Operation.well_formed, Operation.items_of, Outcome.keeps}
use Rattle.machine.specs.{Outcome.settled, Fueling.on_fuel, Memories.new_memory_on, Memories.on_memory, Tables.new_table_on, Tables.on_table}
use Rattle.machine.specs.{Tables.copy_on, Segments.init_on, Segments.drop_on, Segments.new_segment_on}
use Rattle.machine.specs.declared.{records.Machine.Machine, outcome.Outcome.Outcome, operation.Operation.Operation}

-- an operation's outcome, and all buffers after it
pub record Performed : Type 0 where
  pub out : Outcome
  pub buffers : Buffers

-- an outcome with each buffer
abbrev pub performed : Outcome → List ℕ → List ℕ → List ℕ → Performed
performed o bytes cells items = record { out = o; buffers = buffers bytes cells items }

-- no buffer changes
abbrev pub on_none : Outcome → Buffers → Performed
on_none o b = record { out = o; buffers = b }

-- the bytes change alone
abbrev pub on_bytes : Done Outcome → Buffers → Performed
on_bytes d b = performed d.out d.cells b.cells b.items

-- the cells change alone
abbrev pub on_cells : Done Outcome → Buffers → Performed
on_cells d b = performed d.out b.bytes d.cells b.items

-- the items change alone
abbrev pub on_items : Done Outcome → Buffers → Performed
on_items d b = performed d.out b.bytes b.cells d.cells

-- 16 or 17, then the operation's own checks
unfoldable pub perform : ℕ → Machine → Buffers → Operation → Performed
perform r m b (Operation.Fuel o) = on_none (on_fuel m o) b
perform r m b (Operation.NewMemory room wanted) = on_bytes (new_memory_on m b.bytes room wanted) b
perform r m b (Operation.Memory number o) = on_bytes (on_memory m b.bytes number o) b
perform r m b (Operation.NewTable room wanted initial) = on_cells (new_table_on m b.cells room wanted initial) b
perform r m b (Operation.Table number o) = on_cells (on_table r m b.cells number o) b
perform r m b (Operation.TableCopy into source span) = on_cells (copy_on r m b.cells into source span) b
perform r m b (Operation.TableInit table segment span) = on_cells (init_on r m b.cells b.items table segment span) b
perform r m b (Operation.DropSegment segment) = on_none (drop_on m segment) b
perform r m b (Operation.NewSegment element items) = on_items (new_segment_on m b.items element (items_of items)) b

-- 18, 19, then the rest
unfoldable pub decide : ℕ → Machine → Buffers → Operation → Performed
decide r m b op =
    unless (well_formed op) (on_none (keeps m (refuse 18 0)) b)
    (unless (sound_over m b) (on_none (keeps m (refuse 19 0)) b)
    (perform r m b op))

-- an operation's answer, and machine and buffers after it
pub record Stepped : Type 0 where
  pub answer : Answer
  pub machine : Machine
  pub buffers : Buffers

-- an answer, a machine and each buffer
abbrev pub stepped : Answer → Machine → List ℕ → List ℕ → List ℕ → Stepped
stepped a m bytes cells items = record { answer = a; machine = m; buffers = buffers bytes cells items }

-- the machine after an outcome is the settled one
abbrev pub after : Machine → Performed → Stepped
after m p = record { answer = p.out.answer; machine = settled m p.out; buffers = p.buffers }

-- one operation
unfoldable pub step : ℕ → Machine → Buffers → Operation → Stepped
step r m b op = after m (decide r m b op)

-- any operations one after another: all answers, and machine and buffers after the last
pub record Ran : Type 0 where
  pub answers : List Answer
  pub machine : Machine
  pub buffers : Buffers

-- from the first operation to the last
unfoldable pub run : ℕ → Machine → Buffers → List Operation → Ran
run r m b [] = record { answers = []; machine = m; buffers = b }
run r m b (op ∷ ops) =
    let s = step r m b op in
    let rest = run r s.machine s.buffers ops in
    record { answers = s.answer ∷ rest.answers; machine = rest.machine; buffers = rest.buffers }
