-- What the crates above name of this one, passed on by file; nothing is defined here.
use Rattle.machine.specs.declared
pub use Rattle.machine.specs.Machine.{capacity, no_limits, no_memory, no_table, memory_at, table_at, segment_at, memory_end, table_end, next_byte, next_cell}
pub use Rattle.machine.specs.Machine.{next_item, Buffers, buffers, fresh_machine}
pub use Rattle.machine.specs.Sound.{sound_list, sound_references, sound_over}
pub use Rattle.machine.specs.Operation.{script_of, item_fields, items_of, well_formed}
pub use Rattle.machine.specs.Outcome.{changed, standing, metered, one_memory_more, one_table_more, one_segment_more}
pub use Rattle.machine.specs.Step.{Stepped, stepped, step, run}
pub use Rattle.machine.specs.Frame.{OthersStay, OnlySizes}
pub use declared.{operation.FuelOp.FuelOp, operation.Items.Items, operation.MemoryOp.MemoryOp, operation.Operation.Operation}
pub use declared.{operation.TableOp.TableOp, records.Counts.Counts, records.Machine.Machine, outcome.Change.Change}
