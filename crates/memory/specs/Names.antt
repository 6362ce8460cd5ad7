-- What the crates above name of this one, passed on by file; nothing is defined here.
use Rattle.memory.specs.declared
pub use Rattle.memory.specs.LittleEndian.{le_bytes}
pub use Rattle.memory.specs.Access.{width_bytes, load_width, loaded_of, store_width}
pub use Rattle.memory.specs.Memory.{pages_of, dynamic_of, resized, sound_memory, load_memory, store_memory}
pub use Rattle.memory.specs.New.{memory_of, wanted, least_bytes, new_memory}
pub use Rattle.memory.specs.Grow.{may_have, grown_size, grow_memory}
pub use declared.{memory.Memory.Memory, grow.GrownMemory.GrownMemory, new.CreatedMemory.CreatedMemory}
pub use declared.{access.LoadKind.LoadKind, access.StoreKind.StoreKind}
