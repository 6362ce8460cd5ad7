-- Document 01, "The machine": a memory's record, its size, and when it is sound; WebAssembly Core Specification 3.0, Execution, Runtime structure, memory instances.
use Rattle.std.specs.Prelude.{ℕ, ◌+◌, ◌/◌, ◌%◌, Bool, List, eqb, leb, length}
use Rattle.types.specs.Names.{pick, both, Done, done, admits_of, page_bytes, page_bound, valid_memory, dynamic_memory, refuse, Answer, MemoryType}
use Rattle.memory.specs.Access.{load_at, store_at}
use Rattle.memory.specs.declared.{access.LoadKind.LoadKind, access.StoreKind.StoreKind, memory.Memory.Memory}

-- the size in pages
unfoldable pub pages_of : Memory → ℕ
pages_of m = m.size / page_bytes m.ty.page

-- the type now: the declared one with the present size as its minimum
unfoldable pub dynamic_of : Memory → MemoryType
dynamic_of m = dynamic_memory m.ty (pages_of m)

-- the same memory with another size
abbrev pub resized : Memory → ℕ → Memory
resized m size = record { ty = m.ty; start = m.start; room = m.room; size = size }

-- the room lies inside the buffer, and the size within the room
unfoldable pub sound_room : Memory → ℕ → Bool
sound_room m len = both (leb (m.start + m.room) len) (leb m.size m.room)

-- the size is of whole pages, at least the minimum, at most the page bound and the maximum
unfoldable pub sound_size : Memory → Bool
sound_size m =
    both (eqb (m.size % page_bytes m.ty.page) 0)
    (both (leb m.ty.limits.minimum (pages_of m))
    (both (leb (pages_of m) (page_bound m.ty)) (admits_of m.ty.limits (pages_of m))))

-- a sound record: its type is valid, and its size lies within type and room
unfoldable pub sound_memory : Memory → ℕ → Bool
sound_memory m len = both (sound_room m len) (both (valid_memory m.ty) (sound_size m))

-- a load from a memory, or 19
unfoldable pub load_memory : LoadKind → Memory → List ℕ → ℕ → ℕ → Answer
load_memory k m bs ptr offset =
    pick (sound_memory m (length bs)) (load_at k bs m.start m.size ptr offset) (refuse 19 0)

-- a store to a memory, or 19
unfoldable pub store_memory : StoreKind → Memory → List ℕ → ℕ → ℕ → ℕ → Done Answer
store_memory k m bs ptr offset v =
    pick (sound_memory m (length bs)) (store_at k bs m.start m.size ptr offset v) (done (refuse 19 0) bs)
