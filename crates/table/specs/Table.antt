-- Document 01, "The machine": a table's record, and when it is sound; WebAssembly Core Specification 3.0, Execution, Runtime structure, table instances, and table.get, table.set.
use Rattle.std.specs.Prelude.{ℕ, ◌+◌, Bool, List, leb, length, get_or, replicate}
use Rattle.types.specs.Names.{word32, pick, both, Done, done, inside, over, admits_of, table_bound, valid_table, element_matches, refuse, accept}
use Rattle.types.specs.Names.{Answer, TypedRawRef}
use Rattle.table.specs.declared.table.Table.{Table}

-- the same table with another size
abbrev pub resized : Table → ℕ → Table
resized t size = record { ty = t.ty; start = t.start; room = t.room; size = size }

-- places inside a buffer of references; one above 2^32 cells is unsound
unfoldable pub sound_buffer : ℕ → ℕ → ℕ → Bool
sound_buffer start places len = both (leb len word32) (inside start places len)

-- the size lies within the room, is at least the minimum, at most 2^N - 1 and the maximum
unfoldable pub sound_size : Table → Bool
sound_size t =
    both (leb t.size t.room)
    (both (leb t.ty.limits.minimum t.size)
    (both (leb t.size (table_bound t.ty)) (admits_of t.ty.limits t.size)))

-- a sound record: its type is valid, and its size lies within type and room
unfoldable pub sound_table : Table → ℕ → Bool
sound_table t len = both (sound_buffer t.start t.room len) (both (valid_table t.ty) (sound_size t))

-- table.get: 9 where the index is not below the size
unfoldable pub get_table : Table → List ℕ → ℕ → Answer
get_table t cs i =
    pick (sound_table t (length cs))
    (pick (leb t.size i) (refuse 9 0) (accept (get_or cs (t.start + i) 0)))
    (refuse 19 0)

-- 14, 10 where the index is not below the size
unfoldable pub set_sound : Table → List ℕ → ℕ → TypedRawRef → Done Answer
set_sound t cs i v =
    pick (element_matches t.ty v.ty)
    (pick (leb t.size i) (done (refuse 10 0) cs) (done (accept 0) (over cs (t.start + i) (replicate 1 v.raw.bits))))
    (done (refuse 14 0) cs)

-- table.set, or 19
unfoldable pub set_table : Table → List ℕ → ℕ → TypedRawRef → Done Answer
set_table t cs i v = pick (sound_table t (length cs)) (set_sound t cs i v) (done (refuse 19 0) cs)
