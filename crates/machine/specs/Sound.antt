-- Document 01, "The machine" and "Numbers given back" (19): when records and buffers are sound.
use Rattle.std.specs.Prelude.{ℕ, Bool, true, List, [], ◌∷◌, eqb, leb, length, take}
use Rattle.types.specs.Names.{word32, both}
use Rattle.memory.specs.Names.{sound_memory, Memory}
use Rattle.table.specs.Names.{sound_table, sound_segment, Table, ElementSegment}
use Rattle.machine.specs.{Machine.capacity, Machine.Buffers, Machine.memory_end, Machine.table_end, Machine.segment_end, declared.records.Machine.Machine}

-- records follow each other from a place on: each is sound, and starts where the one before it ends
unfoldable pub follow : {A : Type 0} → (A → Bool) → (A → ℕ) → (A → ℕ) → ℕ → List A → Bool
follow sound start end from [] = true
follow sound start end from (x ∷ xs) =
    both (eqb (start x) from) (both (sound x) (follow sound start end (end x) xs))

-- a list with all its places, of which the first n are in use
unfoldable pub sound_list : {A : Type 0} → (A → Bool) → (A → ℕ) → (A → ℕ) → ℕ → List A → Bool
sound_list sound start end n xs =
    both (leb capacity (length xs)) (both (leb n capacity) (follow sound start end 0 (take n xs)))

-- of memories over bytes
unfoldable pub sound_memories : Machine → ℕ → Bool
sound_memories m len =
    sound_list (λ (r : Memory). sound_memory r len) (λ (r : Memory). r.start) memory_end m.counts.memories m.memories

-- of tables over cells
unfoldable pub sound_tables : Machine → ℕ → Bool
sound_tables m len =
    sound_list (λ (r : Table). sound_table r len) (λ (r : Table). r.start) table_end m.counts.tables m.tables

-- of segments over items
unfoldable pub sound_segments : Machine → ℕ → Bool
sound_segments m len =
    sound_list (λ (r : ElementSegment). sound_segment r len) (λ (r : ElementSegment). r.start) segment_end m.counts.segments m.segments

-- buffers of references have at most 2^32 cells
unfoldable pub sound_references : ℕ → ℕ → Bool
sound_references cells items = both (leb cells word32) (leb items word32)

-- all of a machine, over buffers of these lengths
unfoldable pub sound_machine : Machine → ℕ → ℕ → ℕ → Bool
sound_machine m bytes cells items =
    both (sound_references cells items)
    (both (sound_memories m bytes) (both (sound_tables m cells) (sound_segments m items)))

-- a machine over what it is lent
abbrev pub sound_over : Machine → Buffers → Bool
sound_over m b = sound_machine m (length b.bytes) (length b.cells) (length b.items)
