-- Document 01, "The machine": memories stand in a lent list of records. The record of one is read and grown, and its size stored.
use Rattle.std.specs.Prelude.{ℕ, Bool, List, ◌≡◌, ltb, length, get_or, set}
use Rattle.types.specs.Names.{Done, Answer, Fuel, Limiter}
use Rattle.memory.specs.Names.{sound_memory, grow_memory, Memory, GrownMemory}
use Rattle.machine.specs.Names.{no_memory, memory_end, sound_list}
use Rattle.lent.specs.Growth.{Lending, lending, Grew, grew, grow_at}

-- 8 places at least, and the first n records are sound memories whose rooms follow each other
unfoldable pub sound_memory_list : ℕ → Lending Memory → Bool
sound_memory_list n l =
    sound_list (λ (r : Memory). sound_memory r (length l.cells)) (λ (r : Memory). r.start) memory_end n l.records

-- the record at a place
abbrev pub record_of : Lending Memory → ℕ → Memory
record_of l i = get_or l.records i no_memory

-- a growth, its record put back in its place
abbrev pub memory_grown : ℕ → Lending Memory → Done GrownMemory → Grew Memory
memory_grown i l g =
    grew g.out.answer (lending (set l.records i g.out.memory) g.cells g.out.fuel g.out.limiter)

-- growth of memory i, of n in use, by so many pages
unfoldable pub grow_memory_at : ℕ → ℕ → ℕ → Lending Memory → Grew Memory
grow_memory_at n i pages l =
    grow_at (sound_memory_list n l) (ltb i n) l
    (memory_grown i l (grow_memory (record_of l i) l.cells pages l.fuel l.limiter))

-- all that a growth promises: its answer, and the records, bytes, fuel and limiter after it, are the growth's
abbrev pub GrowsMemory : ℕ → ℕ → ℕ → Lending Memory → Answer → List Memory → List ℕ → Fuel → Limiter → Type 0
GrowsMemory n i pages l a records bytes fuel limiter = grew a (lending records bytes fuel limiter) ≡ grow_memory_at n i pages l
