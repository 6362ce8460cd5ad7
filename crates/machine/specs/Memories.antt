-- Document 01, operations 10 to 14 and 30: memories. 16 is tested once, then an operation is one on the memory's own record.
use Rattle.std.specs.Prelude.{ℕ, ◌-◌, List, leb, ltb, length, Ok, Err, Result}
use Rattle.types.specs.Names.{pick, unless, both, Done, done, accept, build_memory, match_memory}
use Rattle.types.specs.Names.{Answer, Fuel, Limiter, MemoryType, WantedMemory}
use Rattle.memory.specs.Names.{pages_of, load_memory, store_memory, new_memory, grow_memory, Memory, GrownMemory, CreatedMemory}
use Rattle.machine.specs.{Machine.capacity, Machine.memory_at, Machine.next_byte, Outcome.made, Outcome.refused, Outcome.one_memory_more}
use Rattle.machine.specs.declared.{records.Machine.Machine, records.Counts.Counts, outcome.Outcome.Outcome, outcome.Change.Change, operation.MemoryOp.MemoryOp}
use Rattle.types.specs.declared.answer.Refusal.{Refusal}

-- an answer that leaves a memory's record, fuel and limiter
abbrev pub memory_kept : Memory → Fuel → Limiter → Answer → GrownMemory
memory_kept m f l a = record { answer = a; memory = m; fuel = f; limiter = l }

-- 30: the wanted type is built (1), then 1 exactly when the given type is its subtype, else 0
unfoldable pub linked : MemoryType → Result MemoryType Refusal → Answer
linked t (Err r) = Err r
linked t (Ok wanted) = accept (pick (match_memory t wanted) 1 0)

-- 30, against a memory's declared type
unfoldable pub link_to : Memory → WantedMemory → Answer
link_to m w = linked m.ty (build_memory w.wide w.limits w.exponent)

-- what a store leaves
abbrev pub memory_stored : Memory → Fuel → Limiter → Done Answer → Done GrownMemory
memory_stored m f l s = done (memory_kept m f l s.out) s.cells

-- 11 to 14 and 30, on one memory's record
unfoldable pub perform_memory : Memory → List ℕ → Fuel → Limiter → MemoryOp → Done GrownMemory
perform_memory m bs f l (MemoryOp.Grow pages) = grow_memory m bs pages f l
perform_memory m bs f l MemoryOp.Size = done (memory_kept m f l (accept (pages_of m))) bs
perform_memory m bs f l (MemoryOp.Load kind pointer offset) = done (memory_kept m f l (load_memory kind m bs pointer offset)) bs
perform_memory m bs f l (MemoryOp.Store kind pointer offset bits) = memory_stored m f l (store_memory kind m bs pointer offset bits)
perform_memory m bs f l (MemoryOp.LinkCheck wanted) = done (memory_kept m f l (link_to m wanted)) bs

-- the record goes back to its place
abbrev pub memory_out : Machine → ℕ → GrownMemory → Outcome
memory_out m i g = record { answer = g.answer; change = Change.Memory i g.memory; counts = m.counts; fuel = g.fuel; limiter = g.limiter }

-- the same, with the bytes after it
abbrev pub memory_done : Machine → ℕ → Done GrownMemory → Done Outcome
memory_done m i d = done (memory_out m i d.out) d.cells

-- 16, then the operation on the memory's own record
unfoldable pub on_memory : Machine → List ℕ → ℕ → MemoryOp → Done Outcome
on_memory m bs i o =
    unless (ltb i m.counts.memories) (refused m 16 bs)
    (memory_done m i (perform_memory (memory_at m i) bs m.fuel m.limiter o))

-- 10: a creation answers the new number; a refused one takes neither number nor room
unfoldable pub made_memory : Machine → Result Memory Refusal → Limiter → Outcome
made_memory = made (λ (k : Counts). k.memories) one_memory_more Change.Memory

-- the same, with the bytes after it
abbrev pub memory_made : Machine → Done CreatedMemory → Done Outcome
memory_made m c = done (made_memory m c.out.made c.out.limiter) c.cells

-- 17, then a new memory in the next room
unfoldable pub new_memory_on : Machine → List ℕ → ℕ → WantedMemory → Done Outcome
new_memory_on m bs room w =
    unless (both (ltb m.counts.memories capacity) (leb room (length bs - next_byte m))) (refused m 17 bs)
    (memory_made m (new_memory w (next_byte m) room bs m.limiter))
