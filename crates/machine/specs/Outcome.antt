-- Document 01, "The machine": an operation changes one record at most; what it gives back, and the machine after it.
use Rattle.std.specs.Prelude.{ℕ, ◌+◌, List, ltb, set, Ok, Err, Result}
use Rattle.types.specs.Names.{pick, Done, done, refuse, accept, Answer, Fuel, Limiter}
use Rattle.memory.specs.Names.{Memory}
use Rattle.table.specs.Names.{Table, ElementSegment}
use Rattle.machine.specs.Machine.{capacity}
use Rattle.machine.specs.declared.{records.Machine.Machine, records.Counts.Counts, outcome.Outcome.Outcome, outcome.Change.Change}
use Rattle.types.specs.declared.answer.Refusal.{Refusal}

-- an answer that changes no record, with the fuel and the limiter after it
abbrev pub leaves : Machine → Answer → Fuel → Limiter → Outcome
leaves m a f l = record { answer = a; change = Change.Nothing; counts = m.counts; fuel = f; limiter = l }

-- an answer that leaves fuel and limiter too
abbrev pub keeps : Machine → Answer → Outcome
keeps m a = leaves m a m.fuel m.limiter

-- a creation: it answers the new number, and there is one instance more
abbrev pub creates : Machine → ℕ → Change → Counts → Limiter → Outcome
creates m number c k l = record { answer = accept number; change = c; counts = k; fuel = m.fuel; limiter = l }

-- the same of any kind: a refused creation takes neither number nor room
abbrev pub made : {A : Type 0} → (Counts → ℕ) → (Counts → Counts) → (ℕ → A → Change) → Machine → Result A Refusal → Limiter → Outcome
made used more change m (Err r) l = leaves m (Err r) m.fuel l
made used more change m (Ok r) l = creates m (used m.counts) (change (used m.counts) r) (more m.counts) l

-- a refusal that leaves all as it is, its buffer too
abbrev pub refused : Machine → ℕ → List ℕ → Done Outcome
refused m number cs = done (keeps m (refuse number 0)) cs

-- the same machine with other memories
abbrev pub with_memories : Machine → List Memory → Machine
with_memories m rs =
    record { memories = rs; tables = m.tables; segments = m.segments; counts = m.counts; fuel = m.fuel; limiter = m.limiter }

-- with other tables
abbrev pub with_tables : Machine → List Table → Machine
with_tables m rs =
    record { memories = m.memories; tables = rs; segments = m.segments; counts = m.counts; fuel = m.fuel; limiter = m.limiter }

-- with other segments
abbrev pub with_segments : Machine → List ElementSegment → Machine
with_segments m rs =
    record { memories = m.memories; tables = m.tables; segments = rs; counts = m.counts; fuel = m.fuel; limiter = m.limiter }

-- the record at a place is another; past the eighth place there is none
unfoldable pub changed : Change → Machine → Machine
changed Change.Nothing m = m
changed (Change.Memory i r) m = pick (ltb i capacity) (with_memories m (set m.memories i r)) m
changed (Change.Table i r) m = pick (ltb i capacity) (with_tables m (set m.tables i r)) m
changed (Change.Segment i r) m = pick (ltb i capacity) (with_segments m (set m.segments i r)) m

-- the same records with other numbers, fuel and limiter
abbrev pub standing : Machine → Counts → Fuel → Limiter → Machine
standing m k f l =
    record { memories = m.memories; tables = m.tables; segments = m.segments; counts = k; fuel = f; limiter = l }

-- the same records and numbers with other fuel and limiter
abbrev pub metered : Machine → Fuel → Limiter → Machine
metered m f l = standing m m.counts f l

-- one memory more
abbrev pub one_memory_more : Counts → Counts
one_memory_more k = record { memories = k.memories + 1; tables = k.tables; segments = k.segments }

-- one table more
abbrev pub one_table_more : Counts → Counts
one_table_more k = record { memories = k.memories; tables = k.tables + 1; segments = k.segments }

-- one segment more
abbrev pub one_segment_more : Counts → Counts
one_segment_more k = record { memories = k.memories; tables = k.tables; segments = k.segments + 1 }

-- the machine after an operation
unfoldable pub settled : Machine → Outcome → Machine
settled m o = standing (changed o.change m) o.counts o.fuel o.limiter
