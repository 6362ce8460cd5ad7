-- The stages of a creation as the code has them; crates/memory/proofs/Readings.antt shows that together they are `new_memory`.
use Rattle.std.specs.Prelude.{ℕ, List, leb, replicate, Ok, Err, Some, None, Result, Option, ⊤}
use Rattle.types.specs.Done.{Done, done}
use Rattle.types.specs.Span.{over}
use Rattle.types.specs.Answer.{refusal}
use Rattle.types.specs.stages.Grant.{grant_creation}
use Rattle.types.specs.declared.limiter.Limiter.{Limiter}
use Rattle.types.specs.MemoryType.{minimum_bytes}
use Rattle.types.specs.declared.memory_ty.MemoryType.{MemoryType}
use Rattle.memory.specs.New.{refused, memory_of}
use Rattle.memory.specs.declared.memory.Memory.{Memory}
use Rattle.memory.specs.declared.new.CreatedMemory.{CreatedMemory}
use Rattle.types.specs.declared.answer.Refusal.{Refusal}

-- the memory's bytes become 0, whatever stood there
unfoldable pub made_by : Result ⊤ Refusal → Limiter → Memory → List ℕ → Done CreatedMemory
made_by (Err r) l m bs = done (refused l r) bs
made_by (Ok u) l m bs = done (record { made = Ok m; limiter = l }) (over bs m.start (replicate m.size 0))

-- limiter 3/4, room 5 with notice
unfoldable pub made_of : Limiter → Memory → List ℕ → Done CreatedMemory
made_of l m bs =
    made_by (grant_creation l (leb m.size m.room)).permit (grant_creation l (leb m.size m.room)).limiter m bs

-- 2 where the minimum in bytes is 2^64
unfoldable pub by_size : Option ℕ → Limiter → MemoryType → ℕ → ℕ → List ℕ → Done CreatedMemory
by_size None l t start room bs = done (refused l (refusal 2 0)) bs
by_size (Some size) l t start room bs = made_of l (memory_of t start room size) bs

-- 1 where the type is invalid
unfoldable pub by_type : Result MemoryType Refusal → Limiter → ℕ → ℕ → List ℕ → Done CreatedMemory
by_type (Err r) l start room bs = done (refused l r) bs
by_type (Ok t) l start room bs = by_size (minimum_bytes t) l t start room bs

-- the memory that is made of a type: 1 where there is none, 2 where its minimum in bytes is 2^64
unfoldable pub sized : Option ℕ → MemoryType → ℕ → ℕ → Result Memory Refusal
sized None t start room = Err (refusal 2 0)
sized (Some size) t start room = Ok (memory_of t start room size)

unfoldable pub planned : Result MemoryType Refusal → ℕ → ℕ → Result Memory Refusal
planned (Err r) start room = Err r
planned (Ok t) start room = sized (minimum_bytes t) t start room
