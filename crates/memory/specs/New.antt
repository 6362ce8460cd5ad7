-- Document 01, "First check wins", new memory: 1, 2, limiter 3/4, room 5 with notice; not metered; cells become 0.
use Rattle.std.specs.Prelude.{ℕ, ◌+◌, ◌*◌, List, eqb, leb, ltb, length, replicate, Ok, Err}
use Rattle.types.specs.Names.{word64, pick, unless, both, Done, done, over, refusal, says_of, moved, heard_of, page_bytes, page_of, memory_type}
use Rattle.types.specs.Names.{valid_exponent, valid_memory, Refusal, Limiter, MemoryType, WantedMemory}
use Rattle.memory.specs.declared.{memory.Memory.Memory, new.CreatedMemory.CreatedMemory}

-- a refused creation changes no byte
abbrev pub refused : Limiter → Refusal → CreatedMemory
refused l r = record { made = Err r; limiter = l }

-- a memory's record
abbrev pub memory_of : MemoryType → ℕ → ℕ → ℕ → Memory
memory_of t start room size = record { ty = t; start = start; room = room; size = size }

-- the type asked for
abbrev pub wanted : WantedMemory → MemoryType
wanted w = memory_type w.wide (page_of w.exponent) w.limits

-- the minimum in bytes
abbrev pub least_bytes : WantedMemory → ℕ
least_bytes w = w.limits.minimum * page_bytes (page_of w.exponent)

-- a new memory in the room bytes from start on
unfoldable pub new_memory : WantedMemory → ℕ → ℕ → List ℕ → Limiter → Done CreatedMemory
new_memory w start room bs l =
    unless (leb (start + room) (length bs)) (done (refused l (refusal 19 0)) bs)
    (unless (both (valid_exponent w.exponent) (valid_memory (wanted w))) (done (refused l (refusal 1 0)) bs)
    (unless (ltb (least_bytes w) word64) (done (refused l (refusal 2 0)) bs)
    (pick (eqb (says_of l) 1) (done (refused (moved l) (refusal 3 0)) bs)
    (pick (eqb (says_of l) 2) (done (refused (moved l) (refusal 4 0)) bs)
    (unless (leb (least_bytes w) room) (done (refused (moved (moved l)) (heard_of (says_of (moved l)) (refusal 5 0))) bs)
    (done (record { made = Ok (memory_of (wanted w) start room (least_bytes w)); limiter = moved l })
    (over bs start (replicate (least_bytes w) 0))))))))
