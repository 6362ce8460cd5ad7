-- Document 01, "Access": host reads and writes of any length; length 0 passes at the size and not beyond.
use Rattle.std.specs.Prelude.{ℕ, ◌+◌, List, length}
use Rattle.types.specs.Names.{pick, Done, done, inside, cut, over, refuse, accept, Answer}
use Rattle.memory.specs.{Memory.sound_memory, declared.memory.Memory.Memory}

-- the caller's buffer becomes the bytes from an offset on, within the bytes in use; else 9
unfoldable pub read_used : Memory → List ℕ → ℕ → List ℕ → Done Answer
read_used m bs offset buf =
    pick (inside offset (length buf) m.size)
    (done (accept 0) (cut bs (m.start + offset) (length buf)))
    (done (refuse 9 0) buf)

-- a refused read (9, or 19) leaves the buffer
unfoldable pub read_memory : Memory → List ℕ → ℕ → List ℕ → Done Answer
read_memory m bs offset buf =
    pick (sound_memory m (length bs)) (read_used m bs offset buf) (done (refuse 19 0) buf)

-- the bytes from an offset on, within the bytes in use, become the caller's buffer; else 9
unfoldable pub write_used : Memory → List ℕ → ℕ → List ℕ → Done Answer
write_used m bs offset buf =
    pick (inside offset (length buf) m.size)
    (done (accept 0) (over bs (m.start + offset) buf))
    (done (refuse 9 0) bs)

-- a refused write (9, or 19) changes no byte
unfoldable pub write_memory : Memory → List ℕ → ℕ → List ℕ → Done Answer
write_memory m bs offset buf =
    pick (sound_memory m (length bs)) (write_used m bs offset buf) (done (refuse 19 0) bs)
