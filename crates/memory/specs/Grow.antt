-- Document 01, "First check wins", grow memory: by 0 accepted; 6 beyond the bounds; limiter 6/4 without notice; 7 with notice; 8 with notice.
-- WebAssembly Core Specification 3.0, Execution, Modules, growing memories: the answer is the size before, and the new bytes are 0.
use Rattle.std.specs.Prelude.{ℕ, ◌+◌, ◌-◌, ◌*◌, Bool, List, eqb, leb, ltb, length, replicate}
use Rattle.types.specs.Names.{word64, pick, unless, both, Done, done, over, refuse, accept, price, short, paid, says_of, moved, noticed, admits_of}
use Rattle.types.specs.Names.{page_bytes, page_bound, Answer, Fuel, Limiter, MemoryType}
use Rattle.memory.specs.Memory.{pages_of, resized, sound_memory}
use Rattle.memory.specs.declared.{memory.Memory.Memory, grow.GrownMemory.GrownMemory}

-- what a growth gives back
abbrev pub answered : Answer → Memory → Fuel → Limiter → GrownMemory
answered a m f l = record { answer = a; memory = m; fuel = f; limiter = l }

-- new pages within the page bound and the type's maximum, new bytes below 2^64
unfoldable pub may_have : MemoryType → ℕ → Bool
may_have t pages =
    both (leb pages (page_bound t)) (both (admits_of t.limits pages) (ltb (pages * page_bytes t.page) word64))

-- the size in bytes after a growth by n pages
abbrev pub grown_size : Memory → ℕ → ℕ
grown_size m n = (pages_of m + n) * page_bytes m.ty.page

-- the price of the new bytes
abbrev pub growth_price : Memory → ℕ → Fuel → ℕ
growth_price m n f = price f.costs.copied (grown_size m n - m.size)

-- growth by n pages
unfoldable pub grow_memory : Memory → List ℕ → ℕ → Fuel → Limiter → Done GrownMemory
grow_memory m bs n f l =
    unless (sound_memory m (length bs)) (done (answered (refuse 19 0) m f l) bs)
    (pick (eqb n 0) (done (answered (accept (pages_of m)) m f l) bs)
    (unless (may_have m.ty (pages_of m + n)) (done (answered (refuse 6 0) m f l) bs)
    (pick (eqb (says_of l) 1) (done (answered (refuse 6 0) m f (moved l)) bs)
    (pick (eqb (says_of l) 2) (done (answered (refuse 4 0) m f (moved l)) bs)
    (pick (short f (growth_price m n f)) (done (answered (noticed (moved l) 7 (growth_price m n f)) m f (moved (moved l))) bs)
    (unless (leb (grown_size m n) m.room) (done (answered (noticed (moved l) 8 0) m (paid f (growth_price m n f)) (moved (moved l))) bs)
    (done (answered (accept (pages_of m)) (resized m (grown_size m n)) (paid f (growth_price m n f)) (moved l))
    (over bs (m.start + m.size) (replicate (grown_size m n - m.size) 0)))))))))
